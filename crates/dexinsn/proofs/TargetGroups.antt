-- Targets in groups.
use Rattle.dexinsn.proofs.Common.{and_from, ◌≡◌, ℕ, suc, ◌+◌, ◌*◌, ◌%◌, ◌^◌, ◌<◌, ℤ, pos, ◌+ℤ◌, Bool, true, ◌&&◌, List, [], ◌∷◌, ◌++◌, length, take, get_or, Some, inl, inr, refl, ap, sym, ◌∙◌, arith, w64, ◌↔◌, bit_or, bit_at, All, list_all, IsPermutation, ints, cases_eq, and_parts, bit_at_or, bit_at-lt, bit_at_set_same, bit_at_set_other, bit_at-pow_same, bit_at-pow_other, append_assoc, All-push, All-pop, list_all_more, All-permutation, IsPermutation-sym, int_in, ints_in, TargetGroup, AllFrom, AllInGroup, AreGrouped}
use Rattle.std.proofs.lemmas.List.Sums.{AllPass-from_list_all, list_all-from_AllPass}

-- a number and nothing
and_none : (z : ℤ) → z +ℤ pos 0 ≡ z
and_none z = omega (arith, ints)

-- ---- one group

-- the bit of the first is the only one of 1
only_first : (i : ℕ) → bit_at 1 i ≡ 1 → i ≡ 0
only_first i set = elim (cases_eq i 0) [
  | inl same ↦ same
  | inr other ↦ absurd (let none : bit_at 1 i ≡ 0 = bit_at-pow_other 0 i other in omega arith)
]

pub one_target : (test : ℤ → Bool) (t : ℤ) → AllFrom test t 1 ↔ (test t ≡ true)
one_target test t = (
  λ all. ap test (sym (and_none t)) ∙ all 0 (omega arith) (bit_at-pow_same 0),
  λ passes i lt set. ap (λ (k : ℕ). test (t +ℤ pos k)) (only_first i set) ∙ ap test (and_none t) ∙ passes,
)

-- a bit that is set stays set
pub bit_stays : (bits mask i : ℕ) → bit_at bits i ≡ 1 → bit_at (bit_or bits mask) i ≡ 1
bit_stays bits mask i set = omega (arith, bit_at_or bits mask i, bit_at-lt mask i)

-- with one bit more there is one target more
pub one_more : (test : ℤ → Bool) (first target : ℤ) (bits k : ℕ) → k < 64 → first +ℤ pos k ≡ target
    → AllFrom test first (bit_or bits (1 * 2 ^ k % 2 ^ 64)) ↔ (AllFrom test first bits × (test target ≡ true))
one_more test first target bits k within at = (
  λ all. (λ i lt set. all i lt (bit_stays bits (1 * 2 ^ k % 2 ^ 64) i set), ap test (sym at) ∙ all k within (bit_at_set_same w64 bits k within)),
  λ both i lt set. elim (cases_eq i k) [
    | inl same ↦ ap (λ (j : ℕ). test (first +ℤ pos j)) same ∙ ap test at ∙ both.1
    | inr other ↦ both.0 i lt (sym (bit_at_set_other w64 bits k within i other) ∙ set)
  ],
)

-- ---- groups

-- the first i targets pass a test exactly where those of the groups and of one more group do
abbrev pub AreGroupedTo : List ℤ → ℕ → List TargetGroup → TargetGroup → Type 0
AreGroupedTo ts i groups g = (test : ℤ → Bool) → (list_all test (take i ts) ≡ true) ↔ (All (AllInGroup test) groups × AllInGroup test g)

-- the next target is one of the group
pub next_near : (ts : List ℤ) (i : ℕ) (groups : List TargetGroup) (g h : TargetGroup) (t : ℤ) → i < length ts → t ≡ get_or ts i t → AreGroupedTo ts i groups g
    → ((test : ℤ → Bool) → AllInGroup test h ↔ (AllInGroup test g × (test t ≡ true))) → AreGroupedTo ts (i + 1) groups h
next_near ts i groups g h t lt at before more test =
    let next : list_all test (take (i + 1) ts) ≡ (list_all test (take i ts) && test t) = list_all_more test ts i t lt ∙ ap (λ (z : ℤ). list_all test (take i ts) && test z) (sym at) in (
      λ all.
          let parts = and_parts (list_all test (take i ts)) (test t) (sym next ∙ all) in
          let old = (before test).0 parts.0 in
          (old.0, (more test).1 (old.1, parts.1)),
      λ both.
          let new = (more test).0 both.1 in
          next ∙ and_from (list_all test (take i ts)) (test t) ((before test).1 (both.0, new.0)) new.1,
    )

-- the next target begins a group
pub next_far : (ts : List ℤ) (i : ℕ) (groups : List TargetGroup) (g h : TargetGroup) (t : ℤ) → i < length ts → t ≡ get_or ts i t → AreGroupedTo ts i groups g
    → ((test : ℤ → Bool) → AllInGroup test h ↔ (test t ≡ true)) → AreGroupedTo ts (i + 1) (groups ++ g ∷ []) h
next_far ts i groups g h t lt at before one test =
    let next : list_all test (take (i + 1) ts) ≡ (list_all test (take i ts) && test t) = list_all_more test ts i t lt ∙ ap (λ (z : ℤ). list_all test (take i ts) && test z) (sym at) in (
      λ all.
          let parts = and_parts (list_all test (take i ts)) (test t) (sym next ∙ all) in
          let old = (before test).0 parts.0 in
          (All-push (AllInGroup test) groups g old.0 old.1, (one test).1 parts.1),
      λ both.
          let old = All-pop (AllInGroup test) (groups ++ g ∷ []) groups (Some g) refl both.0 in
          next ∙ and_from (list_all test (take i ts)) (test t) ((before test).1 (old.0, old.1)) ((one test).0 both.1),
    )

-- the first target begins the first group
pub first_grouped : (ts : List ℤ) (g : TargetGroup) (t : ℤ) → 0 < length ts → t ≡ get_or ts 0 t → ((test : ℤ → Bool) → AllInGroup test g ↔ (test t ≡ true)) → AreGroupedTo ts 1 [] g
first_grouped ts g t some at one test =
    let first : list_all test (take 1 ts) ≡ test t = (list_all_more test ts 0 t some) ∙ ap test (sym at) in (
      λ all. (λ i d lt. absurd (omega arith), (one test).1 (sym first ∙ all)),
      λ both. first ∙ (one test).0 both.1,
    )

-- the last group is put after the others
pub all_grouped : (ts : List ℤ) (i : ℕ) (groups : List TargetGroup) (g : TargetGroup) → take i ts ≡ ts → AreGroupedTo ts i groups g → AreGrouped ts (groups ++ g ∷ [])
all_grouped ts i groups g whole before test = (
  λ all. let old = (before test).0 (ap (list_all test) whole ∙ all) in All-push (AllInGroup test) groups g old.0 old.1,
  λ all. let old = All-pop (AllInGroup test) (groups ++ g ∷ []) groups (Some g) refl all in ap (list_all test) (sym whole) ∙ (before test).1 (old.0, old.1),
)

-- one target more is read
pub one_read : (us : List ℕ) (all read : List ℤ) (z : ℤ) (i j n k : ℕ) → n ≡ suc k → j ≡ i + 2 → int_in us i ≡ z → all ≡ read ++ ints_in us i n → all ≡ (read ++ z ∷ []) ++ ints_in us j k
one_read us all read z i j n k more next is before =
    before ∙ ap (λ (m : ℕ). read ++ ints_in us i m) more ∙ ap (λ (t : ℤ). read ++ t ∷ ints_in us (i + 2) k) is ∙ ap (λ (p : ℕ). read ++ z ∷ ints_in us p k) (sym next) ∙ sym (append_assoc read (z ∷ []) (ints_in us j k))

-- in another order the targets are the same
pub sorted_grouped : (ts sorted : List ℤ) (groups : List TargetGroup) → IsPermutation ts sorted → AreGrouped sorted groups → AreGrouped ts groups
sorted_grouped ts sorted groups moved grouped test = (
  λ all. (grouped test).0 (list_all-from_AllPass test sorted (All-permutation (λ (t : ℤ). test t ≡ true) ts sorted moved (AllPass-from_list_all test ts all))),
  λ all. list_all-from_AllPass test ts (All-permutation (λ (t : ℤ). test t ≡ true) sorted ts (IsPermutation-sym ts sorted moved) (AllPass-from_list_all test sorted ((grouped test).1 all))),
)
