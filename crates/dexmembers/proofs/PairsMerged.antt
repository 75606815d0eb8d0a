-- Pairs of two lists that rise, merged, are all of them in their order.
use Rattle.dexmembers.proofs.Common.{◌≡◌, ◌≢◌, ℕ, not, cond, sum_by-cons, ◌+◌, ◌*◌, ◌^◌, ◌<◌, ◌≤◌, nat_lt, Bool, true, false, List, [], ◌∷◌, ◌++◌, length, refl, sym, ap, ◌∙◌, arith, inl, inr, All, Ordering, Less, slice_index, slice_index_or, drop, if◌then◌else◌, ◌==◌, flat_map, zip, nat_cmp, by_order, cases_lt, cond_both, lt-ltb, le-ltb, length-append, length-drop, drop_more, drop_all, get_or-drop, All-nil, All-cons, All-head, All-tail, in_order, add_in_order, uint, pair_cmp, pairs_bytes, length-uint}
use Rattle.std.specs.Prelude.{count_by}
use Rattle.dexspec.proofs.lists.RankOrder.{nat_more}
use Rattle.dexmembers.specs.{put_among, merged, kept_pair, pair_bytes, count_placed}

-- the lesser number first
less : (x y : ℕ) → x < y → nat_cmp x y ≡ Less
less x y lt = rw (lt-ltb x y lt) refl

-- pairs that have not offset 0
abbrev pub kept : List (ℕ × ℕ) → List (ℕ × ℕ)
kept ps = flat_map kept_pair ps

-- all have greater indices
abbrev pub AreAbove : ℕ → List (ℕ × ℕ) → Type 0
AreAbove i ps = All (λ p. i < p.0) ps

-- their indices rise
abbrev pub Ascend : List (ℕ × ℕ) → Type 0
Ascend [] = Unit {0}
Ascend (p ∷ ps) = AreAbove p.0 ps × Ascend ps

-- none has this index
abbrev pub AreOther : ℕ → List (ℕ × ℕ) → Type 0
AreOther i ps = All (λ p. i ≢ p.0) ps

-- ---- what holds of all

among_all : (P : ℕ × ℕ → Type 0) (p : ℕ × ℕ) (rest : List (ℕ × ℕ) → List (ℕ × ℕ)) → P p → ((ys : List (ℕ × ℕ)) → All P ys → All P (rest ys)) → (qs : List (ℕ × ℕ)) → All P qs → All P (put_among p rest qs)
among_all P p rest h f [] k = All-cons P p (rest []) h (f [] k)
among_all P p rest h f (q ∷ qs) k =
    cond_both (nat_lt p.0 q.0) (p ∷ rest (q ∷ qs)) (q ∷ put_among p rest qs) (All P) (λ e. All-cons P p (rest (q ∷ qs)) h (f (q ∷ qs) k)) (λ e. All-cons P q (put_among p rest qs) (All-head P q qs k) (among_all P p rest h f qs (All-tail P q qs k)))

pub merged_all : (P : ℕ × ℕ → Type 0) (ps qs : List (ℕ × ℕ)) → All P ps → All P qs → All P (merged ps qs)
merged_all P [] qs h k = k
merged_all P (p ∷ ps) qs h k = among_all P p (merged ps) (All-head P p ps h) (λ ys l. merged_all P ps ys (All-tail P p ps h) l) qs k

kept_all : (P : ℕ × ℕ → Type 0) (ps : List (ℕ × ℕ)) → All P ps → All P (kept ps)
kept_all P [] h = All-nil P
kept_all P (p ∷ ps) h = by (p.1 == 0) (kept_all P ps (All-tail P p ps h))
  where
    by : (b : Bool) → All P (kept ps) → All P ((if b then [] else p ∷ []) ++ kept ps)
    by true rest = rest
    by false rest = All-cons P p (kept ps) (All-head P p ps h) rest

pub lower_above : (i : ℕ) (q : ℕ × ℕ) → i < q.0 → (ps : List (ℕ × ℕ)) → AreAbove q.0 ps → AreAbove i ps
lower_above i q lt [] h = All-nil (λ (p : ℕ × ℕ). i < p.0)
lower_above i q lt (p ∷ ps) h =
    let Above : ℕ × ℕ → Type 0 = λ p. q.0 < p.0 in
    All-cons (λ (p : ℕ × ℕ). i < p.0) p ps (omega (arith, lt, All-head Above p ps h)) (lower_above i q lt ps (All-tail Above p ps h))

-- ---- one pair more

-- a pair before all others is the first
add_first : (p : ℕ × ℕ) (xs : List (ℕ × ℕ)) → AreAbove p.0 xs → add_in_order pair_cmp p xs ≡ p ∷ xs
add_first p [] h = refl
add_first p (x ∷ xs) h = ap (λ (r : Ordering). by_order r (p ∷ x ∷ xs) (x ∷ xs) (x ∷ add_in_order pair_cmp p xs)) (less p.0 x.0 (All-head (λ (q : ℕ × ℕ). p.0 < q.0) x xs h))

-- one that is after the first is added to the others
add_later : (p x : ℕ × ℕ) (xs : List (ℕ × ℕ)) → x.0 < p.0 → add_in_order pair_cmp p (x ∷ xs) ≡ x ∷ add_in_order pair_cmp p xs
add_later p x xs lt = ap (λ (r : Ordering). by_order r (p ∷ x ∷ xs) (x ∷ xs) (x ∷ add_in_order pair_cmp p xs)) (nat_more p.0 x.0 lt)

-- a pair added, unless its offset is 0
abbrev add_kept : Bool → ℕ × ℕ → List (ℕ × ℕ) → List (ℕ × ℕ)
add_kept b p xs = if b then xs else add_in_order pair_cmp p xs

in_order_next : (p : ℕ × ℕ) (xs : List (ℕ × ℕ)) → in_order pair_cmp (kept_pair p ++ xs) ≡ add_kept (p.1 == 0) p (in_order pair_cmp xs)
in_order_next p xs = by (p.1 == 0)
  where
    by : (b : Bool) → in_order pair_cmp ((if b then [] else p ∷ []) ++ xs) ≡ add_kept b p (in_order pair_cmp xs)
    by true = refl
    by false = refl

-- before all others
kept_first : (p : ℕ × ℕ) (xs : List (ℕ × ℕ)) → AreAbove p.0 xs → add_kept (p.1 == 0) p (kept xs) ≡ kept_pair p ++ kept xs
kept_first p xs h = by (p.1 == 0)
  where
    by : (b : Bool) → add_kept b p (kept xs) ≡ (if b then [] else p ∷ []) ++ kept xs
    by true = refl
    by false = add_first p (kept xs) (kept_all (λ (q : ℕ × ℕ). p.0 < q.0) xs h)

-- a pair after another
kept_later : (p q : ℕ × ℕ) (xs : List (ℕ × ℕ)) → q.0 < p.0 → add_kept (p.1 == 0) p (kept_pair q ++ xs) ≡ kept_pair q ++ add_kept (p.1 == 0) p xs
kept_later p q xs lt = by (p.1 == 0) (q.1 == 0)
  where
    by : (b c : Bool) → add_kept b p ((if c then [] else q ∷ []) ++ xs) ≡ (if c then [] else q ∷ []) ++ add_kept b p xs
    by true c = refl
    by false true = refl
    by false false = add_later p q xs lt

-- one that is less than all of the first list comes first
pub merged_second : (ps : List (ℕ × ℕ)) (q : ℕ × ℕ) (qs : List (ℕ × ℕ)) → AreAbove q.0 ps → merged ps (q ∷ qs) ≡ q ∷ merged ps qs
merged_second [] q qs h = refl
merged_second (p ∷ ps) q qs h =
    ap (λ (b : Bool). if b then p ∷ merged ps (q ∷ qs) else q ∷ put_among p (merged ps) qs) (le-ltb p.0 q.0 (omega (arith, All-head (λ (x : ℕ × ℕ). q.0 < x.0) p ps h)))

-- a pair of the first list is added
merged_more : (p : ℕ × ℕ) (ps qs : List (ℕ × ℕ)) → AreAbove p.0 ps → AreOther p.0 qs → Ascend qs → add_kept (p.1 == 0) p (kept (merged ps qs)) ≡ kept (put_among p (merged ps) qs)
merged_more p ps [] h ne rise = kept_first p (merged ps []) (merged_all (λ (q : ℕ × ℕ). p.0 < q.0) ps [] h (All-nil (λ (q : ℕ × ℕ). p.0 < q.0)))
merged_more p ps (q ∷ qs) h ne rise =
    let Above : ℕ × ℕ → Type 0 = λ x. p.0 < x.0 in
    let Other : ℕ × ℕ → Type 0 = λ x. p.0 ≢ x.0 in
    let first = p ∷ merged ps (q ∷ qs) in
    let later = q ∷ put_among p (merged ps) qs in
    elim (cases_lt p.0 q.0) [
      | inl lt ↦
          kept_first p (merged ps (q ∷ qs)) (merged_all Above ps (q ∷ qs) h (All-cons Above q qs lt (lower_above p.0 q lt qs rise.0)))
          ∙ ap (λ (b : Bool). kept (if b then first else later)) (sym (lt-ltb p.0 q.0 lt))
      | inr le ↦
          let more : q.0 < p.0 = following p.0 q.0 le (All-head Other q qs ne) in
          ap (λ (l : List (ℕ × ℕ)). add_kept (p.1 == 0) p (kept l)) (merged_second ps q qs (lower_above q.0 p more ps h))
          ∙ kept_later p q (kept (merged ps qs)) more
          ∙ ap (λ (l : List (ℕ × ℕ)). kept_pair q ++ l) (merged_more p ps qs h (All-tail Other q qs ne) rise.1)
          ∙ ap (λ (b : Bool). kept (if b then first else later)) (sym (le-ltb p.0 q.0 le))
    ]
  where
    following : (x y : ℕ) → y ≤ x → x ≢ y → y < x
    following x y le ne = elim (cases_lt y x) [ inl lt ↦ lt | inr ge ↦ absurd (ne (omega (arith, le, ge))) ]

-- one list alone
kept_in_order : (qs : List (ℕ × ℕ)) → Ascend qs → in_order pair_cmp (kept qs) ≡ kept qs
kept_in_order [] rise = refl
kept_in_order (q ∷ qs) rise = in_order_next q (kept qs) ∙ ap (add_kept (q.1 == 0) q) (kept_in_order qs rise.1) ∙ kept_first q qs rise.0

-- no index of one list is in the other
abbrev pub AreApart : List (ℕ × ℕ) → List (ℕ × ℕ) → Type 0
AreApart ps qs = All (λ p. AreOther p.0 qs) ps

-- pairs of both lists in order are those of the merged list
pub merged_in_order : (ps qs : List (ℕ × ℕ)) → Ascend ps → Ascend qs → AreApart ps qs → in_order pair_cmp (kept (ps ++ qs)) ≡ kept (merged ps qs)
merged_in_order [] qs rise rises apart = kept_in_order qs rises
merged_in_order (p ∷ ps) qs rise rises apart =
    let Apart : ℕ × ℕ → Type 0 = λ x. AreOther x.0 qs in
    in_order_next p (kept (ps ++ qs)) ∙ ap (add_kept (p.1 == 0) p) (merged_in_order ps qs rise.1 rises (All-tail Apart p ps apart)) ∙ merged_more p ps qs rise.0 (All-head Apart p ps apart) rises

-- ---- bytes and counts

-- the bytes of those that are kept
pub kept_bytes : (ps : List (ℕ × ℕ)) → pairs_bytes (kept ps) ≡ flat_map pair_bytes ps
kept_bytes [] = refl
kept_bytes (p ∷ ps) = by (p.1 == 0) (kept_bytes ps)
  where
    by : (b : Bool) → pairs_bytes (kept ps) ≡ flat_map pair_bytes ps → pairs_bytes ((if b then [] else p ∷ []) ++ kept ps) ≡ (if b then [] else uint p.0 ++ uint p.1) ++ flat_map pair_bytes ps
    by true again = again
    by false again = ap (λ (l : List ℕ). (uint p.0 ++ uint p.1) ++ l) again

-- and how many they are
pub pairs_size : (ps : List (ℕ × ℕ)) → length (flat_map pair_bytes ps) ≡ 8 * length (kept ps)
pairs_size [] = omega arith
pairs_size (p ∷ ps) = by (p.1 == 0) (pairs_size ps)
  where
    by : (b : Bool) → length (flat_map pair_bytes ps) ≡ 8 * length (kept ps) → length ((if b then [] else uint p.0 ++ uint p.1) ++ flat_map pair_bytes ps) ≡ 8 * length ((if b then [] else p ∷ []) ++ kept ps)
    by true again = again
    by false again = omega (arith, length-append (uint p.0 ++ uint p.1) (flat_map pair_bytes ps), length-append (uint p.0) (uint p.1), length-uint p.0, length-uint p.1, again)

-- how many are kept
kept_more : (p : ℕ × ℕ) (ps : List (ℕ × ℕ)) → length (kept (p ∷ ps)) ≡ length (kept_pair p) + length (kept ps)
kept_more p ps = length-append (kept_pair p) (kept ps)

among_count : (p : ℕ × ℕ) (n : ℕ) (rest : List (ℕ × ℕ) → List (ℕ × ℕ)) → ((ys : List (ℕ × ℕ)) → length (kept (rest ys)) ≡ n + length (kept ys)) → (qs : List (ℕ × ℕ)) → length (kept (put_among p rest qs)) ≡ length (kept_pair p) + n + length (kept qs)
among_count p n rest f [] = omega (arith, kept_more p (rest []), f [])
among_count p n rest f (q ∷ qs) =
    cond_both (nat_lt p.0 q.0) (p ∷ rest (q ∷ qs)) (q ∷ put_among p rest qs) (λ (l : List (ℕ × ℕ)). length (kept l) ≡ length (kept_pair p) + n + length (kept (q ∷ qs)))
    (λ e. omega (arith, kept_more p (rest (q ∷ qs)), f (q ∷ qs)))
    (λ e. omega (arith, kept_more q (put_among p rest qs), kept_more q qs, among_count p n rest f qs))

pub kept_count : (ps qs : List (ℕ × ℕ)) → length (kept (merged ps qs)) ≡ length (kept ps) + length (kept qs)
kept_count [] qs = omega arith
kept_count (p ∷ ps) qs = omega (arith, among_count p (length (kept ps)) (merged ps) (kept_count ps) qs, kept_more p ps)

pub placed_count : (is offs : List ℕ) → length offs ≡ length is → length (kept (zip is offs)) ≡ count_placed offs
placed_count [] [] e = refl
placed_count [] (o ∷ os) e = absurd (omega (arith, e))
placed_count (i ∷ is) [] e = absurd (omega (arith, e))
placed_count (i ∷ is) (o ∷ os) e =
    let p : ℕ × ℕ = (i, o) in
    kept_more p (zip is os) ∙ by (o == 0) (length (kept (zip is os))) ∙ ap (λ (n : ℕ). (if o == 0 then 0 else 1) + n) (placed_count is os (omega (arith, e)))
  where
    one : List (ℕ × ℕ)
    one = let p : ℕ × ℕ = (i, o) in p ∷ []

    by : (b : Bool) (n : ℕ) → length (if b then [] else one) + n ≡ (if b then 0 else 1) + n
    by true n = refl
    by false n = refl

pub placed_append : (xs ys : List ℕ) → count_placed (xs ++ ys) ≡ count_placed xs + count_placed ys
placed_append [] ys = omega arith
placed_append (x ∷ xs) ys = omega (arith, placed_append xs ys)

-- ---- one step of merging

-- the index of a place, or what is greater than each
abbrev pub number_or_end : List ℕ → ℕ → ℕ
number_or_end is i = slice_index_or is i 0x100000000

first_put : (p : ℕ × ℕ) (rest : List (ℕ × ℕ) → List (ℕ × ℕ)) (js ks : List ℕ) → length ks ≡ length js → p.0 < number_or_end js 0 → put_among p rest (zip js ks) ≡ p ∷ rest (zip js ks)
first_put p rest [] ks e lt = refl
first_put p rest (j ∷ js) [] e lt = absurd (omega (arith, e))
first_put p rest (j ∷ js) (k ∷ ks) e lt =
    let q : ℕ × ℕ = (j, k) in
    ap (λ (b : Bool). if b then p ∷ rest (q ∷ zip js ks) else q ∷ put_among p rest (zip js ks)) (lt-ltb p.0 j lt)

second_put : (is os : List ℕ) (q : ℕ × ℕ) (qs : List (ℕ × ℕ)) → length os ≡ length is → q.0 ≤ number_or_end is 0 → merged (zip is os) (q ∷ qs) ≡ q ∷ merged (zip is os) qs
second_put [] os q qs e le = refl
second_put (i ∷ is) [] q qs e le = absurd (omega (arith, e))
second_put (i ∷ is) (o ∷ os) q qs e le =
    let p : ℕ × ℕ = (i, o) in
    ap (λ (b : Bool). if b then p ∷ merged (zip is os) (q ∷ qs) else q ∷ put_among p (merged (zip is os)) qs) (le-ltb i q.0 le)

-- what is left of the pairs of two lists
abbrev pub rest_of : List ℕ → List ℕ → List ℕ → List ℕ → ℕ → ℕ → List ℕ
rest_of is os js ks i j = flat_map pair_bytes (merged (zip (drop i is) (drop i os)) (zip (drop j js) (drop j ks)))

at_place : (is : List ℕ) (i : ℕ) → number_or_end (drop i is) 0 ≡ number_or_end is i
at_place is i = get_or-drop i is 0 0x100000000 ∙ ap (number_or_end is) (let e : i + 0 ≡ i = omega arith in e)

pub step_first : (is os js ks : List ℕ) (i j n : ℕ) → length os ≡ length is → length ks ≡ length js → i < length is → n ≡ number_or_end is i → n < number_or_end js j
    → rest_of is os js ks i j ≡ pair_bytes (n, slice_index os i) ++ rest_of is os js ks (i + 1) j
step_first is os js ks i j n e f lt same less =
    let p : ℕ × ℕ = (n, slice_index os i) in
    let qs = zip (drop j js) (drop j ks) in
    let front : drop i is ≡ n ∷ drop (i + 1) is = drop_more is i 0x100000000 lt ∙ ap (λ (x : ℕ). x ∷ drop (i + 1) is) (sym same) in
    let offs : drop i os ≡ slice_index os i ∷ drop (i + 1) os = drop_more os i 0 (omega (arith, e, lt)) in
    ap (flat_map pair_bytes)
    ((λ k. merged (zip (front k) (offs k)) qs)
    ∙ first_put p (merged (zip (drop (i + 1) is) (drop (i + 1) os))) (drop j js) (drop j ks) (omega (arith, length-drop j js, length-drop j ks, f)) (omega (arith, less, at_place js j)))

pub step_second : (is os js ks : List ℕ) (i j n : ℕ) → length os ≡ length is → length ks ≡ length js → j < length js → n ≡ number_or_end js j → n ≤ number_or_end is i
    → rest_of is os js ks i j ≡ pair_bytes (n, slice_index ks j) ++ rest_of is os js ks i (j + 1)
step_second is os js ks i j n e f lt same le =
    let q : ℕ × ℕ = (n, slice_index ks j) in
    let ps = zip (drop i is) (drop i os) in
    let front : drop j js ≡ n ∷ drop (j + 1) js = drop_more js j 0x100000000 lt ∙ ap (λ (x : ℕ). x ∷ drop (j + 1) js) (sym same) in
    let offs : drop j ks ≡ slice_index ks j ∷ drop (j + 1) ks = drop_more ks j 0 (omega (arith, f, lt)) in
    ap (flat_map pair_bytes)
    ((λ k. merged ps (zip (front k) (offs k)))
    ∙ second_put (drop i is) (drop i os) q (zip (drop (j + 1) js) (drop (j + 1) ks)) (omega (arith, length-drop i is, length-drop i os, e)) (omega (arith, le, at_place is i)))

pub step_last : (is os js ks : List ℕ) (i j : ℕ) → length is ≤ i → length js ≤ j → rest_of is os js ks i j ≡ []
step_last is os js ks i j le ge =
    let front = drop_all i is le in
    let back = drop_all j js ge in
    λ k. flat_map pair_bytes (merged (zip (front k) (drop i os)) (zip (back k) (drop j ks)))

-- ---- which comes first

-- where the first is less, its list has one left
pub first_there : (i n j k one other : ℕ) → (n ≤ i → one ≡ 0x100000000) → (j < k → other < 2 ^ 32) → (k ≤ j → other ≡ 0x100000000) → one < other → i < n
first_there i n j k one other past there end less = elim (cases_lt i n) [
  | inl lt ↦ lt
  | inr le ↦ absurd (elim (cases_lt j k) [ inl lt ↦ let a = past le in let b = there lt in omega (arith, a, b, less) | inr ge ↦ let a = past le in let b = end ge in omega (arith, a, b, less) ])
]

-- and where it is not, the other list has
pub second_there : (i n j k one other : ℕ) → (i < n → one < 2 ^ 32) → (k ≤ j → other ≡ 0x100000000) → other ≤ one → i ≤ n → i + j < n + k → j < k
second_there i n j k one other there end le few left = elim (cases_lt j k) [
  | inl lt ↦ lt
  | inr ge ↦ absurd (elim (cases_lt i n) [ inl lt ↦ let a = there lt in let b = end ge in omega (arith, a, b, le) | inr past ↦ omega (arith, past, ge, left) ])
]

-- one more is counted, or none
one_counted : (b : Bool) (n m : ℕ) → n ≡ m → cond (not b) 1 0 + n ≡ (if b then 0 else 1) + m
one_counted true n m e = ap (λ (k : ℕ). 0 + k) e
one_counted false n m e = ap (λ (k : ℕ). 1 + k) e

-- as many as are counted
pub placed_counted : (os : List ℕ) → count_by (λ o. not (o == 0)) os ≡ count_placed os
placed_counted [] = refl
placed_counted (o ∷ os) = sum_by-cons (λ (p : ℕ). cond (not (p == 0)) 1 0) o os ∙ one_counted (o == 0) _ _ (placed_counted os)

one_or_none : (b : Bool) (n m : ℕ) → n ≤ m → (if b then 0 else 1) + n ≤ 1 + m
one_or_none true n m le = omega (arith, le)
one_or_none false n m le = omega (arith, le)

-- no more than there are
pub placed_few : (os : List ℕ) → count_placed os ≤ length os
placed_few [] = omega arith
placed_few (o ∷ os) = let le = one_or_none (o == 0) (count_placed os) (length os) (placed_few os) in omega (arith, le)
