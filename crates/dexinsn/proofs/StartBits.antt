-- Starts of instructions as bits of words.
use Rattle.dexinsn.proofs.Common.{◌≡◌, ℕ, ◌+◌, ◌-◌, ◌*◌, ◌/◌, ◌%◌, ◌^◌, ◌<◌, ◌≤◌, ℤ, pos, ◌+ℤ◌, ◌<ℤ◌, to_z, of_z, w32, Bool, true, false, not, ◌||◌, List, length, set, slice_index, replicate, inl, inr, refl, ap, sym, ◌∙◌, subst, arith, w64, negsuc, SFits, ◌↔◌, ◌⊎◌, bit_and, bit_or, max, bit_at, bit_not, from_bool, ints, cases_eq, cases_lt, All, All-weaker, get_or-set_same, get_or-set_other, get_or-replicate, get_or_past, length-replicate, bit_at_and, bit_at_or, bit_at_not, bit_at-lt, bit_at-zero, bit_at_above, bit_at_cat_low, bit_at_cat_high, bit_at_set_same, bit_at_set_other, same_from_bits_below, Cut, is_instruction_start, is_payload_ident, AllInGroup, AreGrouped, AreStartBits, HasBit, HasPlaces, EndsEmpty, are_right_targets, AreBitsOf, begins_instruction, TargetGroup}
use Rattle.std.proofs.lemmas.Nat.{and_le_l, shr-shr, shr_split, pow_pos}
use Rattle.dexinsn.specs.internal.{HasPlace}
use Rattle.dexinsn.proofs.Starts.{starts_with-below}

-- ---- 64 bits from one on

-- the upper bits of a word, put down
pub low_part : (a s i : ℕ) → bit_at (a / 2 ^ s) i ≡ bit_at a (s + i)
low_part a s i = ap (λ x. x % 2) (shr-shr a s i)

-- what goes over the end of a word changes none of its bits
within_word : (x i : ℕ) → i < 64 → bit_at (x % 2 ^ 64) i ≡ bit_at x i
within_word x i lt = sym (bit_at_cat_low (x / 2 ^ 64) 64 (x % 2 ^ 64) i lt) ∙ ap (λ y. bit_at y i) (shr_split x 64)

-- the lower bits of a word, put up
high_part : (b k i : ℕ) → i < 64 → k ≤ i → bit_at (b * 2 ^ k % 2 ^ 64) i ≡ bit_at b (i - k)
high_part b k i lt from = let plain : b * 2 ^ k ≡ b * 2 ^ k + 0 = omega arith in within_word (b * 2 ^ k) i lt ∙ ap (λ y. bit_at y i) plain ∙ bit_at_cat_high b k 0 i (pow_pos k) from

high_none : (b k i : ℕ) → i < 64 → i < k → bit_at (b * 2 ^ k % 2 ^ 64) i ≡ 0
high_none b k i lt below = let plain : b * 2 ^ k ≡ b * 2 ^ k + 0 = omega arith in within_word (b * 2 ^ k) i lt ∙ ap (λ y. bit_at y i) plain ∙ bit_at_cat_low b k 0 i below ∙ bit_at-zero i

-- the bit at unit + i, where the word begins at the unit
pub bits_of_word : (words : List ℕ) (unit s i : ℕ) → unit % 64 ≡ s → s ≡ 0 → i < 64 → HasBit words (unit + i) ↔ (bit_at (slice_index words (unit / 64) / 2 ^ s) i ≡ 1)
unfolding HasBit
bits_of_word words unit s i is even lt =
    let word : (unit + i) / 64 ≡ unit / 64 = omega arith in
    let bit : s + i ≡ (unit + i) % 64 = omega arith in
    let same : bit_at (slice_index words (unit / 64) / 2 ^ s) i ≡ bit_at (slice_index words ((unit + i) / 64)) ((unit + i) % 64) =
    low_part (slice_index words (unit / 64)) s i ∙ (λ j. bit_at (slice_index words (sym word j)) (bit j)) in
    (λ e. same ∙ e, λ e. sym same ∙ e)

-- the same where it begins within a word
pub bits_of_words : (words : List ℕ) (unit s i : ℕ) → unit % 64 ≡ s → 0 < s → slice_index words (unit / 64) < 2 ^ 64 → i < 64
    → HasBit words (unit + i) ↔ (bit_at (bit_or (slice_index words (unit / 64) / 2 ^ s) (slice_index words (unit / 64 + 1) * 2 ^ (64 - s) % 2 ^ 64)) i ≡ 1)
unfolding HasBit
bits_of_words words unit s i is some small lt =
    let a : ℕ = slice_index words (unit / 64) in
    let b : ℕ = slice_index words (unit / 64 + 1) in
    let either = bit_at_or (a / 2 ^ s) (b * 2 ^ (64 - s) % 2 ^ 64) i in
    elim (cases_lt (s + i) 64) [
      | inl below ↦
          let word : (unit + i) / 64 ≡ unit / 64 = omega arith in
          let bit : (unit + i) % 64 ≡ s + i = omega arith in
          let here : bit_at (slice_index words ((unit + i) / 64)) ((unit + i) % 64) ≡ bit_at a (s + i) = λ j. bit_at (slice_index words (word j)) (bit j) in
          let low = low_part a s i in
          let high = high_none b (64 - s) i lt (omega arith) in (λ e. omega (arith, here, low, high, either, bit_at-lt a (s + i)), λ e. omega (arith, here, low, high, either, bit_at-lt a (s + i)))
      | inr beyond ↦
          let word : (unit + i) / 64 ≡ unit / 64 + 1 = omega arith in
          let bit : (unit + i) % 64 ≡ i - (64 - s) = omega arith in
          let here : bit_at (slice_index words ((unit + i) / 64)) ((unit + i) % 64) ≡ bit_at b (i - (64 - s)) = λ j. bit_at (slice_index words (word j)) (bit j) in
          let low : bit_at (a / 2 ^ s) i ≡ 0 = low_part a s i ∙ bit_at_above a 64 (s + i) small beyond in
          let high = high_part b (64 - s) i lt (omega arith) in (λ e. omega (arith, here, low, high, either, bit_at-lt b (i - (64 - s))), λ e. omega (arith, here, low, high, either, bit_at-lt b (i - (64 - s))))
    ]

-- ---- a mask within a word

bit_or_not : (n i : ℕ) → (bit_at n i ≡ 1) ⊎ (bit_at n i ≡ 0)
bit_or_not n i = elim (cases_eq (bit_at n i) 1) [
  | inl one ↦ inl one
  | inr other ↦ inr (omega (arith, bit_at-lt n i))
]

-- nothing of the mask is left beside the word exactly where the word has its bits
pub mask_within : (mask word : ℕ) → mask < 2 ^ 64 → word < 2 ^ 64 → (bit_and mask (bit_not w64 word) ≡ 0) ↔ ((i : ℕ) → i < 64 → bit_at mask i ≡ 1 → bit_at word i ≡ 1)
mask_within mask word fits small = (
  λ e i lt one.
      omega (arith, ap (λ x. bit_at x i) e ∙ bit_at-zero i, bit_at_and mask (bit_not w64 word) i, bit_at_not w64 word i small lt, bit_at-lt word i),
  λ all. same_from_bits_below 64 (bit_and mask (bit_not w64 word)) 0 (omega (arith, and_le_l mask (bit_not w64 word))) (omega arith) (λ i lt.
      let none : bit_at 0 i ≡ 0 = bit_at-zero i in
      elim (bit_or_not mask i) [
        | inl one ↦ omega (arith, none, all i lt one, bit_at_and mask (bit_not w64 word) i, bit_at_not w64 word i small lt)
        | inr zero ↦ omega (arith, none, zero, bit_at_and mask (bit_not w64 word) i)
      ]),
)

-- ---- places

-- no place is below 0
pub none_below : (words : List ℕ) (z : ℤ) (mask : ℕ) → z <ℤ pos 0 → bit_at mask 0 ≡ 1 → HasPlaces words z mask → ⊥
none_below words (pos n) mask below first all = omega (arith, ints)
none_below words (negsuc n) mask below first all = let same : negsuc n +ℤ pos 0 ≡ negsuc n = omega (arith, ints) in subst (HasPlace words) same (all 0 (omega arith) first)

-- the places from a unit on are those of the word from it on
pub places_are : (words : List ℕ) (z : ℤ) (unit mask word : ℕ) → z ≡ pos unit → mask < 2 ^ 64 → word < 2 ^ 64 → ((i : ℕ) → i < 64 → HasBit words (unit + i) ↔ (bit_at word i ≡ 1))
    → (bit_and mask (bit_not w64 word) ≡ 0) ↔ HasPlaces words z mask
places_are words z unit mask word at fits small bits =
    let both = mask_within mask word fits small in (
      λ e i lt one. subst (λ (p : ℤ). HasPlace words (p +ℤ pos i)) (sym at) ((bits i lt).1 (both.0 e i lt one)),
      λ all. both.1 (λ i lt one. (bits i lt).0 (subst (λ (p : ℤ). HasPlace words (p +ℤ pos i)) at (all i lt one))),
    )

-- the sum of a unit and a number of 32 bits
pub sum_is : (at : ℕ) (first wide : ℤ) → at < 2 ^ 62 → SFits w32 first → wide ≡ to_z w32 (of_z w32 first) → pos at +ℤ first ≡ to_z w64 (of_z w64 (to_z w64 at +ℤ to_z w64 (of_z w64 wide)))
sum_is at first wide small fits widened = omega (arith, ints)

-- ---- a bit is set

-- the words with the bit of a unit set
abbrev pub with_bit : List ℕ → ℕ → List ℕ
with_bit words unit = set words (unit / 64) (bit_or (slice_index words (unit / 64)) (1 * 2 ^ (unit % 64) % 2 ^ 64))

pub bit_is_set : (words : List ℕ) (unit : ℕ) → unit / 64 < length words → HasBit (with_bit words unit) unit
unfolding HasBit
bit_is_set words unit within =
    ap (λ w. bit_at w (unit % 64)) (get_or-set_same words (unit / 64) (bit_or (slice_index words (unit / 64)) (1 * 2 ^ (unit % 64) % 2 ^ 64)) 0 within)
    ∙ bit_at_set_same w64 (slice_index words (unit / 64)) (unit % 64) (omega arith)

-- every other unit has the bit that it had
same_bit : (words : List ℕ) (unit k : ℕ) → unit / 64 < length words → (k ≡ unit → ⊥) → bit_at (slice_index (with_bit words unit) (k / 64)) (k % 64) ≡ bit_at (slice_index words (k / 64)) (k % 64)
same_bit words unit k within other =
    let mask : ℕ = 1 * 2 ^ (unit % 64) % 2 ^ 64 in
    elim (cases_eq (k / 64) (unit / 64)) [
      | inl same ↦
          let apart : k % 64 ≡ unit % 64 → ⊥ = λ e. other (omega arith) in
          ap (λ j. bit_at (slice_index (with_bit words unit) j) (k % 64)) same ∙ ap (λ w. bit_at w (k % 64)) (get_or-set_same words (unit / 64) (bit_or (slice_index words (unit / 64)) mask) 0 within)
          ∙ bit_at_set_other w64 (slice_index words (unit / 64)) (unit % 64) (omega arith) (k % 64) apart ∙ ap (λ j. bit_at (slice_index words j) (k % 64)) (sym same)
      | inr elsewhere ↦ ap (λ w. bit_at w (k % 64)) (get_or-set_other words (unit / 64) (k / 64) (bit_or (slice_index words (unit / 64)) mask) 0 elsewhere)
    ]

pub others_stay : (words : List ℕ) (unit k : ℕ) → unit / 64 < length words → (k ≡ unit → ⊥) → HasBit (with_bit words unit) k ↔ HasBit words k
unfolding HasBit
others_stay words unit k within other = let same = same_bit words unit k within other in (λ e. sym same ∙ e, λ e. same ∙ e)

-- ---- a bit is put

-- the words with the bit of a unit put
abbrev pub with_put : List ℕ → ℕ → Bool → List ℕ
with_put words unit bit = set words (unit / 64) (bit_or (slice_index words (unit / 64)) (from_bool bit * 2 ^ (unit % 64) % 2 ^ 64))

-- the words with the bits of a mask
abbrev with_mask : List ℕ → ℕ → ℕ → List ℕ
with_mask words unit mask = set words (unit / 64) (bit_or (slice_index words (unit / 64)) mask)

blank_bit : (words : List ℕ) (unit k mask : ℕ) → mask ≡ 0 → unit / 64 < length words → bit_at (slice_index (with_mask words unit mask) (k / 64)) (k % 64) ≡ bit_at (slice_index words (k / 64)) (k % 64)
blank_bit words unit k mask none within = elim (cases_eq (k / 64) (unit / 64)) [
  | inl same ↦
      ap (λ j. bit_at (slice_index (with_mask words unit mask) j) (k % 64)) same ∙ ap (λ w. bit_at w (k % 64)) (get_or-set_same words (unit / 64) (bit_or (slice_index words (unit / 64)) mask) 0 within)
      ∙ (bit_at_or (slice_index words (unit / 64)) mask (k % 64) ∙ ap (max (bit_at (slice_index words (unit / 64)) (k % 64))) (ap (λ m. bit_at m (k % 64)) none ∙ bit_at-zero (k % 64)) ∙ omega arith)
      ∙ ap (λ j. bit_at (slice_index words j) (k % 64)) (sym same)
  | inr apart ↦ ap (λ w. bit_at w (k % 64)) (get_or-set_other words (unit / 64) (k / 64) (bit_or (slice_index words (unit / 64)) mask) 0 apart)
]

pub bit_is_put : (words : List ℕ) (unit : ℕ) (bit : Bool) → unit / 64 < length words → bit ≡ true → HasBit (with_put words unit bit) unit
bit_is_put words unit true within e = bit_is_set words unit within
bit_is_put words unit false within e = absurd cc

pub others_kept : (words : List ℕ) (unit k : ℕ) (bit : Bool) → unit / 64 < length words → (k ≡ unit → bit ≡ true → ⊥) → HasBit (with_put words unit bit) k ↔ HasBit words k
unfolding HasBit
others_kept words unit k true within other = others_stay words unit k within (λ e. other e refl)
others_kept words unit k false within other = let same = blank_bit words unit k (0 * 2 ^ (unit % 64) % 2 ^ 64) (omega arith) within in (λ e. sym same ∙ e, λ e. same ∙ e)

-- ---- the bits of pieces

-- no bit is set yet
pub none_set : (n k : ℕ) → HasBit (replicate n 0) k → ⊥
unfolding HasBit
none_set n k has = elim (cases_lt (k / 64) n) [
  | inl within ↦ absurd (let none = ap (λ w. bit_at w (k % 64)) (get_or-replicate n (k / 64) 0 0 within) ∙ bit_at-zero (k % 64) in omega arith)
  | inr past ↦ absurd (
      let none = ap (λ w. bit_at w (k % 64)) (get_or_past (replicate n 0) (k / 64) 0 (omega (arith, length-replicate {A = ℕ} n 0))) ∙ bit_at-zero (k % 64) in omega arith)
]

pub or_nothing : (x y : Bool) → y ≡ false → (x || (y || false)) ≡ x
or_nothing true y none = refl
or_nothing false y none = cc

pub or_last : (x y : Bool) → y ≡ true → (x || (y || false)) ≡ true
or_last true y some = refl
or_last false y some = cc

-- the last word has no bit
pub ends_empty : (test : ℕ → Bool) (us : List ℕ) (cs : List Cut) (words : List ℕ) → AreBitsOf test us cs words → EndsEmpty words
ends_empty test us cs words h = λ k past has. omega (arith, h.room, h.inside k has)

-- ---- targets by their groups

pub same_test : (a b : Bool) → (a ≡ true → b ≡ true) → (b ≡ true → a ≡ true) → a ≡ b
same_test true b f g = sym (f refl)
same_test false true f g = g refl
same_test false false f g = refl

-- a place is one of these exactly where an instruction begins there
place_is : (us : List ℕ) (cs : List Cut) (words : List ℕ) (z : ℤ) → AreStartBits us cs words → HasPlace words z ↔ (is_instruction_start us cs z ≡ true)
place_is us cs words (pos k) starts = starts.each k
place_is us cs words (negsuc k) starts = (λ none. absurd none, λ e. absurd (let none : is_instruction_start us cs (negsuc k) ≡ false = starts_with-below (λ u. not (is_payload_ident u)) us cs (negsuc k) (omega (arith, ints)) in cc))

sum_of_three : (a b c : ℤ) → a +ℤ b +ℤ c ≡ a +ℤ (b +ℤ c)
sum_of_three a b c = omega (arith, ints)

-- so for the places of a group
group_is : (us : List ℕ) (cs : List Cut) (words : List ℕ) (at : ℕ) (g : TargetGroup) → AreStartBits us cs words → HasPlaces words (pos at +ℤ g.first) g.bits ↔ AllInGroup (λ t. is_instruction_start us cs (pos at +ℤ t)) g
group_is us cs words at g starts = (
  λ all i lt one. ap (is_instruction_start us cs) (sym (sum_of_three (pos at) g.first (pos i))) ∙ (place_is us cs words (pos at +ℤ g.first +ℤ pos i) starts).0 (all i lt one),
  λ all i lt one. (place_is us cs words (pos at +ℤ g.first +ℤ pos i) starts).1 (ap (is_instruction_start us cs) (sum_of_three (pos at) g.first (pos i)) ∙ all i lt one),
)

-- targets are right exactly where those of their groups are
pub groups_are : (us : List ℕ) (cs : List Cut) (words : List ℕ) (at : ℕ) (ts : List ℤ) (groups : List TargetGroup) (r : Bool) → AreStartBits us cs words → AreGrouped ts groups
    → (r ≡ true) ↔ All (λ g. HasPlaces words (pos at +ℤ g.first) g.bits) groups → r ≡ are_right_targets us cs at ts
groups_are us cs words at ts groups r starts grouped says =
    let test : ℤ → Bool = λ t. is_instruction_start us cs (pos at +ℤ t) in
    same_test r (are_right_targets us cs at ts)
    (λ e. (grouped test).1 (All-weaker (λ (g : TargetGroup). HasPlaces words (pos at +ℤ g.first) g.bits) (AllInGroup test) (λ g. (group_is us cs words at g starts).0) groups (says.0 e)))
    (λ e. says.1 (All-weaker (AllInGroup test) (λ (g : TargetGroup). HasPlaces words (pos at +ℤ g.first) g.bits) (λ g. (group_is us cs words at g starts).1) groups ((grouped test).0 e)))

-- the bits of instructions are those of their starts
pub start_bits : (us : List ℕ) (cs : List Cut) (words : List ℕ) → AreBitsOf begins_instruction us cs words → AreStartBits us cs words
start_bits us cs words h = record { each = h.each; last = ends_empty begins_instruction us cs words h }
