-- The next bit that is set.
use Rattle.dexinsn.proofs.Common.{◌≡◌, ℕ, ◌+◌, ◌-◌, ◌*◌, ◌/◌, ◌%◌, ◌^◌, ◌<◌, ◌≤◌, w64, List, length, slice_index, inl, inr, ap, sym, ◌∙◌, arith, bit_at, trailing_zeros, cases_lt, bit_at-zero, bit_at_above, bit_at-trailing_zeros, HasBit, HasNoBit, IsNextBit}
use Rattle.std.proofs.Math.Nat.{div-le_self}
use Rattle.dexinsn.proofs.Placed.{no_bit_past}
use Rattle.dexinsn.proofs.StartBits.{low_part}

-- no bit is set from one unit up to another
pub record NoneUpTo (words : List ℕ) (from at : ℕ) : Type 0 where
  pub following : from ≤ at
  pub none : (k : ℕ) → from ≤ k → k < at → HasBit words k → ⊥

pub none_yet : (words : List ℕ) (from : ℕ) → NoneUpTo words from from
none_yet words from = record { following = omega arith; none = λ k le lt has. omega (arith, le, lt) }

-- the bits of a word from one on
rest_of : (words : List ℕ) (at k : ℕ) → at ≤ k → k / 64 ≡ at / 64 → HasBit words k → bit_at (slice_index words (at / 64) / 2 ^ (at % 64)) (k - at) ≡ 1
unfolding HasBit
rest_of words at k le word has =
    let place : at % 64 + (k - at) ≡ k % 64 = omega (arith, le, word) in low_part (slice_index words (at / 64)) (at % 64) (k - at) ∙ (λ j. bit_at (slice_index words (sym word j)) (place j)) ∙ has

bit_back : (words : List ℕ) (at k : ℕ) → at ≤ k → k / 64 ≡ at / 64 → bit_at (slice_index words (at / 64) / 2 ^ (at % 64)) (k - at) ≡ 1 → HasBit words k
unfolding HasBit
bit_back words at k le word is =
    let place : at % 64 + (k - at) ≡ k % 64 = omega (arith, le, word) in (λ j. bit_at (slice_index words (word j)) (sym place j)) ∙ sym (low_part (slice_index words (at / 64)) (at % 64) (k - at)) ∙ is

-- nothing is left of a word
pub word_done : (words : List ℕ) (from at : ℕ) → NoneUpTo words from at → slice_index words (at / 64) / 2 ^ (at % 64) ≡ 0 → NoneUpTo words from ((at / 64 + 1) * 64)
word_done words from at h is = record {
  following = let b = h.following in omega arith;
  none = λ k le lt has. elim (cases_lt k at) [
    | inl below ↦ h.none k le below has
    | inr beyond ↦ let one = rest_of words at k beyond (omega arith) has in let none = ap (λ w. bit_at w (k - at)) is ∙ bit_at-zero (k - at) in omega (arith, one, none)
  ];
}

-- the first bit of what is left
pub word_has : (words : List ℕ) (from at rest : ℕ) → NoneUpTo words from at → rest ≡ slice_index words (at / 64) / 2 ^ (at % 64) → 0 < rest → slice_index words (at / 64) < 2 ^ 64 → IsNextBit words from (at + trailing_zeros w64 rest)
word_has words from at rest h is some fits =
    let z = bit_at-trailing_zeros w64 rest some (omega (arith, is, div-le_self (slice_index words (at / 64)) (2 ^ (at % 64)), fits)) in
    let tz : ℕ = trailing_zeros w64 rest in
    let here : bit_at (slice_index words (at / 64) / 2 ^ (at % 64)) tz ≡ 1 = ap (λ w. bit_at w tz) (sym is) ∙ z.1 in
    let in_word : at % 64 + tz < 64 = elim (cases_lt (at % 64 + tz) 64) [
      | inl below ↦ below
      | inr beyond ↦
          absurd (omega (arith, here, low_part (slice_index words (at / 64)) (at % 64) tz ∙ bit_at_above (slice_index words (at / 64)) 64 (at % 64 + tz) fits beyond))
    ] in
    let same : at + tz - at ≡ tz = omega arith in
    record {
      following = let b = h.following in omega arith;
      has = bit_back words at (at + tz) (omega arith) (omega (arith, in_word)) (ap (bit_at (slice_index words (at / 64) / 2 ^ (at % 64))) same ∙ here);
      first = λ k le lt has. elim (cases_lt k at) [
        | inl below ↦ h.none k le below has
        | inr beyond ↦
            omega (arith, (rest_of words at k beyond (omega (arith, in_word, lt, beyond)) has), (ap (λ w. bit_at w (k - at)) (sym is) ∙ z.2 (k - at) (omega (arith, lt, beyond))))
      ];
    }

pub none_left : (words : List ℕ) (from at : ℕ) → NoneUpTo words from at → length words ≤ at / 64 → HasNoBit words from
none_left words from at h past = λ k le has. elim (cases_lt k at) [
  | inl below ↦ h.none k le below has
  | inr beyond ↦ no_bit_past words k (omega (arith, past, beyond)) has
]
