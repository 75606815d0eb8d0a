-- Signed numbers: bit 6 of the last group is the sign.
use Rattle.dexspec.proofs.Common.{◌≡◌, ℕ, suc, ◌+◌, ◌*◌, ◌^◌, ◌<◌, ◌≤◌, List, [], ◌∷◌, length, refl, ap, ◌∙◌, inl, inr, arith, ℤ, pos, negsuc, ◌-ℤ◌, FitsSigned, w32, ints, cases_lt, le-leb, lt-leb}
use Rattle.dexspec.specs.{IsChain, last_of, sum_of_groups, signed_sum, magnitude, held_in, size_s}
use Rattle.dexspec.proofs.numbers.Chains.{sevens, sum_bound}
use Rattle.dexspec.proofs.numbers.Groups.{HasSize, size_u_is}

-- if bit 6 of the last byte is set, 2 ^ (7 * n) is subtracted
pub is_negative : (bytes : List ℕ) → 64 ≤ last_of bytes → signed_sum bytes ≡ pos (sum_of_groups bytes) -ℤ pos (2 ^ (7 * length bytes))
is_negative bytes set = rw (le-leb 64 (last_of bytes) set) refl

-- if it is clear, the sum is the number
pub is_positive : (bytes : List ℕ) → last_of bytes < 64 → signed_sum bytes ≡ pos (sum_of_groups bytes)
is_positive bytes clear = rw (lt-leb 64 (last_of bytes) clear) refl

-- if bit 6 of the last byte is set, the sum is at least half of the range of the groups
upper_half : (bytes : List ℕ) → IsChain bytes → 64 ≤ last_of bytes → 2 ^ (7 * length bytes) ≤ 2 * sum_of_groups bytes
upper_half [] chain set = absurd chain
upper_half (b ∷ []) chain set = omega arith
upper_half (b ∷ c ∷ bs) chain set = omega (arith, sevens (suc (length bs)), upper_half (c ∷ bs) chain.1 set)

-- if it is clear, the sum is less than half
lower_half : (bytes : List ℕ) → IsChain bytes → last_of bytes < 64 → 2 * sum_of_groups bytes + 2 ≤ 2 ^ (7 * length bytes)
lower_half [] chain clear = absurd chain
lower_half (b ∷ []) chain clear = omega arith
lower_half (b ∷ c ∷ bs) chain clear = omega (arith, sevens (suc (length bs)), lower_half (c ∷ bs) chain.1 clear)

-- bytes whose sum is the number in two's complement encode the number
pub signed_of : (v : ℤ) (bytes : List ℕ) → IsChain bytes → sum_of_groups bytes ≡ held_in (length bytes) v → 2 * magnitude v < 2 ^ (7 * length bytes) → signed_sum bytes ≡ v
signed_of (pos n) bytes chain is lt =
    elim (cases_lt (last_of bytes) 64) [
      | inl clear ↦ is_positive bytes clear ∙ ap pos is
      | inr set ↦ absurd (omega (arith, upper_half bytes chain set))
    ]
signed_of (negsuc n) bytes chain is lt =
    elim (cases_lt (last_of bytes) 64) [
      | inl clear ↦ absurd (omega (arith, lower_half bytes chain clear))
      | inr set ↦ rw (is_negative bytes set) (omega (arith, ints))
    ]

-- the bytes of a number have enough bits for it and its sign
pub magnitude_of : (v : ℤ) (bytes : List ℕ) → IsChain bytes → signed_sum bytes ≡ v → 2 * magnitude v < 2 ^ (7 * length bytes)
magnitude_of (pos n) bytes chain is =
    elim (cases_lt (last_of bytes) 64) [
      | inl clear ↦ let e = rw (is_positive bytes clear) at is in omega (arith, ints, e, lower_half bytes chain clear)
      | inr set ↦ let e = rw (is_negative bytes set) at is in omega (arith, ints, e, sum_bound bytes)
    ]
magnitude_of (negsuc n) bytes chain is =
    elim (cases_lt (last_of bytes) 64) [
      | inl clear ↦ let e = rw (is_positive bytes clear) at is in omega (arith, ints, e)
      | inr set ↦ let e = rw (is_negative bytes set) at is in omega (arith, ints, e, upper_half bytes chain set)
    ]

-- the size of a signed number is the minimum number of groups with enough bits for it and its sign
pub size_s_is : (v : ℤ) → FitsSigned w32 v → HasSize (2 * magnitude v) (size_s v)
size_s_is (pos n) fits = size_u_is (2 * n) (omega (arith, ints))
size_s_is (negsuc n) fits = size_u_is (2 * n) (omega (arith, ints))

-- groups with enough bits for a number and its sign hold it in two's complement
pub held_fits : (v : ℤ) (n : ℕ) → 2 * magnitude v < 2 ^ (7 * n) → held_in n v < 2 ^ (7 * n)
held_fits (pos m) n lt = omega arith
held_fits (negsuc m) n lt = omega arith
