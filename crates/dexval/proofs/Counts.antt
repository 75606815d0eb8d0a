-- The bytes of counts.
use Rattle.dexval.proofs.Common.{◌≡◌, ℕ, ◌-◌, ◌^◌, ◌<◌, ◌≤◌, min, inl, inr, length, refl, ap, sym, ◌∙◌, arith, cases_lt, le-ltb, uleb128, size_u, uleb128-size, count_bytes}
use Rattle.dexspec.proofs.numbers.Groups.{length-groups}

-- the bytes of a count
bytes_of_count : (n : ℕ) → count_bytes n ≡ uleb128 (min (2 ^ 32 - 1) n)
unfolding count_bytes
bytes_of_count n = refl

-- a count of 32 bits is written unchanged
pub count_is : (n : ℕ) → n < 2 ^ 32 → count_bytes n ≡ uleb128 n
count_is n lt = let least : min (2 ^ 32 - 1) n ≡ n = omega (arith, lt) in bytes_of_count n ∙ ap (λ (k : ℕ). uleb128 k) least

-- a number of 2 ^ 28 or more has five bytes
five : (v : ℕ) → 0x10000000 ≤ v → length (uleb128 v) ≡ 5
five v le =
    let size : size_u v ≡ 5 = rw (le-ltb v 0x80 (omega (arith, le))) (rw (le-ltb v 0x4000 (omega (arith, le))) (rw (le-ltb v 0x200000 (omega (arith, le))) (rw (le-ltb v 0x10000000 le) refl))) in
    length-groups (size_u v) v ∙ size

-- a count has as many bytes as its uleb128
pub count_length : (n : ℕ) → length (count_bytes n) ≡ length (uleb128 n)
count_length n = elim (cases_lt n (2 ^ 32)) [
  | inl lt ↦ ap length (count_is n lt)
  | inr le ↦ ap length (bytes_of_count n) ∙ five (min (2 ^ 32 - 1) n) (omega (arith, le)) ∙ sym (five n (omega (arith, le)))
]

-- at most five bytes
pub count-size : (n : ℕ) → length (count_bytes n) ≤ 5
count-size n = omega (arith, count_length n, uleb128-size n)
