-- The sign of the first number: bit 6 of its last byte.
use Rattle.std.proofs.Common.{◌≡◌, ◌≢◌, ℕ, zero, suc, ◌-◌, ◌*◌, ◌/◌, ◌%◌, ◌^◌, ◌<◌, ◌≤◌, List, [], ◌∷◌, length, take, get_or, refl, ◌∙◌, ap, arith, inl, inr, length-take}
use Rattle.std.specs.Prelude.{bit_and, pos, ◌-ℤ◌}
use Rattle.std.proofs.lemmas.Nat.{and_shr, and_mod, and_le_r}
use Rattle.std.proofs.lemmas.Bool.{cases_lt}
use Rattle.dexspec.specs.Numbers.{last_of, sum_of_groups, signed_sum}
use Rattle.dexspec.proofs.numbers.Chains.{chain_some, last_of_chain, sum_in_five, pow_in_five}
use Rattle.dexspec.proofs.numbers.Signed.{is_negative, is_positive}
use Rattle.dexleb.specs.Leb.{IsFirst}

-- a byte below 128 with bit 6 set is 64 or more
bit_6_set : (n : ℕ) → n < 128 → bit_and n 64 ≢ 0 → 64 ≤ n
bit_6_set n lt set =
    let shr : bit_and n 64 / 2 ^ 6 ≡ bit_and (n / 2 ^ 6) 1 = and_shr n 64 6 in
    let low : bit_and n 64 % 2 ^ 6 ≡ bit_and (n % 2 ^ 6) 0 = and_mod n 64 6 in
    let none : bit_and (n % 2 ^ 6) 0 ≤ 0 = and_le_r (n % 2 ^ 6) 0 in
    elim (cases_lt n 64) [
      | inl small ↦ absurd (set (let q : n / 2 ^ 6 ≡ 0 = omega arith in let high = rw q at shr in omega (arith, high, low, none)))
      | inr large ↦ large
    ]

-- a byte below 128 with bit 6 clear is less than 64
bit_6_clear : (n : ℕ) → n < 128 → bit_and n 64 ≡ 0 → n < 64
bit_6_clear n lt clear =
    let shr : bit_and n 64 / 2 ^ 6 ≡ bit_and (n / 2 ^ 6) 1 = and_shr n 64 6 in
    elim (cases_lt n 64) [
      | inl small ↦ small
      | inr large ↦ absurd (let q : n / 2 ^ 6 ≡ 1 = omega arith in let high = rw q at shr in omega (arith, high, clear))
    ]

-- the last byte of a prefix
last_of-take : (l : List ℕ) (i : ℕ) → i < length l → last_of (take (suc i) l) ≡ get_or l i 0
last_of-take [] i within = absurd (omega arith)
last_of-take (b ∷ bs) zero within = refl
last_of-take (b ∷ []) (suc i) within = absurd (omega arith)
last_of-take (b ∷ c ∷ bs) (suc i) within = last_of-take (c ∷ bs) i (omega arith)

-- the number has at least one byte
pub first_some : (l : List ℕ) (sum n : ℕ) → IsFirst l sum n → 0 < n
first_some l sum n first = omega (arith, chain_some (take n l) first.chain, length-take n l)

-- the last byte of the number
last_here : (l : List ℕ) (sum n : ℕ) → IsFirst l sum n → last_of (take n l) ≡ get_or l (n - 1) 0
last_here l sum n first =
    let some = first_some l sum n first in
    let e : n ≡ suc (n - 1) = omega arith in
    ap (λ k. last_of (take k l)) e ∙ last_of-take l (n - 1) (omega (arith, first.within))

-- if bit 6 of its last byte is set, the number is negative
pub negative_here : (l : List ℕ) (sum n : ℕ) → IsFirst l sum n → bit_and (get_or l (n - 1) 0) 64 ≢ 0 → signed_sum (take n l) ≡ pos sum -ℤ pos (2 ^ (7 * n))
negative_here l sum n first set =
    let last = last_here l sum n first in
    let len : length (take n l) ≡ n = omega (arith, length-take n l, first.within) in
    let e = is_negative (take n l) (omega (arith, last, bit_6_set (get_or l (n - 1) 0) (omega (arith, last, last_of_chain (take n l) first.chain)) set)) in
    e ∙ ap (λ k. pos (sum_of_groups (take n l)) -ℤ pos (2 ^ (7 * k))) len ∙ ap (λ k. pos k -ℤ pos (2 ^ (7 * n))) first.value

-- if bit 6 of its last byte is clear, the number is its sum
pub positive_here : (l : List ℕ) (sum n : ℕ) → IsFirst l sum n → bit_and (get_or l (n - 1) 0) 64 ≡ 0 → signed_sum (take n l) ≡ pos sum
positive_here l sum n first clear =
    let last = last_here l sum n first in
    let e = is_positive (take n l) (omega (arith, last, bit_6_clear (get_or l (n - 1) 0) (omega (arith, last, last_of_chain (take n l) first.chain)) clear)) in
    e ∙ ap pos first.value

-- the sum has at most 35 bits
pub first_bound : (l : List ℕ) (sum n : ℕ) → IsFirst l sum n → (sum < 2 ^ 35) × (2 ^ (7 * n) ≤ 2 ^ 35)
first_bound l sum n first = (omega (arith, sum_in_five (take n l) (omega (arith, length-take n l, first.few)), first.value), pow_in_five n first.few)
