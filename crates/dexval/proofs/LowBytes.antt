-- Numbers written as their lowest bytes.
use Rattle.dexval.proofs.Common.{◌≡◌, ℕ, zero, suc, ◌+◌, ◌-◌, ◌*◌, ◌/◌, ◌%◌, ◌^◌, ◌<◌, ◌≤◌, List, ◌∷◌, ◌++◌, length, take, ◌⊎◌, inl, inr, refl, ap, sym, ◌∙◌, subst, arith, ℤ, pos, negsuc, w64, of_z, ◌≢◌, bytes_low_first, take-append-le, little_bytes, mul_assoc, mul-suc, mul-mod_right, mul-div_cancel_left, div-add-mod, cases_lt, max, pow-le-pow_right, pow-suc, pow-add, magnitude, value_byte, unsigned_width, signed_width, bits_width, complement, signed_bytes, bits_bytes, pow_256, pow_256_pos, bytes_of}
use Rattle.byteorder.proofs.Bytes.{take-bytes_low_first}
use native.Mathlib.Nat.{div-div-eq-div-mul}
use Rattle.dexspec.proofs.numbers.Widths.{unsigned_width_is, signed_width_is, bits_width_is}

-- the lowest bytes of a number, as `byteorder` writes them
low_first : (i n v : ℕ) → bytes_low_first i n v ≡ bytes_of n (v / 256 ^ i)
unfolding bytes_of
low_first i zero v = refl
low_first zero (suc n) v =
    let whole : v / 256 ^ 0 ≡ v = omega arith in
    let first : v % 256 ≡ v / 256 ^ 0 % 256 = ap (λ (x : ℕ). x % 256) (sym whole) in
    let rest : v / 256 ^ 1 ≡ v / 256 ^ 0 / 256 = omega arith in ap (λ (r : List ℕ). v % 256 ∷ r) (low_first 1 n v ∙ ap (bytes_of n) rest) ∙ ap (λ (x : ℕ). x ∷ bytes_of n (v / 256 ^ 0 / 256)) first
low_first (suc i) (suc n) v =
    let power : 256 ^ suc (suc i) ≡ 256 ^ suc i * 256 = omega arith in
    let rest : v / 256 ^ suc (suc i) ≡ v / 256 ^ suc i / 256 = ap (λ (p : ℕ). v / p) power ∙ sym (div-div-eq-div-mul v (256 ^ suc i) 256) in
    ap (λ (r : List ℕ). v / 256 ^ suc i % 256 ∷ r) (low_first (suc (suc i)) n v ∙ ap (bytes_of n) rest)

pub low_bytes : (n v : ℕ) (r : List ℕ) → n ≤ 8 → take n (little_bytes 8 v ++ r) ≡ bytes_of n v
low_bytes n v r few =
    let size : length (little_bytes 8 v) ≡ 8 = refl in
    let whole : v / 256 ^ 0 ≡ v = omega arith in take-append-le n (little_bytes 8 v) r (omega (arith, size, few)) ∙ take-bytes_low_first 0 8 n v few ∙ low_first 0 n v ∙ ap (bytes_of n) whole

-- adding a multiple of 256 ^ n keeps the n lowest bytes
bytes_of-more : (n v k : ℕ) → bytes_of n (v + 256 ^ n * k) ≡ bytes_of n v
unfolding bytes_of
bytes_of-more zero v k = refl
bytes_of-more (suc n) v k =
    let power : 256 ^ suc n ≡ 256 * 256 ^ n = omega arith in
    let more : 256 ^ suc n * k ≡ 256 * (256 ^ n * k) = ap (λ (x : ℕ). x * k) power ∙ mul_assoc 256 (256 ^ n) k in
    let low : (v + 256 ^ suc n * k) % 256 ≡ v % 256 = omega (arith, more) in
    let high : (v + 256 ^ suc n * k) / 256 ≡ v / 256 + 256 ^ n * k = omega (arith, more) in
    ap (λ (b : ℕ). b ∷ bytes_of n ((v + 256 ^ suc n * k) / 256)) low ∙ ap (λ (r : ℕ). v % 256 ∷ bytes_of n r) high ∙ ap (λ (l : List ℕ). v % 256 ∷ l) (bytes_of-more n (v / 256) k)

-- a product with one factor reduced by one
one_less : (a b : ℕ) → 0 < b → a * b ≡ a + a * (b - 1)
one_less a zero some = absurd (omega arith)
one_less a (suc b) some = let e : suc b - 1 ≡ b = omega arith in omega (arith, mul-suc a b, ap (λ (x : ℕ). a * x) e)

-- the lowest bytes of a number in two's complement
low_complement : (n : ℕ) (z : ℤ) → n ≤ 8 → 2 * magnitude z < 256 ^ n → bytes_of n (complement 8 z) ≡ bytes_of n (complement n z)
low_complement n (pos v) few room = refl
low_complement n (negsuc v) few room =
    let parts : n + (8 - n) ≡ 8 = omega arith in
    let is : 256 ^ 8 - suc v ≡ (256 ^ n - suc v) + 256 ^ n * (256 ^ (8 - n) - 1) = omega (arith, ap (λ (k : ℕ). 256 ^ k) (sym parts) ∙ pow-add 256 n (8 - n), one_less (256 ^ n) (256 ^ (8 - n)) (pow_256_pos (8 - n)), room) in
    ap (bytes_of n) is ∙ bytes_of-more n (256 ^ n - suc v) (256 ^ (8 - n) - 1)

-- a signed number: its lowest bytes in its least width
pub signed_is : (code : ℕ) (z : ℤ) (width : ℕ) → 2 * magnitude z < 256 ^ 8 → width ≤ 8 → width ≡ unsigned_width (2 * magnitude z) → value_byte (width - 1) code ∷ bytes_of width (complement 8 z) ≡ signed_bytes code z
signed_is code z width room few is =
    let same : width ≡ signed_width z = is in
    let holds : 2 * magnitude z < 256 ^ width = subst (λ (n : ℕ). 2 * magnitude z < 256 ^ n) (sym same) (signed_width_is z room).holds in
    ap (λ (l : List ℕ). value_byte (width - 1) code ∷ l) (low_complement width z few holds) ∙ ap (λ (n : ℕ). value_byte (n - 1) code ∷ bytes_of n (complement n z)) same

-- ---- bit patterns

-- one zero byte fewer
pub zero_less : (width left v rest : ℕ) → 1 < left → left ≤ width → v ≡ 256 ^ (width - left) * rest → rest % 256 ≡ 0 → v ≡ 256 ^ (width - (left - 1)) * (rest / 256)
zero_less width left v rest more few is none =
    let next : width - (left - 1) ≡ suc (width - left) = omega arith in
    let whole : rest ≡ 256 * (rest / 256) = omega (arith, none) in
    let power : 256 ^ suc (width - left) ≡ 256 ^ (width - left) * 256 = omega arith in
    is ∙ ap (λ (r : ℕ). 256 ^ (width - left) * r) whole ∙ sym (mul_assoc (256 ^ (width - left)) 256 (rest / 256)) ∙ ap (λ (p : ℕ). p * (rest / 256)) (sym power) ∙ ap (λ (k : ℕ). 256 ^ k * (rest / 256)) (sym next)

-- a number with more zeros than another ends in one more
ends_in_zero : (width n w v rest : ℕ) → n ≤ width → w < n → v ≡ 256 ^ (width - n) * rest → v % 256 ^ (width - w) ≡ 0 → rest % 256 ≡ 0
ends_in_zero width n w v rest few less is none =
    let k = width - n in
    let j = n - suc w in
    let parts : width - w ≡ k + suc j = omega arith in
    let power : 256 ^ (width - w) ≡ 256 ^ k * 256 ^ suc j = ap (λ (x : ℕ). 256 ^ x) parts ∙ pow-add 256 k (suc j) in
    let q = v / 256 ^ (width - w) in
    let v_is : v ≡ 256 ^ (width - w) * q = omega (arith, div-add-mod v (256 ^ (width - w)), none) in
    let inner : 256 ^ (width - w) * q ≡ 256 ^ k * (256 ^ suc j * q) = ap (λ (x : ℕ). x * q) power ∙ mul_assoc (256 ^ k) (256 ^ suc j) q in
    let some = pow_256_pos k in
    let one_more : 256 ^ suc j ≡ 256 * 256 ^ j = omega arith in
    omega (arith, sym (mul-div_cancel_left rest some) ∙ ap (λ (x : ℕ). x / 256 ^ k) (sym is ∙ v_is ∙ inner) ∙ mul-div_cancel_left (256 ^ suc j * q) some, ap (λ (x : ℕ). x * q) one_more ∙ mul_assoc 256 (256 ^ j) q)

-- after the zeros at the low end are dropped, the number of bytes left is the least
pub left_is : (width n v rest : ℕ) → 1 ≤ n → n ≤ width → width ≤ 8 → v ≡ 256 ^ (width - n) * rest → (n ≤ 1) ⊎ (rest % 256 ≢ 0) → n ≡ bits_width width v
left_is width n v rest some few most is end =
    let width_is = bits_width_is width v (omega arith) most in
    let w = bits_width width v in
    let least : w ≤ n = width_is.least n some (ap (λ (x : ℕ). x % 256 ^ (width - n)) is ∙ mul-mod_right (256 ^ (width - n)) rest) in
    elim (cases_lt w n) [
      | inl less ↦ elim end [
        | inl one ↦ absurd (omega (arith, width_is.some))
        | inr other ↦ absurd (other (ends_in_zero width n w v rest few less is width_is.holds))
      ]
      | inr other ↦ omega arith
    ]

-- a bit pattern without the zeros at its low end, in its least width
pub bits_shifted : (code width n v : ℕ) → n ≡ bits_width width v → value_byte (n - 1) code ∷ bytes_of n (v / 2 ^ (8 * (width - n))) ≡ bits_bytes code width v
bits_shifted code width n v is = ap (λ (p : ℕ). value_byte (n - 1) code ∷ bytes_of n (v / p)) (pow_256 (width - n)) ∙ ap (λ (k : ℕ). value_byte (k - 1) code ∷ bytes_of k (v / 256 ^ (width - k))) is

-- the signed number
pub signed_spelled : (code : ℕ) (z : ℤ) (width bits : ℕ) → 2 * magnitude z < 256 ^ 8 → width ≡ signed_width z → width ≤ 8 → bits ≡ complement 8 z
    → value_byte (width - 1) code ∷ bytes_of width bits ≡ signed_bytes code z
signed_spelled code z width bits room width_is few bits_is = ap (λ (b : ℕ). value_byte (width - 1) code ∷ bytes_of width b) bits_is ∙ signed_is code z width room few width_is

-- the bits of a number of the machine
pub cast_is : (z : ℤ) → of_z w64 z ≡ complement 8 z
cast_is (pos v) = refl
cast_is (negsuc v) = refl

-- the bytes of a number, by the place of its highest bit
pub log_width : (v r : ℕ) → 2 ^ r ≤ max v 1 → max v 1 < 2 * 2 ^ r → v < 256 ^ 8 → r / 8 + 1 ≡ unsigned_width v
log_width v r low high room =
    let q = r / 8 in
    let w = unsigned_width v in
    let is = unsigned_width_is v room in
    let below : 256 ^ q ≤ 2 ^ r = subst (λ (n : ℕ). n ≤ 2 ^ r) (pow_256 q) (pow-le-pow_right (omega arith) (omega arith)) in
    let above : 2 ^ suc r ≤ 256 ^ (q + 1) = subst (λ (n : ℕ). 2 ^ suc r ≤ n) (pow_256 (q + 1)) (pow-le-pow_right (omega arith) (omega arith)) in
    let twice : 2 ^ suc r ≡ 2 ^ r * 2 = pow-suc 2 r in
    let most : w ≤ q + 1 = is.least (q + 1) (omega arith) (omega (arith, above, twice, high)) in
    elim (cases_lt w (q + 1)) [
      | inl less ↦
          let within : 256 ^ w ≤ 256 ^ q = pow-le-pow_right (omega arith) (omega arith) in
          let one : 256 ^ 1 ≤ 256 ^ w = pow-le-pow_right (omega arith) is.some in
          absurd (omega (arith, within, one, below, low, is.holds))
      | inr other ↦ omega (arith, most)
    ]
