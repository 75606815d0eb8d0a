-- Numbers of a fixed number of bytes: what their bytes encode, and that they are read at the offsets of their bytes.
use Rattle.dexspec.proofs.Common.{◌≡◌, All, ℕ, zero, suc, ◌+◌, ◌-◌, ◌*◌, ◌/◌, ◌^◌, ◌<◌, List, [], ◌∷◌, length, refl, ap, ◌∙◌, arith, inl, inr, w64, ℤ, FitsSigned, pos, negsuc, pow-suc, pow-add, pow_pos, ints, cases_lt, lt-ltb, le-ltb}
use Rattle.dexspec.specs.{number_of, bytes_of, signed_in, ushort, uint, ushort_at, uint_at, BytesAt, magnitude, complement}

-- ---- powers

-- a byte has 8 bits
pub pow_256 : (n : ℕ) → 2 ^ (8 * n) ≡ 256 ^ n
pow_256 zero = refl
pow_256 (suc n) = let e : 8 * suc n ≡ 8 + 8 * n = omega arith in rw (e, pow-add) (omega (arith, pow_256 n, pow-suc 256 n))

-- a power of 256 is not 0
pub pow_256_pos : (n : ℕ) → 0 < 256 ^ n
pow_256_pos n = omega (arith, pow_256 n, pow_pos (8 * n))

-- ---- bytes

-- n bytes have length n
pub length-bytes_of : (n v : ℕ) → length (bytes_of n v) ≡ n
unfolding bytes_of
length-bytes_of zero v = refl
length-bytes_of (suc n) v = ap suc (length-bytes_of n (v / 256))

-- the bytes of a number that fits them encode it
pub number_of-bytes_of : (n v : ℕ) → v < 256 ^ n → number_of (bytes_of n v) ≡ v
unfolding bytes_of number_of
number_of-bytes_of zero v lt = omega arith
number_of-bytes_of (suc n) v lt = let rest = number_of-bytes_of n (v / 256) (omega (arith, pow-suc 256 n)) in omega (arith, rest)

-- n bytes encode a number below 256 ^ n
pub number_bound : (bytes : List ℕ) → All (λ x. x < 256) bytes → number_of bytes < 256 ^ length bytes
unfolding number_of
number_bound [] are = omega arith
number_bound (b ∷ bs) are =
    let rest = number_bound bs (λ k d lt. are (suc k) d (omega arith)) in
    omega (arith, rest, are 0 0 (omega arith), pow-suc 256 (length bs))

-- ---- two and four bytes

-- a ushort has two bytes
pub length-ushort : (n : ℕ) → length (ushort n) ≡ 2
unfolding ushort
length-ushort n = length-bytes_of 2 n

-- a uint has four bytes
pub length-uint : (n : ℕ) → length (uint n) ≡ 4
unfolding uint
length-uint n = length-bytes_of 4 n

-- a ushort is read at the offset of its bytes
pub ushort_at-encodes : {b : List ℕ} {o n : ℕ} → n < 2 ^ 16 → BytesAt b o (ushort n) → ushort_at b o ≡ n
unfolding ushort ushort_at bytes_of
ushort_at-encodes {b} {o} {n} lt h = ap number_of h.here ∙ number_of-bytes_of 2 n lt

-- a uint is read at the offset of its bytes
pub uint_at-encodes : {b : List ℕ} {o n : ℕ} → n < 2 ^ 32 → BytesAt b o (uint n) → uint_at b o ≡ n
unfolding uint uint_at bytes_of
uint_at-encodes {b} {o} {n} lt h = ap number_of h.here ∙ number_of-bytes_of 4 n lt

-- ---- signs

-- a signed number that fits n bytes is read back from them
pub signed_in-bytes_of : (n : ℕ) (z : ℤ) → 0 < n → 2 * magnitude z < 256 ^ n → signed_in n (number_of (bytes_of n (complement n z))) ≡ z
signed_in-bytes_of zero z some lt = absurd (omega arith)
signed_in-bytes_of (suc n) (pos v) some lt =
    rw (number_of-bytes_of (suc n) v (omega arith), pow_256 (suc n), lt-ltb (2 * v) (256 ^ suc n) lt) refl
signed_in-bytes_of (suc n) (negsuc v) some lt =
    rw (number_of-bytes_of (suc n) (256 ^ suc n - suc v) (omega arith), pow_256 (suc n), le-ltb (2 * (256 ^ suc n - suc v)) (256 ^ suc n) (omega (arith, pow-suc 256 n))) (omega (arith, ints))

-- a number in n bytes, read as signed
signed_room : (n x : ℕ) (z : ℤ) → x < 256 ^ suc n → signed_in (suc n) x ≡ z → 2 * magnitude z < 256 ^ suc n
signed_room n x (pos v) lt is =
    elim (cases_lt (2 * x) (256 ^ suc n)) [
      | inl small ↦ let e = rw (pow_256 (suc n), lt-ltb (2 * x) (256 ^ suc n) small) at is in omega (arith, ints, e)
      | inr large ↦ let e = rw (pow_256 (suc n), le-ltb (2 * x) (256 ^ suc n) large) at is in omega (arith, ints, e)
    ]
signed_room n x (negsuc v) lt is =
    elim (cases_lt (2 * x) (256 ^ suc n)) [
      | inl small ↦ let e = rw (pow_256 (suc n), lt-ltb (2 * x) (256 ^ suc n) small) at is in omega (arith, ints, e)
      | inr large ↦ let e = rw (pow_256 (suc n), le-ltb (2 * x) (256 ^ suc n) large) at is in omega (arith, ints, e)
    ]

-- a signed number that is read from bytes fits them
pub signed_in_room : (bytes : List ℕ) (z : ℤ) → All (λ x. x < 256) bytes → 0 < length bytes → signed_in (length bytes) (number_of bytes) ≡ z → 2 * magnitude z < 256 ^ length bytes
signed_in_room [] z are some is = absurd (omega arith)
signed_in_room (b ∷ bs) z are some is = signed_room (length bs) (number_of (b ∷ bs)) z (number_bound (b ∷ bs) are) is

-- a signed number of 64 bits fits 8 bytes
pub fits_64 : (z : ℤ) → FitsSigned w64 z → 2 * magnitude z < 256 ^ 8
fits_64 (pos n) fits = omega (arith, ints)
fits_64 (negsuc n) fits = omega (arith, ints)
