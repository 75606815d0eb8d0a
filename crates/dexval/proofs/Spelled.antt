-- Numbers of values as `byteorder` reads them.
use Rattle.dexval.proofs.Common.{◌≡◌, All, ℕ, suc, ◌+◌, ◌-◌, ◌*◌, ◌%◌, ◌^◌, ◌<◌, ◌≤◌, List, [], ◌∷◌, length, get_or, refl, sym, ap, subst, ◌∙◌, arith, inl, inr, ℤ, pos, negsuc, FitsSigned, w8, w16, w32, w64, pow-suc, pow-le-pow_right, mod-eq_of_lt, mul-lt-mul_of_pos_right, mul_comm, pow-add, get_or_default, ints, cases_lt, lt-ltb, le-ltb, signed_in, magnitude, pow_256, pow_256_pos, number_bound, signed_in_room, little_number, twos_complement, number_of}
use Rattle.byteorder.specs.Numbers.{little_from-cons}

-- an unsigned number
pub number_is : (bytes : List ℕ) → little_number (length bytes) bytes ≡ number_of bytes
unfolding number_of
number_is [] = refl
number_is (a ∷ bytes) = ap (λ (x : ℕ). a + 256 * x) (little_from-cons 0 (length bytes) a bytes ∙ number_is bytes)

-- half of the range of n bytes
half : (n : ℕ) → 0 < n → 2 ^ (8 * n) ≡ 2 * 2 ^ (8 * n - 1)
half n some = let e : 8 * n ≡ suc (8 * n - 1) = omega arith in ap (λ (k : ℕ). 2 ^ k) e ∙ omega (arith, pow-suc 2 (8 * n - 1))

-- two's complement
complement_is : (n x : ℕ) → 0 < n → twos_complement n x ≡ signed_in n x
complement_is n x some =
    elim (cases_lt x (2 ^ (8 * n - 1))) [
      | inl small ↦ rw (lt-ltb x (2 ^ (8 * n - 1)) small, lt-ltb (2 * x) (2 ^ (8 * n)) (omega (arith, half n some))) refl
      | inr large ↦ rw (le-ltb x (2 ^ (8 * n - 1)) large, le-ltb (2 * x) (2 ^ (8 * n)) (omega (arith, half n some))) refl
    ]

-- a signed number
pub signed_is : (bytes : List ℕ) → 0 < length bytes → twos_complement (length bytes) (little_number (length bytes) bytes) ≡ signed_in (length bytes) (number_of bytes)
signed_is bytes some = complement_is (length bytes) (little_number (length bytes) bytes) some ∙ ap (signed_in (length bytes)) (number_is bytes)

-- ---- how large they are

-- a list in which each element is a byte
are : (bytes : List ℕ) → ((i : ℕ) → get_or bytes i 0 < 256) → All (λ x. x < 256) bytes
are bytes each i d lt = subst (λ (x : ℕ). x < 256) (get_or_default bytes i 0 d lt) (each i)

-- an unsigned number fits in its bytes, and in more bytes
pub number_room : (bytes : List ℕ) (n : ℕ) → ((i : ℕ) → get_or bytes i 0 < 256) → length bytes ≤ n → number_of bytes < 256 ^ n
number_room bytes n each le = let grows : 256 ^ length bytes ≤ 256 ^ n = pow-le-pow_right (omega arith) le in omega (arith, grows, number_bound bytes (are bytes each))

-- a signed number fits too
pub signed_room : (bytes : List ℕ) (z : ℤ) (n : ℕ) → ((i : ℕ) → get_or bytes i 0 < 256) → 0 < length bytes → z ≡ signed_in (length bytes) (number_of bytes) → length bytes ≤ n → 2 * magnitude z < 256 ^ n
signed_room bytes z n each some is le = let grows : 256 ^ length bytes ≤ 256 ^ n = pow-le-pow_right (omega arith) le in omega (arith, grows, signed_in_room bytes z (are bytes each) some (sym is))

-- a bit pattern, shifted up to the width
pub shifted : (width n x : ℕ) → n ≤ width → width ≤ 8 → x < 256 ^ n → x * 2 ^ (8 * (width - n)) % 2 ^ 64 ≡ 256 ^ (width - n) * x
shifted width n x few eight lt =
    let parts : n + (width - n) ≡ width = omega arith in
    let up : 2 ^ (8 * (width - n)) ≡ 256 ^ (width - n) = pow_256 (width - n) in
    let whole : 256 ^ n * 256 ^ (width - n) ≡ 256 ^ width = sym (pow-add 256 n (width - n)) ∙ ap (λ (k : ℕ). 256 ^ k) parts in
    let grows : 256 ^ width ≤ 256 ^ 8 = pow-le-pow_right (omega arith) eight in
    let room : x * 256 ^ (width - n) < 256 ^ n * 256 ^ (width - n) = mul-lt-mul_of_pos_right lt (pow_256_pos (width - n)) in
    rw up (mod-eq_of_lt (omega (arith, room, whole, grows)) ∙ mul_comm x (256 ^ (width - n)))

pub shifted_room : (width n x : ℕ) → n ≤ width → x < 256 ^ n → 256 ^ (width - n) * x < 256 ^ width
shifted_room width n x few lt =
    let parts : n + (width - n) ≡ width = omega arith in
    omega (arith, mul-lt-mul_of_pos_right lt (pow_256_pos (width - n)), sym (pow-add 256 n (width - n)) ∙ ap (λ (k : ℕ). 256 ^ k) parts, mul_comm x (256 ^ (width - n)))

-- ---- numbers that fit a type

pub fits_8 : (z : ℤ) → 2 * magnitude z < 256 ^ 1 → FitsSigned w8 z
fits_8 (pos n) lt = omega (arith, ints)
fits_8 (negsuc n) lt = omega (arith, ints)

pub fits_16 : (z : ℤ) → 2 * magnitude z < 256 ^ 2 → FitsSigned w16 z
fits_16 (pos n) lt = omega (arith, ints)
fits_16 (negsuc n) lt = omega (arith, ints)

pub fits_32 : (z : ℤ) → 2 * magnitude z < 256 ^ 4 → FitsSigned w32 z
fits_32 (pos n) lt = omega (arith, ints)
fits_32 (negsuc n) lt = omega (arith, ints)

pub fits_64 : (z : ℤ) → 2 * magnitude z < 256 ^ 8 → FitsSigned w64 z
fits_64 (pos n) lt = omega (arith, ints)
fits_64 (negsuc n) lt = omega (arith, ints)
