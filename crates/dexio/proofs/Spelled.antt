-- The two ways to say which number some bytes spell, and which bytes spell a number: from the start of the list, and by
-- places.
use Rattle.dexio.proofs.Common.{◌≡◌, ℕ, ◌/◌, ◌%◌, ◌^◌, List, ◌∷◌, length, take, refl, arith, number_of, bytes_of, ushort, uint, length-ushort, length-uint, little_number, little_bytes}

pub number_of_two : (xs : List ℕ) → number_of (take 2 xs) ≡ little_number 2 xs
unfolding number_of
number_of_two (a ∷ b ∷ xs) = refl
number_of_two _ = refl

pub number_of_four : (xs : List ℕ) → number_of (take 4 xs) ≡ little_number 4 xs
unfolding number_of
number_of_four (a ∷ b ∷ c ∷ d ∷ xs) = refl
number_of_four _ = refl

pub two_bytes : (n : ℕ) → ushort n ≡ little_bytes 2 n
unfolding ushort bytes_of
two_bytes n = let b : n / 256 % 256 ≡ n / 256 ^ 1 % 256 = omega arith in cc

pub four_bytes : (n : ℕ) → uint n ≡ little_bytes 4 n
unfolding uint bytes_of
four_bytes n =
    let b : n / 256 % 256 ≡ n / 256 ^ 1 % 256 = omega arith in
    let c : n / 256 / 256 % 256 ≡ n / 256 ^ 2 % 256 = omega arith in
    let d : n / 256 / 256 / 256 % 256 ≡ n / 256 ^ 3 % 256 = omega arith in
    cc

pub length_ushort : (n : ℕ) → length (ushort n) ≡ 2
length_ushort n = length-ushort n

pub length_uint : (n : ℕ) → length (uint n) ≡ 4
length_uint n = length-uint n
