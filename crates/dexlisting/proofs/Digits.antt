-- Numbers as they are printed: with a sign, and in hexadecimal by the digits of 16 bits.
use Rattle.std.proofs.Common.{ℕ, ℤ, suc, zero, pos, negsuc, ◌≡◌, ◌==◌, ◌<◌, ◌≤◌, ◌^◌, ◌/◌, ◌%◌, ◌+◌, ◌*◌, ◌∙◌, List, [], ◌∷◌, ◌++◌, Bool, true, false, cond, nat_lt, refl, sym, ap, arith, drop, append_assoc, ne_eqb, lt-ltb, le-ltb}
use Rattle.std.proofs.lemmas.Int.{ints}
use Rattle.std.specs.Prelude.{nat_abs, codes, decimal, ◌<ℤ◌, ◌≤ℤ◌}
use Rattle.std.specs.Fmt.{digits, digits_onto, digit_glyph}
use Rattle.dexstr.specs.Escapes.{escaped, hexadecimal_digit}
use Rattle.dexout.specs.Printed.{count_text, place_text}
use Rattle.dexlisting.specs.FullListing.{signed_text}

-- ---- numbers with a sign

pub below_zero : (z : ℤ) (n : ℕ) → (z <ℤ pos 0) → n ≡ nat_abs z → count_text (codes "-") n ≡ signed_text z
unfolding count_text signed_text
below_zero (pos k) n less is = absurd (omega (arith, ints, less))
below_zero (negsuc k) n less is = ap (λ m. codes "-" ++ decimal m) is

pub from_zero : (z : ℤ) (n : ℕ) → (pos 0 ≤ℤ z) → n ≡ nat_abs z → count_text (codes "+") n ≡ signed_text z
unfolding count_text signed_text
from_zero (pos k) n more is = ap (λ m. codes "+" ++ decimal m) is
from_zero (negsuc k) n more is = absurd (omega (arith, ints, more))

-- ---- hexadecimal

-- the last digit, and those before it
more_digits : (k m : ℕ) (acc : List ℕ) → 16 ≤ m → digits_onto (suc k) 16 false m acc ≡ digits_onto k 16 false (m / 16) (digit_glyph false (m % 16) ∷ acc)
more_digits k m acc more = let e : (m / 16 == 0) ≡ false = ne_eqb (m / 16) 0 (λ z. omega arith) in rw e refl

-- the only digit
one_digit : (k m : ℕ) (acc : List ℕ) → m < 16 → digits_onto (suc k) 16 false m acc ≡ digit_glyph false m ∷ acc
one_digit k m acc less = let e : m / 16 ≡ 0 = omega arith in let f : m % 16 ≡ m = omega arith in rw (e, f) refl

-- the digits before others are those of the number alone, whatever the room, if it suffices
before_others : (k i j m : ℕ) (acc : List ℕ) → m < 16 ^ suc k → digits_onto (suc (k + i)) 16 false m acc ≡ digits_onto (suc (k + j)) 16 false m [] ++ acc
before_others zero i j m acc fits = one_digit (0 + i) m acc (omega arith) ∙ ap (λ ds. ds ++ acc) (sym (one_digit (0 + j) m [] (omega arith)))
before_others (suc k) i j m acc fits = by_size (m / 16) refl (before_others k i j (m / 16) (digit_glyph false (m % 16) ∷ acc)) (before_others k j j (m / 16) (digit_glyph false (m % 16) ∷ []))
  where
    by_size : (q : ℕ) → m / 16 ≡ q
        → (m / 16 < 16 ^ suc k → digits_onto (suc (k + i)) 16 false (m / 16) (digit_glyph false (m % 16) ∷ acc) ≡ digits_onto (suc (k + j)) 16 false (m / 16) [] ++ (digit_glyph false (m % 16) ∷ acc))
        → (m / 16 < 16 ^ suc k → digits_onto (suc (k + j)) 16 false (m / 16) (digit_glyph false (m % 16) ∷ []) ≡ digits_onto (suc (k + j)) 16 false (m / 16) [] ++ (digit_glyph false (m % 16) ∷ []))
        → digits_onto (suc (suc k + i)) 16 false m acc ≡ digits_onto (suc (suc k + j)) 16 false m [] ++ acc
    by_size zero e here there = let less : m < 16 = omega (arith, e) in one_digit (suc k + i) m acc less ∙ ap (λ ds. ds ++ acc) (sym (one_digit (suc k + j) m [] less))
    by_size (suc q) e here there =
        let d = digit_glyph false (m % 16) in
        let more : 16 ≤ m = omega (arith, e) in
        let less : m / 16 < 16 ^ suc k = omega (arith, fits) in
        let left : suc k + i ≡ suc (k + i) = omega arith in
        let right : suc k + j ≡ suc (k + j) = omega arith in
        let front = digits_onto (suc (k + j)) 16 false (m / 16) [] in
        more_digits (suc k + i) m acc more ∙ ap (λ n. digits_onto n 16 false (m / 16) (d ∷ acc)) left ∙ here less
        ∙ sym (append_assoc front (d ∷ []) acc)
        ∙ ap (λ ds. ds ++ acc) (sym (more_digits (suc k + j) m [] more ∙ ap (λ n. digits_onto n 16 false (m / 16) (d ∷ [])) right ∙ there less))

-- the digit of a number's last four bits is that of the rest by 16
pub digit_is : (n : ℕ) → hexadecimal_digit n ≡ digit_glyph false (n % 16)
digit_is n = by_size (nat_lt (n % 16) 10) (n % 16)
  where
    by_size : (b : Bool) (d : ℕ) → cond b (d + 48) (d + 87) ≡ cond b (48 + d) (87 + d)
    by_size true d = omega arith
    by_size false d = omega arith

abbrev four : ℕ → List ℕ
four n = digit_glyph false (n / 4096 % 16) ∷ digit_glyph false (n / 256 % 16) ∷ digit_glyph false (n / 16 % 16) ∷ digit_glyph false (n % 16) ∷ []

-- a number of 16 bits in four digits
place_of_unit : (n : ℕ) → n < 65536 → place_text n ≡ four n
unfolding place_text digits
place_of_unit n fits = by_size (n / 4096) refl
  where
    escaped_is : drop 2 (escaped n) ≡ four n
    escaped_is = rw (digit_is (n / 4096), digit_is (n / 256), digit_is (n / 16), digit_is n) refl

    digits_are : 4096 ≤ n → digits_onto 64 16 false n [] ≡ four n
    digits_are more =
        let a : n / 16 / 16 ≡ n / 256 = omega arith in
        let b : n / 16 / 16 / 16 ≡ n / 4096 = omega arith in
        let c : n / 4096 % 16 ≡ n / 4096 = omega arith in
        more_digits 63 n [] (omega arith) ∙ more_digits 62 (n / 16) _ (omega arith) ∙ more_digits 61 (n / 16 / 16) _ (omega arith)
        ∙ one_digit 60 (n / 16 / 16 / 16) _ (omega arith) ∙ rw (b, a, c) refl

    by_size : (q : ℕ) → n / 4096 ≡ q → cond (nat_lt n 0x1000) (drop 2 (escaped n)) (digits_onto 64 16 false n []) ≡ four n
    by_size zero e = let less : nat_lt n 0x1000 ≡ true = lt-ltb n 0x1000 (omega (arith, e)) in rw less escaped_is
    by_size (suc q) e = let more : nat_lt n 0x1000 ≡ false = le-ltb n 0x1000 (omega (arith, e)) in rw more (digits_are (omega (arith, e)))

-- the digits of 16 bits after those of the bits above them
last_four : (n : ℕ) → 65536 ≤ n → n < 2 ^ 64 → digits 16 false n ≡ digits 16 false (n / 65536) ++ place_text (n % 65536)
unfolding digits
last_four n more fits =
    let a : n / 16 / 16 / 16 / 16 ≡ n / 65536 = omega arith in
    let third : n / 16 / 16 ≡ n / 256 = omega arith in
    let fourth : n / 16 / 16 / 16 ≡ n / 4096 = omega arith in
    let d : n % 65536 / 4096 % 16 ≡ n / 4096 % 16 = omega arith in
    let e : n % 65536 / 256 % 16 ≡ n / 256 % 16 = omega arith in
    let f : n % 65536 / 16 % 16 ≡ n / 16 % 16 = omega arith in
    let g : n % 65536 % 16 ≡ n % 16 = omega arith in
    let low : place_text (n % 65536) ≡ four n = place_of_unit (n % 65536) (omega arith) ∙ rw (d, e, f, g) refl in
    more_digits 63 n [] (omega arith) ∙ more_digits 62 (n / 16) _ (omega arith) ∙ more_digits 61 (n / 16 / 16) _ (omega arith) ∙ more_digits 60 (n / 16 / 16 / 16) _ (omega arith)
    ∙ before_others 59 0 4 (n / 16 / 16 / 16 / 16) _ (omega arith)
    ∙ rw (a, fourth, third) (ap (λ ds. digits_onto 64 16 false (n / 65536) [] ++ ds) (sym low))

-- a number of more than 32 bits
pub wide_place : (n : ℕ) → 2 ^ 32 ≤ n → n < 2 ^ 64 → place_text n ≡ digits 16 false (n / 2 ^ 32) ++ (place_text (n / 65536 % 65536) ++ place_text (n % 65536))
unfolding place_text
wide_place n more fits =
    let large : nat_lt n 0x1000 ≡ false = le-ltb n 0x1000 (omega arith) in
    let high : n / 65536 / 65536 ≡ n / 2 ^ 32 = omega arith in
    rw large (last_four n (omega arith) fits
    ∙ ap (λ ds. ds ++ place_text (n % 65536)) (last_four (n / 65536) (omega arith) (omega arith) ∙ ap (λ m. digits 16 false m ++ place_text (n / 65536 % 65536)) high)
    ∙ append_assoc (digits 16 false (n / 2 ^ 32)) (place_text (n / 65536 % 65536)) (place_text (n % 65536)))
