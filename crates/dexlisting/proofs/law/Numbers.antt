-- Numbers of a listing are read back.
use Rattle.dexspec.proofs.Common.{◌≡◌, ℕ, zero, suc, ◌+◌, ◌/◌, ◌%◌, ◌^◌, ◌<◌, ◌≤◌, ◌==◌, ◌||◌, Bool, true, false, List, [], ◌∷◌, ◌++◌, refl, sym, ap, subst, ◌∙◌, append_cancel_left, cases_lt, inl, inr, arith, codes, ℤ, pos, negsuc, nat_abs, FitsSigned, w8, w16, w32, ints}
use Rattle.std.proofs.Common.{decimal, if◌then◌else◌, nat_lt, drop, w64, mod-lt, eqb-true, lt-ltb, le-ltb, append_assoc}
use Rattle.std.specs.Fmt.{digits, digits_onto, digit_glyph}
use Rattle.std.specs.Str.Parse.{digits_value}
use Rattle.std.specs.Char.{digit_value}
use Rattle.std.specs.List.{join_with_byte}
use Rattle.std.proofs.lemmas.Fmt.{digits_is_IsNumeral}
use Rattle.dexstr.specs.Escapes.{escaped, hexadecimal_digit}
use Rattle.dexout.specs.Printed.{count_text, place_text}
use Rattle.dexflags.specs.Flags.{FlagsOf, flag_names, flags_text}
use Rattle.dexlisting.specs.FullListing.{is_between, signed_text, register_text, literal_text}
use Rattle.dexlisting.proofs.Digits.{digit_is}
use Rattle.dexlisting.proofs.law.Reads.{Reads, Anything, Ends, after, reads_words}
use Rattle.dexlisting.proofs.law.Spans.{all_below, passes_below, Pass, same_span, head_is}

-- ---- digits

-- 0 to 9
abbrev pub is_digit : ℕ → Bool
is_digit u = is_between 0x30 0x39 u

-- 0 to 9, a to f
abbrev pub is_hexadecimal : ℕ → Bool
is_hexadecimal u = is_between 0x30 0x39 u || is_between 0x61 0x66 u

-- both of two texts pass
pass_either : (test : ℕ → Bool) (c : Bool) (a b : List ℕ) → Pass test a → Pass test b → Pass test (if c then a else b)
pass_either test true a b pa pb = pa
pass_either test false a b pa pb = pb

-- the digits of a number are digits of the base
pass_onto : (test : ℕ → Bool) (base k n : ℕ) (acc : List ℕ) → 0 < base → all_below (λ d. test (digit_glyph false d)) base ≡ true → Pass test acc → Pass test (digits_onto k base false n acc)
pass_onto test base zero n acc some all pass = pass
pass_onto test base (suc k) n acc some all pass =
    let more : Pass test (digit_glyph false (n % base) ∷ acc) = (passes_below (λ d. test (digit_glyph false d)) base (n % base) all (mod-lt n some), pass) in
    pass_either test (n / base == 0) (digit_glyph false (n % base) ∷ acc) (digits_onto k base false (n / base) (digit_glyph false (n % base) ∷ acc)) more
    (pass_onto test base k (n / base) (digit_glyph false (n % base) ∷ acc) some all more)

-- decimal digits
pub pass_decimal : (n : ℕ) → Pass is_digit (decimal n)
unfolding digits
pass_decimal n = pass_onto is_digit 10 64 n [] (omega arith) refl tt

-- hexadecimal digits
pub pass_digits : (n : ℕ) → Pass is_hexadecimal (digits 16 false n)
unfolding digits
pass_digits n = pass_onto is_hexadecimal 16 64 n [] (omega arith) refl tt

-- a number in decimal of any size
pub same_decimal : (m n : ℕ) (r s : List ℕ) → Ends is_digit r → Ends is_digit s → decimal m ++ r ≡ decimal n ++ s → (decimal m ≡ decimal n) × (r ≡ s)
same_decimal m n r s fr fs e = same_span is_digit (decimal m) (decimal n) r s (pass_decimal m) (pass_decimal n) fr fs e

-- numbers with the same digits
pub same_number : (base m n : ℕ) → 2 ≤ base → base ≤ 16 → m < base ^ 64 → n < base ^ 64 → digits base false m ≡ digits base false n → m ≡ n
same_number base m n low high lm ln e =
    sym (digits_is_IsNumeral base false low high m lm).1 ∙ ap (digits_value base) e ∙ (digits_is_IsNumeral base false low high n ln).1

-- a number in decimal is read back
pub reads_decimal : Reads (λ n. n < 2 ^ 64) (Ends is_digit) decimal
reads_decimal = record {
  read = λ x y r s gx gy fr fs e.
      let p = same_decimal x y r s fr fs e in
      (same_number 10 x y (omega arith) (omega arith) (omega arith) (omega arith) p.0, p.1);
}

-- and so after words
pub reads_count : (words : List ℕ) → Reads (λ n. n < 2 ^ 64) (Ends is_digit) (count_text words)
unfolding count_text
reads_count words = reads_words words reads_decimal

-- a register is read back
pub reads_register : Reads (λ n. n < 2 ^ 64) (Ends is_digit) register_text
unfolding register_text
reads_register = reads_count (codes "v")

-- ---- signed numbers

-- what follows a signed number of any size
pub same_signed : (y z : ℤ) (r s : List ℕ) → Ends is_digit r → Ends is_digit s → signed_text y ++ r ≡ signed_text z ++ s → r ≡ s
unfolding signed_text
same_signed (pos m) (pos n) r s fr fs e = (same_decimal m n r s fr fs (after (codes "+") e)).1
same_signed (pos m) (negsuc n) r s fr fs e = absurd (omega (arith, head_is 0x2b 0x2d _ _ e))
same_signed (negsuc m) (pos n) r s fr fs e = absurd (omega (arith, head_is 0x2d 0x2b _ _ e))
same_signed (negsuc m) (negsuc n) r s fr fs e = (same_decimal (suc m) (suc n) r s fr fs (after (codes "-") e)).1

-- sign by sign
signed_from : (y z : ℤ) (r s : List ℕ) → nat_abs y < 2 ^ 64 → nat_abs z < 2 ^ 64 → Ends is_digit r → Ends is_digit s
    → signed_text y ++ r ≡ signed_text z ++ s → (y ≡ z) × (r ≡ s)
unfolding signed_text
signed_from (pos m) (pos n) r s gy gz fr fs e = let p = reads_decimal.read m n r s gy gz fr fs (after (codes "+") e) in (ap pos p.0, p.1)
signed_from (pos m) (negsuc n) r s gy gz fr fs e = absurd (omega (arith, head_is 0x2b 0x2d _ _ e))
signed_from (negsuc m) (pos n) r s gy gz fr fs e = absurd (omega (arith, head_is 0x2d 0x2b _ _ e))
signed_from (negsuc m) (negsuc n) r s gy gz fr fs e =
    let p = reads_decimal.read (suc m) (suc n) r s gy gz fr fs (after (codes "-") e) in
    (ap negsuc (omega (arith, p.0)), p.1)

-- a signed number is read back
pub reads_signed : Reads (λ z. nat_abs z < 2 ^ 64) (Ends is_digit) signed_text
reads_signed = record { read = signed_from }

-- a literal is read back
pub reads_literal : Reads (λ z. nat_abs z < 2 ^ 64) (Ends is_digit) literal_text
unfolding literal_text
reads_literal = reads_words (codes "#") reads_signed

-- ---- hexadecimal numbers

-- the digit of a number's last four bits is hexadecimal
pass_digit : (n : ℕ) → is_hexadecimal (hexadecimal_digit n) ≡ true
pass_digit n = subst (λ d. is_hexadecimal d ≡ true) (sym (digit_is n)) (passes_below (λ d. is_hexadecimal (digit_glyph false d)) 16 (n % 16) refl (omega arith))

-- a number of four digits, with zeros before it
pub pass_place : (n : ℕ) → Pass is_hexadecimal (place_text n)
unfolding place_text
pass_place n = pass_either is_hexadecimal (nat_lt n 0x1000) (drop 2 (escaped n)) (digits 16 false n)
    (pass_digit (n / 4096), (pass_digit (n / 256), (pass_digit (n / 16), (pass_digit n, tt)))) (pass_digits n)

-- the value of a digit
pub value_of : (n : ℕ) → digit_value (hexadecimal_digit n) ≡ n % 16
value_of n = ap digit_value (digit_is n) ∙ eqb-true _ _ (passes_below (λ d. digit_value (digit_glyph false d) == d) 16 (n % 16) refl (omega arith))

-- the number that four digits write
four_digits : (n : ℕ) → n < 0x1000 → digits_value 16 (drop 2 (escaped n)) ≡ n
four_digits n lt = rw (value_of (n / 4096), value_of (n / 256), value_of (n / 16), value_of n) (omega arith)

-- the number that a place writes
pub place_value : (n : ℕ) → n < 2 ^ 64 → digits_value 16 (place_text n) ≡ n
unfolding place_text
place_value n fits = elim (cases_lt n 0x1000) [
  | inl less ↦ rw (lt-ltb n 0x1000 less) (four_digits n less)
  | inr more ↦ rw (le-ltb n 0x1000 more) (digits_is_IsNumeral 16 false (omega arith) (omega arith) n (omega arith)).1
]

-- a place, or a number like it, is read back
pub reads_place : Reads (λ n. n < 2 ^ 64) (Ends is_hexadecimal) place_text
reads_place = record {
  read = λ x y r s gx gy fr fs e.
      let p = same_span is_hexadecimal (place_text x) (place_text y) r s (pass_place x) (pass_place y) fr fs e in
      (sym (place_value x gx) ∙ ap (digits_value 16) p.0 ∙ place_value y gy, p.1);
}

-- ---- flags

-- the names are those of the number
flags_from : (what : FlagsOf) (x y : ℕ) (r s : List ℕ) → x < 2 ^ 64 → y < 2 ^ 64 → flags_text what x ++ r ≡ flags_text what y ++ s → (x ≡ y) × (r ≡ s)
flags_from what x y r s gx gy e =
    let a = λ (n : ℕ). codes "(" ++ (join_with_byte 0x2c (flag_names what n) ++ codes ")") in
    let p = same_span is_hexadecimal (digits 16 false x) (digits 16 false y) (a x ++ r) (a y ++ s) (pass_digits x) (pass_digits y) refl refl
    (sym (append_assoc (digits 16 false x) (a x) r) ∙ after (codes "0x") e ∙ append_assoc (digits 16 false y) (a y) s) in
    let same : x ≡ y = same_number 16 x y (omega arith) (omega arith) (omega arith) (omega arith) p.0 in
    (same, append_cancel_left (a x) r s (p.1 ∙ ap (λ n. a n ++ s) (sym same)))

-- flags are read back
pub reads_flags : (what : FlagsOf) → Reads (λ n. n < 2 ^ 64) Anything (flags_text what)
reads_flags what = record { read = λ x y r s gx gy fr fs e. flags_from what x y r s gx gy e }

-- ---- numbers of fewer bits

-- of 8 bits, with a sign
pub fits_byte : (z : ℤ) → FitsSigned w8 z → nat_abs z < 2 ^ 64
fits_byte z fits = omega (arith, ints, fits)

-- of 16 bits
pub fits_short : (z : ℤ) → FitsSigned w16 z → nat_abs z < 2 ^ 64
fits_short z fits = omega (arith, ints, fits)

-- of 32 bits
pub fits_int : (z : ℤ) → FitsSigned w32 z → nat_abs z < 2 ^ 64
fits_int z fits = omega (arith, ints, fits)

-- of 64 bits
pub fits_long : (z : ℤ) → FitsSigned w64 z → nat_abs z < 2 ^ 64
fits_long z fits = omega (arith, ints, fits)
