-- The widths of numbers in values: the minimum number of bytes.
use Rattle.dexspec.proofs.Common.{◌≡◌, All, ℕ, zero, suc, ◌+◌, ◌-◌, ◌*◌, ◌/◌, ◌%◌, ◌^◌, ◌<◌, ◌≤◌, ◌⊎◌, List, [], ◌∷◌, length, refl, ap, sym, ◌∙◌, arith, inl, inr, ℤ, Bool, true, false, cond, Some, unwrap_or, nat_lt, ◌==◌, find, pow-le-pow_right, div-add-mod, div-lt_iff_lt-mul, mul-mod_right, pow-add, both_ways, cases_lt, cases_eq, lt-ltb, ltb-true, eq-eqb, eqb-true}
use Rattle.dexspec.specs.{number_of, bytes_of, signed_in, BytesAt, magnitude, SizedAt, SignedAt, UnsignedAt, BitsAt, value_byte, unsigned_width, signed_width, bits_width, complement, unsigned_bytes, signed_bytes, bits_bytes}
use Rattle.dexspec.proofs.numbers.ByteNumbers.{pow_256_pos, length-bytes_of, number_of-bytes_of, number_bound, signed_in-bytes_of, signed_in_room}

-- ---- the first of some numbers that passes a test

-- consecutive numbers
abbrev up : ℕ → ℕ → List ℕ
up from zero = []
up from (suc n) = from ∷ up (suc from) n

-- the number passes, none before it does, and it is in the range, or it is the default
record First (test : ℕ → Bool) (from count default r : ℕ) : Type 0 where
  holds : test r ≡ true
  before : (m : ℕ) → from ≤ m → m < from + count → m < r → test m ≡ false
  range : (from ≤ r) ⊎ (r ≡ default)

-- case split on the test of the first number of the range
first_by : (test : ℕ → Bool) (k n d : ℕ) (t : Bool) → test k ≡ t → First test (suc k) n d (unwrap_or (find test (up (suc k) n)) d)
    → First test k (suc n) d (unwrap_or (cond t (Some k) (find test (up (suc k) n))) d)
first_by test k n d true e rest = record { holds = e; before = λ m ge lt less. absurd (omega arith); range = inl (omega arith) }
first_by test k n d false e rest = record {
  holds = rest.holds;
  before = λ m ge lt less. elim (cases_eq m k) [ inl is ↦ ap test is ∙ e | inr other ↦ rest.before m (omega arith) (omega arith) less ];
  range = elim rest.range [ inl h ↦ inl (omega arith) | inr h ↦ inr h ];
}

-- the number that is found in a range is the first that passes
first : (test : ℕ → Bool) (d : ℕ) → test d ≡ true → (k n : ℕ) → First test k n d (unwrap_or (find test (up k n)) d)
first test d top k zero = record { holds = top; before = λ m ge lt less. absurd (omega arith); range = inr refl }
first test d top k (suc n) = first_by test k n d (test k) refl (first test d top (suc k) n)

-- a width from one to the greatest that passes, while no lesser one does
record IsWidth (test : ℕ → Bool) (most r : ℕ) : Type 0 where
  some : 1 ≤ r
  few : r ≤ most
  holds : test r ≡ true
  least : (m : ℕ) → 1 ≤ m → test m ≡ true → r ≤ m

-- the first width that passes is the least
width_is : (test : ℕ → Bool) (most : ℕ) → 1 ≤ most → most ≤ 8 → test most ≡ true → (r : ℕ) → First test 1 8 most r → IsWidth test most r
width_is test most one eight top r h =
    let least : (m : ℕ) → 1 ≤ m → m < 9 → test m ≡ true → r ≤ m = λ m ge lt passes. elim (cases_lt m r) [
      | inl less ↦ absurd (both_ways (test m) (h.before m ge lt less) passes)
      | inr other ↦ other
    ] in
    let few : r ≤ most = least most one (omega arith) top in
    record {
      some = elim h.range [ inl ge ↦ ge | inr is ↦ omega arith ];
      few = few;
      holds = h.holds;
      least = λ m ge passes. elim (cases_lt m 9) [ inl lt ↦ least m ge lt passes | inr more ↦ omega arith ];
    }

-- ---- unsigned numbers

-- the minimum number of bytes for v
pub record IsUnsignedWidth (v n : ℕ) : Type 0 where
  pub some : 1 ≤ n
  pub holds : v < 256 ^ n
  pub least : (m : ℕ) → 1 ≤ m → v < 256 ^ m → n ≤ m

-- case split on the test of a width
unsigned_by : (v n : ℕ) → IsWidth (λ n. nat_lt v (256 ^ n)) 8 n → IsUnsignedWidth v n
unsigned_by v n h = record { some = h.some; holds = ltb-true v (256 ^ n) h.holds; least = λ m ge lt. h.least m ge (lt-ltb v (256 ^ m) lt) }

-- the width of an unsigned number
pub unsigned_width_is : (v : ℕ) → v < 256 ^ 8 → IsUnsignedWidth v (unsigned_width v)
unsigned_width_is v lt =
    let test = λ (n : ℕ). nat_lt v (256 ^ n) in
    unsigned_by v (unsigned_width v) (width_is test 8 (omega arith) (omega arith) (lt-ltb v (256 ^ 8) lt) (unsigned_width v) (first test 8 (lt-ltb v (256 ^ 8) lt) 1 8))

-- the width of a signed number
pub signed_width_is : (z : ℤ) → 2 * magnitude z < 256 ^ 8 → IsUnsignedWidth (2 * magnitude z) (signed_width z)
signed_width_is z lt = unsigned_width_is (2 * magnitude z) lt

-- ---- bit patterns

-- the minimum number of bytes for the bit pattern v without the zeros at its low end
pub record IsBitsWidth (width v n : ℕ) : Type 0 where
  pub some : 1 ≤ n
  pub few : n ≤ width
  pub holds : v % 256 ^ (width - n) ≡ 0
  pub least : (m : ℕ) → 1 ≤ m → v % 256 ^ (width - m) ≡ 0 → n ≤ m

-- case split on the test of a width
bits_by : (width v n : ℕ) → IsWidth (λ n. v % 256 ^ (width - n) == 0) width n → IsBitsWidth width v n
bits_by width v n h = record {
  some = h.some;
  few = h.few;
  holds = eqb-true (v % 256 ^ (width - n)) 0 h.holds;
  least = λ m ge is. h.least m ge (eq-eqb (v % 256 ^ (width - m)) 0 is);
}

-- the width of a bit pattern
pub bits_width_is : (width v : ℕ) → 1 ≤ width → width ≤ 8 → IsBitsWidth width v (bits_width width v)
bits_width_is width v some few =
    let test = λ (n : ℕ). v % 256 ^ (width - n) == 0 in
    let none : width - width ≡ 0 = omega arith in
    let all : v % 256 ^ (width - width) ≡ 0 = rw none (omega arith) in
    let top = eq-eqb (v % 256 ^ (width - width)) 0 all in
    bits_by width v (bits_width width v) (width_is test width some few top (bits_width width v) (first test width top 1 8))

-- ---- the number that is read from the bytes

-- an unsigned number
pub unsigned_back : (v : ℕ) → v < 256 ^ 8 → number_of (bytes_of (unsigned_width v) v) ≡ v
unsigned_back v lt = number_of-bytes_of (unsigned_width v) v (unsigned_width_is v lt).holds

-- a signed number
pub signed_back : (z : ℤ) → 2 * magnitude z < 256 ^ 8 → signed_in (signed_width z) (number_of (bytes_of (signed_width z) (complement (signed_width z) z))) ≡ z
signed_back z lt = let is = signed_width_is z lt in signed_in-bytes_of (signed_width z) z is.some is.holds

-- a bit pattern, in a width that fits it
bits_by_width : (width v n : ℕ) → v < 256 ^ width → IsBitsWidth width v n → 256 ^ (width - n) * number_of (bytes_of n (v / 256 ^ (width - n))) ≡ v
bits_by_width width v n lt is =
    let few = is.few in
    let parts : n + (width - n) ≡ width = omega arith in
    let room : v < 256 ^ n * 256 ^ (width - n) = rw (← pow-add 256 n (width - n), parts) lt in
    let high = (div-lt_iff_lt-mul {k = 256 ^ (width - n)} {x = v} {y = 256 ^ n} (pow_256_pos (width - n))).1 room in
    let whole = div-add-mod v (256 ^ (width - n)) in
    ap (λ (x : ℕ). 256 ^ (width - n) * x) (number_of-bytes_of n (v / 256 ^ (width - n)) high) ∙ omega (arith, whole, is.holds)

-- a bit pattern
pub bits_back : (width v : ℕ) → 1 ≤ width → width ≤ 8 → v < 256 ^ width → 256 ^ (width - bits_width width v) * number_of (bytes_of (bits_width width v) (v / 256 ^ (width - bits_width width v))) ≡ v
bits_back width v some few lt = bits_by_width width v (bits_width width v) lt (bits_width_is width v some few)

-- ---- no fewer bytes encode the number

-- for an unsigned number
pub unsigned_least : (v : ℕ) → v < 256 ^ 8 → (bytes : List ℕ) → All (λ x. x < 256) bytes → 0 < length bytes → number_of bytes ≡ v → unsigned_width v ≤ length bytes
unsigned_least v lt bytes are some is = (unsigned_width_is v lt).least (length bytes) some (omega (arith, number_bound bytes are))

-- for a signed number
pub signed_least : (z : ℤ) → 2 * magnitude z < 256 ^ 8 → (bytes : List ℕ) → All (λ x. x < 256) bytes → 0 < length bytes → signed_in (length bytes) (number_of bytes) ≡ z → signed_width z ≤ length bytes
signed_least z lt bytes are some is = (signed_width_is z lt).least (length bytes) some (signed_in_room bytes z are some is)

-- for a bit pattern
pub bits_least : (width v : ℕ) → 1 ≤ width → width ≤ 8 → (bytes : List ℕ) → 0 < length bytes → 256 ^ (width - length bytes) * number_of bytes ≡ v → bits_width width v ≤ length bytes
bits_least width v one few bytes some is =
    (bits_width_is width v one few).least (length bytes) some (ap (λ (x : ℕ). x % 256 ^ (width - length bytes)) (sym is) ∙ mul-mod_right (256 ^ (width - length bytes)) (number_of bytes))

-- ---- written bytes are read as the number

-- w bytes after a first byte that counts them
sized : (code width w : ℕ) (b : List ℕ) (o x : ℕ) → 1 ≤ w → w ≤ width → BytesAt b o (value_byte (w - 1) code ∷ bytes_of w x) → SizedAt code width b o (bytes_of w x) (1 + w)
sized code width w b o x some few h =
    let len = length-bytes_of w x in
    record { some = omega (arith, len); few = omega (arith, len); encodes = rw len h; size = omega (arith, len) }

-- a number that fits a width of at most 8 fits 8 bytes
wide : (width x : ℕ) → width ≤ 8 → x < 256 ^ width → x < 256 ^ 8
wide width x few lt = let grows : 256 ^ width ≤ 256 ^ 8 = pow-le-pow_right (omega arith) few in omega arith

-- an unsigned number, in its least width
unsigned_by_width : (code width : ℕ) (b : List ℕ) (o v w : ℕ) → 1 ≤ width → v < 256 ^ width → IsUnsignedWidth v w → BytesAt b o (value_byte (w - 1) code ∷ bytes_of w v) → UnsignedAt code width b o v (1 + w)
unsigned_by_width code width b o v w one lt is h = (bytes_of w v, sized code width w b o v is.some (is.least width one lt) h, sym (number_of-bytes_of w v is.holds))

-- an unsigned number
pub unsigned_at : (code width : ℕ) (b : List ℕ) (o v : ℕ) → 1 ≤ width → width ≤ 8 → v < 256 ^ width → BytesAt b o (unsigned_bytes code v) → UnsignedAt code width b o v (1 + unsigned_width v)
unsigned_at code width b o v one few lt h = unsigned_by_width code width b o v (unsigned_width v) one lt (unsigned_width_is v (wide width v few lt)) h

-- a signed number, in its least width
signed_by_width : (code width : ℕ) (b : List ℕ) (o : ℕ) (z : ℤ) (w : ℕ) → 1 ≤ width → 2 * magnitude z < 256 ^ width → IsUnsignedWidth (2 * magnitude z) w
    → BytesAt b o (value_byte (w - 1) code ∷ bytes_of w (complement w z)) → SignedAt code width b o z (1 + w)
signed_by_width code width b o z w one lt is h = (
  bytes_of w (complement w z),
  sized code width w b o (complement w z) is.some (is.least width one lt) h,
  sym (ap (λ (n : ℕ). signed_in n (number_of (bytes_of w (complement w z)))) (length-bytes_of w (complement w z)) ∙ signed_in-bytes_of w z is.some is.holds),
)

-- a signed number
pub signed_at : (code width : ℕ) (b : List ℕ) (o : ℕ) (z : ℤ) → 1 ≤ width → width ≤ 8 → 2 * magnitude z < 256 ^ width → BytesAt b o (signed_bytes code z) → SignedAt code width b o z (1 + signed_width z)
signed_at code width b o z one few lt h = signed_by_width code width b o z (signed_width z) one lt (signed_width_is z (wide width (2 * magnitude z) few lt)) h

-- a bit pattern, in its least width
bits_at_width : (code width : ℕ) (b : List ℕ) (o v w : ℕ) → v < 256 ^ width → IsBitsWidth width v w
    → BytesAt b o (value_byte (w - 1) code ∷ bytes_of w (v / 256 ^ (width - w))) → BitsAt code width b o v (1 + w)
bits_at_width code width b o v w lt is h =
    let x = v / 256 ^ (width - w) in (
      bytes_of w x,
      sized code width w b o x is.some is.few h,
      sym (ap (λ (n : ℕ). 256 ^ (width - n) * number_of (bytes_of w x)) (length-bytes_of w x) ∙ bits_by_width width v w lt is),
    )

-- a bit pattern
pub bits_at : (code width : ℕ) (b : List ℕ) (o v : ℕ) → 1 ≤ width → width ≤ 8 → v < 256 ^ width → BytesAt b o (bits_bytes code width v) → BitsAt code width b o v (1 + bits_width width v)
bits_at code width b o v one few lt h = bits_at_width code width b o v (bits_width width v) lt (bits_width_is width v one few) h
