-- The first unit of a descriptor determines its kind.
use Rattle.dexids.proofs.Common.{◌≡◌, ◌≢◌, ℕ, zero, suc, ◌<◌, ◌≤◌, Bool, true, false, List, [], ◌∷◌, ◌++◌, map, get_or, refl, sym, ap, ◌∙◌, subst, arith, inl, inr, ne_eqb, All, All-nil, All-cons, All-head, All-tail, replicate, ◌==◌, if◌then◌else◌, Text, IsDescriptor, VoidType, PrimitiveType, ClassType, ArrayType, IsVoid, IsPrimitive, IsClass, IsArray, IsValueType, IsReferenceType, primitive_letters, shorty_letter, IsAscii}
use Rattle.dexids.specs.internal.Kinds.{first_of}

-- none of the letters of void, class and array
record IsOther (l : ℕ) : Type 0 where
  void : l ≢ 0x56
  class : l ≢ 0x4c
  array : l ≢ 0x5b
  ascii : IsAscii l

other_is : (l k : ℕ) → k ≡ l → k ≢ 0x56 → k ≢ 0x4c → k ≢ 0x5b → IsAscii k → IsOther l
other_is l k e v c a i = record { void = λ x. v (e ∙ x); class = λ x. c (e ∙ x); array = λ x. a (e ∙ x); ascii = subst IsAscii e i }

known_letter : (i l : ℕ) → i < 8 → get_or primitive_letters i l ≡ l → IsOther l
known_letter zero l lt e = other_is l 0x5a e (λ x. omega (arith, x)) (λ x. omega (arith, x)) (λ x. omega (arith, x)) (omega arith, omega arith)
known_letter (suc zero) l lt e = other_is l 0x42 e (λ x. omega (arith, x)) (λ x. omega (arith, x)) (λ x. omega (arith, x)) (omega arith, omega arith)
known_letter (suc (suc zero)) l lt e = other_is l 0x53 e (λ x. omega (arith, x)) (λ x. omega (arith, x)) (λ x. omega (arith, x)) (omega arith, omega arith)
known_letter (suc (suc (suc zero))) l lt e = other_is l 0x43 e (λ x. omega (arith, x)) (λ x. omega (arith, x)) (λ x. omega (arith, x)) (omega arith, omega arith)
known_letter (suc (suc (suc (suc zero)))) l lt e = other_is l 0x4a e (λ x. omega (arith, x)) (λ x. omega (arith, x)) (λ x. omega (arith, x)) (omega arith, omega arith)
known_letter (suc (suc (suc (suc (suc zero))))) l lt e = other_is l 0x49 e (λ x. omega (arith, x)) (λ x. omega (arith, x)) (λ x. omega (arith, x)) (omega arith, omega arith)
known_letter (suc (suc (suc (suc (suc (suc zero)))))) l lt e = other_is l 0x46 e (λ x. omega (arith, x)) (λ x. omega (arith, x)) (λ x. omega (arith, x)) (omega arith, omega arith)
known_letter (suc (suc (suc (suc (suc (suc (suc zero))))))) l lt e = other_is l 0x44 e (λ x. omega (arith, x)) (λ x. omega (arith, x)) (λ x. omega (arith, x)) (omega arith, omega arith)
known_letter (suc (suc (suc (suc (suc (suc (suc (suc i)))))))) l lt e = absurd (omega arith)

primitive_first : (t : Text) → IsPrimitive t → IsOther (first_of t)
primitive_first t h = let e : first_of t ≡ h.letter = ap first_of h.is in
    let o = known_letter h.known.0 h.letter h.known.1 h.known.2 in record {
      void = λ x. o.void (sym e ∙ x);
      class = λ x. o.class (sym e ∙ x);
      array = λ x. o.array (sym e ∙ x);
      ascii = subst IsAscii (sym e) o.ascii;
    }

void_first : (t : Text) → IsVoid t → first_of t ≡ 0x56
void_first t h = ap first_of h

pub class_first : (t : Text) → IsClass t → first_of t ≡ 0x4c
class_first t h = ap first_of h.is

bracket_first : (d : ℕ) (e : Text) → 1 ≤ d → first_of (replicate d 0x5b ++ e) ≡ 0x5b
bracket_first zero e lt = absurd (omega arith)
bracket_first (suc d) e lt = refl

array_first : (t : Text) → IsArray t → first_of t ≡ 0x5b
array_first t h = ap first_of h.is ∙ bracket_first h.dimensions h.element h.some

pub class_if : (t : Text) → IsDescriptor t → first_of t ≡ 0x4c → IsClass t
class_if t (VoidType, h) e = absurd (omega (arith, void_first t h, e))
class_if t (PrimitiveType, h) e = absurd ((primitive_first t h).class e)
class_if t (ClassType, h) e = h
class_if t (ArrayType, h) e = absurd (omega (arith, array_first t h, e))

pub value_if : (t : Text) → IsDescriptor t → (first_of t ≡ 0x56 → ⊥) → IsValueType t
value_if t (VoidType, h) e = absurd (e (void_first t h))
value_if t (PrimitiveType, h) e = inl h
value_if t (ClassType, h) e = inr (inl h)
value_if t (ArrayType, h) e = inr (inr h)

pub value_not : (t : Text) → IsValueType t → first_of t ≡ 0x56 → ⊥
value_not t (inl h) e = (primitive_first t h).void e
value_not t (inr (inl h)) e = omega (arith, class_first t h, e)
value_not t (inr (inr h)) e = omega (arith, array_first t h, e)

-- ---- the letter in a shorty

array_letter : (t : Text) → first_of t ≡ 0x5b → shorty_letter t ≡ 0x4c
array_letter [] e = absurd (omega (arith, e))
array_letter (u ∷ s) e = rw e refl

class_letter : (t : Text) → first_of t ≡ 0x4c → shorty_letter t ≡ 0x4c
class_letter [] e = absurd (omega (arith, e))
class_letter (u ∷ s) e = rw e refl

own_letter : (t : Text) → first_of t ≢ 0x5b → shorty_letter t ≡ first_of t
own_letter [] other = refl
own_letter (u ∷ s) other = rw (ne_eqb u 0x5b other) refl

void_unit : (b : Bool) (u : ℕ) → (if b then 0x4c else u) ≡ 0x56 → u ≡ 0x56
void_unit true u h = absurd (omega (arith, h))
void_unit false u h = h

letter_of_void : (t : Text) → first_of t ≡ 0x56 → shorty_letter t ≡ 0x56
letter_of_void [] e = absurd (omega (arith, e))
letter_of_void (u ∷ s) e = rw e refl

first_of_void : (t : Text) → shorty_letter t ≡ 0x56 → first_of t ≡ 0x56
first_of_void [] h = absurd (omega (arith, h))
first_of_void (u ∷ s) h = void_unit (u == 0x5b) u h

-- a type whose letter is not void's is one of values
pub letter_void : (t : Text) → IsDescriptor t → (shorty_letter t ≡ 0x56 → ⊥) → IsValueType t
letter_void t d h = value_if t d (λ e. h (letter_of_void t e))

-- and no other is
pub void_letter : (t : Text) → IsValueType t → shorty_letter t ≡ 0x56 → ⊥
void_letter t v h = value_not t v (first_of_void t h)

pub reference_letter : (t : Text) → IsReferenceType t → shorty_letter t ≡ 0x4c
reference_letter t (inl h) = class_letter t (class_first t h)
reference_letter t (inr h) = array_letter t (array_first t h)

pub reference_if : (t : Text) → IsDescriptor t → shorty_letter t ≡ 0x4c → IsReferenceType t
reference_if t (VoidType, h) e = absurd (omega (arith, letter_of_void t (void_first t h), e))
reference_if t (PrimitiveType, h) e = let other = primitive_first t h in absurd (other.class (sym (own_letter t other.array) ∙ e))
reference_if t (ClassType, h) e = inl h
reference_if t (ArrayType, h) e = inr h

-- the letter is of ASCII
pub letter_ascii : (t : Text) → IsDescriptor t → IsAscii (shorty_letter t)
letter_ascii t (VoidType, h) = subst IsAscii (sym (letter_of_void t (void_first t h))) (omega arith, omega arith)
letter_ascii t (PrimitiveType, h) = let other = primitive_first t h in subst IsAscii (sym (own_letter t other.array)) other.ascii
letter_ascii t (ClassType, h) = subst IsAscii (sym (class_letter t (class_first t h))) (omega arith, omega arith)
letter_ascii t (ArrayType, h) = subst IsAscii (sym (array_letter t (array_first t h))) (omega arith, omega arith)

pub letters_ascii : (ts : List Text) → All IsValueType ts → All IsAscii (map shorty_letter ts)
letters_ascii [] h = All-nil IsAscii
letters_ascii (t ∷ ts) h =
    All-cons IsAscii (shorty_letter t) (map shorty_letter ts) (elim (All-head IsValueType t ts h) [
      | inl primitive ↦ letter_ascii t (PrimitiveType, primitive)
      | inr (inl class) ↦ letter_ascii t (ClassType, class)
      | inr (inr array) ↦ letter_ascii t (ArrayType, array)
    ])
    (letters_ascii ts (All-tail IsValueType t ts h))
