-- Tests of names, symbols and numbers, each with what it implies: that they are well formed then follows by
-- computation.
use Rattle.dexexamples.proofs.Common.{◌≡◌, ℕ, ◌<◌, Bool, true, false, not, ◌&&◌, ◌||◌, nat_lt, nat_le, ◌==◌, List, [], ◌∷◌, ◌++◌, length, take, drop, replicate, Option, Some, None, sym, ap, subst, arith, inl, inr, ltb-true, leb-true, eqb-true, eq-eqb, All, IfSome, ◌≢◌, ◌⊎◌, ◌-◌, ◌^◌, ◌+◌, if◌then◌else◌, slice_index, slice_index_or, Contains, list_all, list_any, slice_split, All-weaker, AllPass-from_list_all, Text, same_text, IsNameUnit, IsMemberName, IsClassName, primitive_letters, VoidType, PrimitiveType, ClassType, ArrayType, IsPrimitive, IsClass, IsArray, IsDescriptor, IsValueType, IsReferenceType, Proto, Field, Method, Symbol, TextSymbol, TypeSymbol, ProtoSymbol, FieldSymbol, MethodSymbol, IsProto, IsField, IsMethod, all_of_option, FitsUint, FitsUshort, IsText, IsSymbol, and_first, and_second, list_any-source, text_decides}
use Rattle.std.proofs.lemmas.List.Splits.{length-slice_split, join_with_byte-slice_split}

-- ---- tests

-- a test of each member
pub all_by : {X : Type 0} (P : X → Type 0) (p : X → Bool) → ((x : X) → p x ≡ true → P x) → (xs : List X) → list_all p xs ≡ true → All P xs
all_by P p h xs e = All-weaker (λ x. p x ≡ true) P h xs (AllPass-from_list_all p xs e)

-- a test of an optional value
pub some_by : {X : Type 0} (P : X → Type 0) (p : X → Bool) → ((x : X) → p x ≡ true → P x) → (o : Option X) → all_of_option p o ≡ true → IfSome o P
some_by P p h None e = tt
some_by P p h (Some x) e = h x e

-- several tests
abbrev pub are_true : List Bool → Bool
are_true bs = list_all (λ b. b) bs

pub each : (bs : List Bool) → are_true bs ≡ true → (k : ℕ) → k < length bs → slice_index_or bs k false ≡ true
each bs e k lt = AllPass-from_list_all (λ b. b) bs e k false lt

-- one of two tests
pub either : (a b : Bool) → (a || b) ≡ true → (a ≡ true) ⊎ (b ≡ true)
either true b e = inl e
either false b e = inr e

-- tests of numbers
abbrev pub fits_uint : ℕ → Bool
fits_uint n = nat_lt n (2 ^ 32)

pub uint_by : (n : ℕ) → fits_uint n ≡ true → FitsUint n
uint_by n e = ltb-true n (2 ^ 32) e

abbrev pub fits_ushort : ℕ → Bool
fits_ushort n = nat_lt n (2 ^ 16)

pub ushort_by : (n : ℕ) → fits_ushort n ≡ true → FitsUshort n
ushort_by n e = ltb-true n (2 ^ 16) e

-- texts that are equal by the test
pub text_is : (s t : Text) → same_text s t ≡ true → s ≡ t
text_is s t e = (text_decides s t).0 e

-- ---- names

-- different numbers
unequal : (m n : ℕ) → not (m == n) ≡ true → m ≢ n
unequal m n e s = let same : not (m == n) ≡ false = ap not (eq-eqb m n s) in absurd cc

abbrev is_name_unit : ℕ → Bool
is_name_unit u = not (u == 0x2e) && (not (u == 0x3b) && (not (u == 0x5b) && not (u == 0x2f)))

name_unit_by : (u : ℕ) → is_name_unit u ≡ true → IsNameUnit u
name_unit_by u e =
    let a = not (u == 0x2e) in
    let b = not (u == 0x3b) in
    let c = not (u == 0x5b) in
    let d = not (u == 0x2f) in
    let rest = and_second a (b && (c && d)) e in
    let last = and_second b (c && d) rest in
    (unequal u 0x2e (and_first a (b && (c && d)) e), unequal u 0x3b (and_first b (c && d) rest), unequal u 0x5b (and_first c d last), unequal u 0x2f (and_second c d last))

abbrev pub is_member_name : Text → Bool
is_member_name s = nat_lt 0 (length s) && list_all is_name_unit s

pub member_name_by : (s : Text) → is_member_name s ≡ true → IsMemberName s
member_name_by s e = record {
  some = ltb-true 0 (length s) (and_first (nat_lt 0 (length s)) (list_all is_name_unit s) e);
  units = all_by IsNameUnit is_name_unit name_unit_by s (and_second (nat_lt 0 (length s)) (list_all is_name_unit s) e);
}

-- the parts between slashes
abbrev parts_of : Text → List Text
parts_of s = slice_split (λ u. u == 0x2f) s

class_name_by : (s : Text) → list_all is_member_name (parts_of s) ≡ true → IsClassName s
class_name_by s e = record {
  parts = parts_of s;
  some = omega (arith, length-slice_split (λ (u : ℕ). u == 0x2f) s);
  names = all_by IsMemberName is_member_name member_name_by (parts_of s) e;
  joined = sym (join_with_byte-slice_split 0x2f s);
}

-- the units between the first and the last
abbrev inner : Text → Text
inner s = take (length s - 2) (drop 1 s)

abbrev pub is_class : Text → Bool
is_class s = same_text s (0x4c ∷ (inner s ++ 0x3b ∷ [])) && list_all is_member_name (parts_of (inner s))

pub class_by : (s : Text) → is_class s ≡ true → IsClass s
class_by s e =
    let is = same_text s (0x4c ∷ (inner s ++ 0x3b ∷ [])) in
    let named = list_all is_member_name (parts_of (inner s)) in
    record { name = inner s; is = text_is s (0x4c ∷ (inner s ++ 0x3b ∷ [])) (and_first is named e); named = class_name_by (inner s) (and_second is named e) }

abbrev is_primitive : Text → Bool
is_primitive s = same_text s (slice_index s 0 ∷ []) && list_any (λ l. l == slice_index s 0) primitive_letters

primitive_by : (s : Text) → is_primitive s ≡ true → IsPrimitive s
primitive_by s e =
    let letter = slice_index s 0 in
    let is = same_text s (letter ∷ []) in
    let known = list_any (λ l. l == letter) primitive_letters in
    let found = list_any-source (λ (l : ℕ). l == letter) primitive_letters (and_second is known e) in
    record { letter = letter; is = text_is s (letter ∷ []) (and_first is known e); known = subst (Contains primitive_letters) (eqb-true found.0 letter found.2) found.1 }

-- the brackets before an element
abbrev brackets : Text → ℕ
brackets [] = 0
brackets (u ∷ s) = if u == 0x5b then 1 + brackets s else 0

abbrev array_tests : Text → ℕ → Text → List Bool
array_tests s n t = same_text s (replicate n 0x5b ++ t) ∷ nat_le 1 n ∷ nat_le n 255 ∷ (is_primitive t || is_class t) ∷ []

abbrev is_array : Text → Bool
is_array s = are_true (array_tests s (brackets s) (drop (brackets s) s))

array_by : (s : Text) → is_array s ≡ true → IsArray s
array_by s e =
    let n = brackets s in
    let t = drop n s in
    let h = each (array_tests s n t) e in
    record {
      dimensions = n;
      element = t;
      is = text_is s (replicate n 0x5b ++ t) (h 0 (omega arith));
      some = leb-true 1 n (h 1 (omega arith));
      few = leb-true n 255 (h 2 (omega arith));
      held = elim (either (is_primitive t) (is_class t) (h 3 (omega arith))) [ inl p ↦ inl (primitive_by t p) | inr c ↦ inr (class_by t c) ];
    }

abbrev pub is_value_type : Text → Bool
is_value_type s = is_primitive s || (is_class s || is_array s)

pub value_type_by : (s : Text) → is_value_type s ≡ true → IsValueType s
value_type_by s e = elim (either (is_primitive s) (is_class s || is_array s) e) [
  | inl p ↦ inl (primitive_by s p)
  | inr r ↦ elim (either (is_class s) (is_array s) r) [ inl c ↦ inr (inl (class_by s c)) | inr a ↦ inr (inr (array_by s a)) ]
]

abbrev is_reference_type : Text → Bool
is_reference_type s = is_class s || is_array s

reference_type_by : (s : Text) → is_reference_type s ≡ true → IsReferenceType s
reference_type_by s e = elim (either (is_class s) (is_array s) e) [ inl c ↦ inl (class_by s c) | inr a ↦ inr (array_by s a) ]

abbrev is_descriptor : Text → Bool
is_descriptor s = same_text s (0x56 ∷ []) || is_value_type s

descriptor_by : (s : Text) → is_descriptor s ≡ true → IsDescriptor s
descriptor_by s e = elim (either (same_text s (0x56 ∷ [])) (is_value_type s) e) [
  | inl v ↦ (VoidType, text_is s (0x56 ∷ []) v)
  | inr t ↦ elim (value_type_by s t) [ inl p ↦ (PrimitiveType, p) | inr r ↦ elim r [ inl c ↦ (ClassType, c) | inr a ↦ (ArrayType, a) ] ]
]

-- ---- symbols

abbrev pub is_text : Text → Bool
is_text s = list_all (λ u. nat_lt u (2 ^ 16)) s && fits_uint (length s)

pub text_by : (s : Text) → is_text s ≡ true → IsText s
text_by s e =
    let units = list_all (λ u. nat_lt u (2 ^ 16)) s in
    record {
      units = all_by (λ u. u < 2 ^ 16) (λ u. nat_lt u (2 ^ 16)) (λ u. ltb-true u (2 ^ 16)) s (and_first units (fits_uint (length s)) e);
      count = uint_by (length s) (and_second units (fits_uint (length s)) e);
    }

abbrev pub is_proto : Proto → Bool
is_proto p = is_descriptor p.return_type && list_all is_value_type p.parameters

pub proto_by : (p : Proto) → is_proto p ≡ true → IsProto p
proto_by p e =
    let one = is_descriptor p.return_type in
    let others = list_all is_value_type p.parameters in
    record { return_type = descriptor_by p.return_type (and_first one others e); parameters = all_by IsValueType is_value_type value_type_by p.parameters (and_second one others e) }

abbrev field_tests : Field → List Bool
field_tests f = is_class f.class ∷ is_member_name f.name ∷ is_value_type f.type ∷ []

field_by : (f : Field) → are_true (field_tests f) ≡ true → IsField f
field_by f e =
    let h = each (field_tests f) e in
    record { class = class_by f.class (h 0 (omega arith)); name = member_name_by f.name (h 1 (omega arith)); type = value_type_by f.type (h 2 (omega arith)) }

abbrev method_tests : Method → List Bool
method_tests m = is_reference_type m.class ∷ is_member_name m.name ∷ is_proto m.proto ∷ []

method_by : (m : Method) → are_true (method_tests m) ≡ true → IsMethod m
method_by m e =
    let h = each (method_tests m) e in
    record { class = reference_type_by m.class (h 0 (omega arith)); name = member_name_by m.name (h 1 (omega arith)); proto = proto_by m.proto (h 2 (omega arith)) }

abbrev pub is_symbol : Symbol → Bool
is_symbol (TextSymbol s) = is_text s
is_symbol (TypeSymbol t) = is_descriptor t
is_symbol (ProtoSymbol p) = is_proto p
is_symbol (FieldSymbol f) = are_true (field_tests f)
is_symbol (MethodSymbol m) = are_true (method_tests m)

pub symbol_by : (s : Symbol) → is_symbol s ≡ true → IsSymbol s
symbol_by (TextSymbol s) e = text_by s e
symbol_by (TypeSymbol t) e = descriptor_by t e
symbol_by (ProtoSymbol p) e = proto_by p e
symbol_by (FieldSymbol f) e = field_by f e
symbol_by (MethodSymbol m) e = method_by m e
