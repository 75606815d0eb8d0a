-- Tests of values, annotations, members and definitions, each with what it implies.
use Rattle.dexexamples.proofs.Common.{◌≡◌, Bool, true, false, not, ◌&&◌, nat_lt, nat_le, List, [], ◌∷◌, length, map, refl, ap, arith, ltb-true, leb-true, ◌^◌, flat_map, list_all, list_any, rises, Text, text_cmp, same_text, IsClass, Proto, all_of_option, Value, ByteValue, ShortValue, CharValue, IntValue, LongValue, FloatValue, DoubleValue, StringValue, TypeValue, FieldValue, MethodValue, EnumValue, ArrayValue, AnnotationValue, NullValue, BooleanValue, Values, NoValues, ThenValue, Elements, NoElements, ThenElement, names_of, count_values, values_depth, elements_depth, most_depth, Annotation, AnnotationSet, ShareNone, FieldDef, MethodDef, Definition, declared_fields, declared_methods, symbols_of, texts_in, IsText, IsSymbol, IsCodeItem, IsValue, AreValues, AreElements, IsAnnotation, IsSet, field_key, field_key_cmp, method_key, method_key_cmp, IsFieldDef, IsMethodDef, IsWellFormed, AreWellFormed, and_first, and_second, and_both, list_all-member, list_any-member, text_decides}
use Rattle.dexspec.specs.Sameness.{same_proto}
use Rattle.dexspec.proofs.sharing.Sameness.{proto_decides}
use Rattle.dexexamples.proofs.NameTests.{all_by, some_by, are_true, each, fits_uint, uint_by, is_class, class_by, is_member_name, member_name_by, is_value_type, value_type_by, is_proto, proto_by, is_symbol, symbol_by, is_text, text_by}
use Rattle.dexexamples.proofs.CodeTests.{is_below, byte_by, short_by, int_by, long_by, is_code_item, code_by}

-- ---- values

abbrev mutual
  is_value : Value → Bool
  is_value (ByteValue z) = is_below 128 z
  is_value (ShortValue z) = is_below 32768 z
  is_value (CharValue u) = nat_lt u (2 ^ 16)
  is_value (IntValue z) = is_below 2147483648 z
  is_value (LongValue z) = is_below 9223372036854775808 z
  is_value (FloatValue bits) = nat_lt bits (2 ^ 32)
  is_value (DoubleValue bits) = nat_lt bits (2 ^ 64)
  is_value (ArrayValue vs) = are_values vs && fits_uint (count_values vs)
  is_value (AnnotationValue t es) = are_elements es && (fits_uint (length (names_of es)) && rises text_cmp (names_of es))
  is_value _ = true

  are_values : Values → Bool
  are_values NoValues = true
  are_values (ThenValue v vs) = is_value v && are_values vs

  are_elements : Elements → Bool
  are_elements NoElements = true
  are_elements (ThenElement name v es) = is_value v && are_elements es

mutual
  value_by : (v : Value) → is_value v ≡ true → IsValue v
  value_by (ByteValue z) e = byte_by z e
  value_by (ShortValue z) e = short_by z e
  value_by (CharValue u) e = ltb-true u (2 ^ 16) e
  value_by (IntValue z) e = int_by z e
  value_by (LongValue z) e = long_by z e
  value_by (FloatValue bits) e = ltb-true bits (2 ^ 32) e
  value_by (DoubleValue bits) e = ltb-true bits (2 ^ 64) e
  value_by (ArrayValue vs) e =
      let few = fits_uint (count_values vs) in
      (values_by vs (and_first (are_values vs) few e), uint_by (count_values vs) (and_second (are_values vs) few e))
  value_by (AnnotationValue t es) e =
      let few = fits_uint (length (names_of es)) in
      let rise = rises text_cmp (names_of es) in
      let rest = and_second (are_elements es) (few && rise) e in
      (elements_by es (and_first (are_elements es) (few && rise) e), uint_by (length (names_of es)) (and_first few rise rest), and_second few rise rest)
  value_by (StringValue s) e = tt
  value_by (TypeValue t) e = tt
  value_by (FieldValue f) e = tt
  value_by (MethodValue m) e = tt
  value_by (EnumValue f) e = tt
  value_by NullValue e = tt
  value_by (BooleanValue b) e = tt

  values_by : (vs : Values) → are_values vs ≡ true → AreValues vs
  values_by NoValues e = tt
  values_by (ThenValue v vs) e = (value_by v (and_first (is_value v) (are_values vs) e), values_by vs (and_second (is_value v) (are_values vs) e))

  elements_by : (es : Elements) → are_elements es ≡ true → AreElements es
  elements_by NoElements e = tt
  elements_by (ThenElement name v es) e = (value_by v (and_first (is_value v) (are_elements es) e), elements_by es (and_second (is_value v) (are_elements es) e))

-- ---- annotations

abbrev annotation_tests : Annotation → List Bool
annotation_tests a =
    nat_le a.visibility 2 ∷ are_elements a.elements ∷ fits_uint (length (names_of a.elements)) ∷ rises text_cmp (names_of a.elements) ∷ nat_le (elements_depth a.elements) most_depth ∷ []

annotation_by : (a : Annotation) → are_true (annotation_tests a) ≡ true → IsAnnotation a
annotation_by a e =
    let h = each (annotation_tests a) e in
    record {
      visibility = leb-true a.visibility 2 (h 0 (omega arith));
      elements = elements_by a.elements (h 1 (omega arith));
      count = uint_by (length (names_of a.elements)) (h 2 (omega arith));
      rise = h 3 (omega arith);
      shallow = leb-true (elements_depth a.elements) most_depth (h 4 (omega arith));
    }

abbrev set_tests : AnnotationSet → List Bool
set_tests set = list_all (λ a. are_true (annotation_tests a)) set ∷ rises text_cmp (map (λ a. a.type) set) ∷ fits_uint (length set) ∷ []

abbrev is_set : AnnotationSet → Bool
is_set set = are_true (set_tests set)

set_by : (set : AnnotationSet) → is_set set ≡ true → IsSet set
set_by set e =
    let h = each (set_tests set) e in
    record {
      annotations = all_by IsAnnotation (λ a. are_true (annotation_tests a)) annotation_by set (h 0 (omega arith));
      rise = h 1 (omega arith);
      count = uint_by (length set) (h 2 (omega arith));
    }

-- ---- members

abbrev field_tests : FieldDef → List Bool
field_tests f = is_member_name f.name ∷ is_value_type f.type ∷ fits_uint f.flags ∷ is_set f.annotations ∷ []

field_def_by : (f : FieldDef) → are_true (field_tests f) ≡ true → IsFieldDef f
field_def_by f e =
    let h = each (field_tests f) e in
    record { name = member_name_by f.name (h 0 (omega arith)); type = value_type_by f.type (h 1 (omega arith)); flags = uint_by f.flags (h 2 (omega arith)); annotations = set_by f.annotations (h 3 (omega arith)) }

abbrev method_tests : MethodDef → List Bool
method_tests m =
    is_member_name m.name ∷ is_proto m.proto ∷ fits_uint m.flags ∷ all_of_option is_code_item m.code ∷ is_set m.annotations ∷ list_all is_set m.parameter_annotations
    ∷ fits_uint (length m.parameter_annotations) ∷ []

method_def_by : (m : MethodDef) → are_true (method_tests m) ≡ true → IsMethodDef m
method_def_by m e =
    let h = each (method_tests m) e in
    record {
      name = member_name_by m.name (h 0 (omega arith));
      proto = proto_by m.proto (h 1 (omega arith));
      flags = uint_by m.flags (h 2 (omega arith));
      code = some_by IsCodeItem is_code_item code_by m.code (h 3 (omega arith));
      annotations = set_by m.annotations (h 4 (omega arith));
      parameters = all_by IsSet is_set set_by m.parameter_annotations (h 5 (omega arith));
      parameters_count = uint_by (length m.parameter_annotations) (h 6 (omega arith));
    }

-- no member of one list equals a member of the other
abbrev are_unequal : {X : Type 0} → (X → X → Bool) → List X → List X → Bool
are_unequal same xs ys = list_all (λ x. not (list_any (same x) ys)) xs

unequal_by : {X : Type 0} (same : X → X → Bool) → ((x : X) → same x x ≡ true) → (xs ys : List X) → are_unequal same xs ys ≡ true → ShareNone xs ys
unequal_by same self xs ys e x here there =
    let none : not (list_any (same x) ys) ≡ true = list_all-member (λ z. not (list_any (same z) ys)) xs x e here in
    let one : not (list_any (same x) ys) ≡ false = ap not (list_any-member (same x) ys x there (self x)) in
    absurd cc

abbrev same_field_key : Text × Text → Text × Text → Bool
same_field_key x y = same_text x.0 y.0 && same_text x.1 y.1

field_key_self : (x : Text × Text) → same_field_key x x ≡ true
field_key_self x = and_both (same_text x.0 x.0) (same_text x.1 x.1) ((text_decides x.0 x.0).1 refl) ((text_decides x.1 x.1).1 refl)

abbrev same_method_key : Text × Proto → Text × Proto → Bool
same_method_key x y = same_text x.0 y.0 && same_proto x.1 y.1

method_key_self : (x : Text × Proto) → same_method_key x x ≡ true
method_key_self x = and_both (same_text x.0 x.0) (same_proto x.1 x.1) ((text_decides x.0 x.0).1 refl) ((proto_decides x.1 x.1).1 refl)

-- ---- definitions

abbrev definition_tests : Definition → List Bool
definition_tests d =
    is_class d.0 ∷ all_of_option is_class d.1.superclass ∷ list_all is_class d.1.interfaces ∷ fits_uint (length d.1.interfaces) ∷ fits_uint d.1.flags ∷ is_set d.1.annotations
    ∷ list_all (λ f. are_true (field_tests f)) (declared_fields d.1) ∷ list_all (λ m. are_true (method_tests m)) (declared_methods d.1)
    ∷ fits_uint (length d.1.static_fields) ∷ fits_uint (length d.1.instance_fields) ∷ fits_uint (length d.1.direct_methods) ∷ fits_uint (length d.1.virtual_methods)
    ∷ rises field_key_cmp (map field_key d.1.static_fields) ∷ rises field_key_cmp (map field_key d.1.instance_fields)
    ∷ are_unequal same_field_key (map field_key d.1.static_fields) (map field_key d.1.instance_fields)
    ∷ rises method_key_cmp (map method_key d.1.direct_methods) ∷ rises method_key_cmp (map method_key d.1.virtual_methods)
    ∷ are_unequal same_method_key (map method_key d.1.direct_methods) (map method_key d.1.virtual_methods)
    ∷ are_values d.1.static_values ∷ nat_le (values_depth d.1.static_values) most_depth ∷ nat_le (count_values d.1.static_values) (length d.1.static_fields)
    ∷ list_all is_symbol (symbols_of d) ∷ list_all is_text (flat_map texts_in (symbols_of d)) ∷ []

definition_by : (d : Definition) → are_true (definition_tests d) ≡ true → IsWellFormed d
definition_by d e =
    let h = each (definition_tests d) e in
    let c = d.1 in
    record {
      name = class_by d.0 (h 0 (omega arith));
      superclass = some_by IsClass is_class class_by c.superclass (h 1 (omega arith));
      interfaces = all_by IsClass is_class class_by c.interfaces (h 2 (omega arith));
      interfaces_count = uint_by (length c.interfaces) (h 3 (omega arith));
      flags = uint_by c.flags (h 4 (omega arith));
      annotations = set_by c.annotations (h 5 (omega arith));
      fields = all_by IsFieldDef (λ f. are_true (field_tests f)) field_def_by (declared_fields c) (h 6 (omega arith));
      methods = all_by IsMethodDef (λ m. are_true (method_tests m)) method_def_by (declared_methods c) (h 7 (omega arith));
      static_fields_count = uint_by (length c.static_fields) (h 8 (omega arith));
      instance_fields_count = uint_by (length c.instance_fields) (h 9 (omega arith));
      direct_methods_count = uint_by (length c.direct_methods) (h 10 (omega arith));
      virtual_methods_count = uint_by (length c.virtual_methods) (h 11 (omega arith));
      static_fields = h 12 (omega arith);
      instance_fields = h 13 (omega arith);
      fields_apart = unequal_by same_field_key field_key_self (map field_key c.static_fields) (map field_key c.instance_fields) (h 14 (omega arith));
      direct_methods = h 15 (omega arith);
      virtual_methods = h 16 (omega arith);
      methods_apart = unequal_by same_method_key method_key_self (map method_key c.direct_methods) (map method_key c.virtual_methods) (h 17 (omega arith));
      static_values = values_by c.static_values (h 18 (omega arith));
      shallow = leb-true (values_depth c.static_values) most_depth (h 19 (omega arith));
      few_values = leb-true (count_values c.static_values) (length c.static_fields) (h 20 (omega arith));
      symbols = all_by IsSymbol is_symbol symbol_by (symbols_of d) (h 21 (omega arith));
      texts = all_by IsText is_text text_by (flat_map texts_in (symbols_of d)) (h 22 (omega arith));
    }

abbrev pub are_well_formed : List Definition → Bool
are_well_formed D = list_all (λ d. are_true (definition_tests d)) D

pub well_formed_by : (D : List Definition) → are_well_formed D ≡ true → AreWellFormed D
well_formed_by D e d c = definition_by d (list_all-member (λ x. are_true (definition_tests x)) D d e c)
