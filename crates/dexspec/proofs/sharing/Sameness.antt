-- The tests of sameness decide equality.
use Rattle.dexspec.proofs.Common.{◌≡◌, Bool, true, false, not, ◌&&◌, ◌==◌, if◌then◌else◌, refl, ap, pointwise, eqb-true, Decides-eqb, Decides-int_eq, Values}
use Rattle.dexspec.specs.{same_text, Operation, AdvancePc, AdvanceLine, StartLocal, StartLocalExtended, EndLocal, RestartLocal, SetPrologueEnd, SetEpilogueBegin, SetFile, Special, Value, ByteValue, ShortValue, CharValue, IntValue, LongValue, FloatValue, DoubleValue, StringValue, TypeValue, FieldValue, MethodValue, EnumValue, ArrayValue, AnnotationValue, NullValue, BooleanValue, NoValues, ThenValue, Elements, NoElements, ThenElement, same_types, same_proto, same_field, same_method, same_optional, same_operation, same_debug, same_value, same_values, same_elements, same_annotation, same_set}
use Rattle.dexspec.proofs.lists.{and_first, and_second, and_both, IsEquality, reports, lists_decide, options_decide, text_decides}

-- a value is equal to itself
again : {X : Type 0} {same : X → X → Bool} → IsEquality same → (x : X) → same x x ≡ true
again is x = (is x x).1 refl

-- ---- symbols

pub types_decide : IsEquality same_types
types_decide = lists_decide same_text text_decides

pub proto_decides : IsEquality same_proto
proto_decides = reports same_proto
    (λ p q e.
    let a = (text_decides p.return_type q.return_type).0 (and_first (same_text p.return_type q.return_type) (same_types p.parameters q.parameters) e) in
    let b = (types_decide p.parameters q.parameters).0 (and_second (same_text p.return_type q.return_type) (same_types p.parameters q.parameters) e) in
    λ i. record { return_type = a i; parameters = b i })
    (λ p. and_both (same_text p.return_type p.return_type) (same_types p.parameters p.parameters) (again text_decides p.return_type) (again types_decide p.parameters))

-- three tests
record Three (P Q R : Type 0) : Type 0 where
  first : P
  second : Q
  third : R

three : (a b c : Bool) → (a && (b && c)) ≡ true → Three (a ≡ true) (b ≡ true) (c ≡ true)
three a b c e = record { first = and_first a (b && c) e; second = and_first b c (and_second a (b && c) e); third = and_second b c (and_second a (b && c) e) }

all_three : (a b c : Bool) → a ≡ true → b ≡ true → c ≡ true → (a && (b && c)) ≡ true
all_three a b c e f g = and_both a (b && c) e (and_both b c f g)

pub field_decides : IsEquality same_field
field_decides = reports same_field
    (λ f g e.
    let h = three (same_text f.class g.class) (same_text f.name g.name) (same_text f.type g.type) e in
    let a = (text_decides f.class g.class).0 h.first in
    let b = (text_decides f.name g.name).0 h.second in
    let c = (text_decides f.type g.type).0 h.third in
    λ i. record { class = a i; name = b i; type = c i })
    (λ f. all_three (same_text f.class f.class) (same_text f.name f.name) (same_text f.type f.type) (again text_decides f.class) (again text_decides f.name) (again text_decides f.type))

pub method_decides : IsEquality same_method
method_decides = reports same_method
    (λ x y e.
    let h = three (same_text x.class y.class) (same_text x.name y.name) (same_proto x.proto y.proto) e in
    let a = (text_decides x.class y.class).0 h.first in
    let b = (text_decides x.name y.name).0 h.second in
    let c = (proto_decides x.proto y.proto).0 h.third in
    λ i. record { class = a i; name = b i; proto = c i })
    (λ x. all_three (same_text x.class x.class) (same_text x.name x.name) (same_proto x.proto x.proto) (again text_decides x.class) (again text_decides x.name) (again proto_decides x.proto))

-- ---- debug programs

optional_decides : IsEquality same_optional
optional_decides = options_decide same_text text_decides

operation_only : (x y : Operation) → same_operation x y ≡ true → x ≡ y
operation_only (AdvancePc m) (AdvancePc n) e = ap AdvancePc (eqb-true m n e)
operation_only (AdvanceLine y) (AdvanceLine z) e = ap AdvanceLine ((Decides-int_eq y z).0 e)
operation_only (StartLocal m s t) (StartLocal n u v) e =
    let h = three (m == n) (same_optional s u) (same_optional t v) e in
    let a = eqb-true m n h.first in
    let b = (optional_decides s u).0 h.second in
    let c = (optional_decides t v).0 h.third in
    λ i. StartLocal (a i) (b i) (c i)
operation_only (StartLocalExtended m s t r) (StartLocalExtended n u v w) e =
    let h = three (m == n) (same_optional s u) (same_optional t v && same_optional r w) e in
    let a = eqb-true m n h.first in
    let b = (optional_decides s u).0 h.second in
    let c = (optional_decides t v).0 (and_first (same_optional t v) (same_optional r w) h.third) in
    let d = (optional_decides r w).0 (and_second (same_optional t v) (same_optional r w) h.third) in
    λ i. StartLocalExtended (a i) (b i) (c i) (d i)
operation_only (EndLocal m) (EndLocal n) e = ap EndLocal (eqb-true m n e)
operation_only (RestartLocal m) (RestartLocal n) e = ap RestartLocal (eqb-true m n e)
operation_only SetPrologueEnd SetPrologueEnd e = refl
operation_only SetEpilogueBegin SetEpilogueBegin e = refl
operation_only (SetFile s) (SetFile u) e = ap SetFile ((optional_decides s u).0 e)
operation_only (Special m) (Special n) e = ap Special (eqb-true m n e)
operation_only _ _ e = absurd cc

operation_again : (x : Operation) → same_operation x x ≡ true
operation_again (AdvancePc m) = again Decides-eqb m
operation_again (AdvanceLine z) = again Decides-int_eq z
operation_again (StartLocal m s t) = all_three (m == m) (same_optional s s) (same_optional t t) (again Decides-eqb m) (again optional_decides s) (again optional_decides t)
operation_again (StartLocalExtended m s t r) =
    all_three (m == m) (same_optional s s) (same_optional t t && same_optional r r) (again Decides-eqb m) (again optional_decides s)
    (and_both (same_optional t t) (same_optional r r) (again optional_decides t) (again optional_decides r))
operation_again (EndLocal m) = again Decides-eqb m
operation_again (RestartLocal m) = again Decides-eqb m
operation_again SetPrologueEnd = refl
operation_again SetEpilogueBegin = refl
operation_again (SetFile s) = again optional_decides s
operation_again (Special m) = again Decides-eqb m

operation_decides : IsEquality same_operation
operation_decides = reports same_operation operation_only operation_again

names_decide : IsEquality (pointwise same_optional)
names_decide = lists_decide same_optional optional_decides

operations_decide : IsEquality (pointwise same_operation)
operations_decide = lists_decide same_operation operation_decides

pub debug_decides : IsEquality same_debug
debug_decides = reports same_debug
    (λ d e h.
    let t = three (d.line_start == e.line_start) (pointwise same_optional d.parameter_names e.parameter_names) (pointwise same_operation d.operations e.operations) h in
    let a = eqb-true d.line_start e.line_start t.first in
    let b = (names_decide d.parameter_names e.parameter_names).0 t.second in
    let c = (operations_decide d.operations e.operations).0 t.third in
    λ i. record { line_start = a i; parameter_names = b i; operations = c i })
    (λ d. all_three (d.line_start == d.line_start) (pointwise same_optional d.parameter_names d.parameter_names) (pointwise same_operation d.operations d.operations)
    (again Decides-eqb d.line_start) (again names_decide d.parameter_names) (again operations_decide d.operations))

-- ---- annotation sets

flag_only : (b c : Bool) → (if b then c else not c) ≡ true → b ≡ c
flag_only true false e = absurd cc
flag_only false true e = absurd cc
flag_only _ _ e = refl

flag_again : (b : Bool) → (if b then b else not b) ≡ true
flag_again true = refl
flag_again false = refl

mutual
  value_only : (v w : Value) → same_value v w ≡ true → v ≡ w
  value_only (ByteValue y) (ByteValue z) e = ap ByteValue ((Decides-int_eq y z).0 e)
  value_only (ShortValue y) (ShortValue z) e = ap ShortValue ((Decides-int_eq y z).0 e)
  value_only (CharValue m) (CharValue n) e = ap CharValue (eqb-true m n e)
  value_only (IntValue y) (IntValue z) e = ap IntValue ((Decides-int_eq y z).0 e)
  value_only (LongValue y) (LongValue z) e = ap LongValue ((Decides-int_eq y z).0 e)
  value_only (FloatValue m) (FloatValue n) e = ap FloatValue (eqb-true m n e)
  value_only (DoubleValue m) (DoubleValue n) e = ap DoubleValue (eqb-true m n e)
  value_only (StringValue s) (StringValue t) e = ap StringValue ((text_decides s t).0 e)
  value_only (TypeValue s) (TypeValue t) e = ap TypeValue ((text_decides s t).0 e)
  value_only (FieldValue f) (FieldValue g) e = ap FieldValue ((field_decides f g).0 e)
  value_only (MethodValue x) (MethodValue y) e = ap MethodValue ((method_decides x y).0 e)
  value_only (EnumValue f) (EnumValue g) e = ap EnumValue ((field_decides f g).0 e)
  value_only (ArrayValue vs) (ArrayValue ws) e = ap ArrayValue (values_only vs ws e)
  value_only (AnnotationValue s ds) (AnnotationValue t es) e =
      let a = (text_decides s t).0 (and_first (same_text s t) (same_elements ds es) e) in
      let b = elements_only ds es (and_second (same_text s t) (same_elements ds es) e) in
      λ i. AnnotationValue (a i) (b i)
  value_only NullValue NullValue e = refl
  value_only (BooleanValue b) (BooleanValue c) e = ap BooleanValue (flag_only b c e)
  value_only _ _ e = absurd cc

  values_only : (vs ws : Values) → same_values vs ws ≡ true → vs ≡ ws
  values_only NoValues NoValues e = refl
  values_only (ThenValue v vs) (ThenValue w ws) e =
      let a = value_only v w (and_first (same_value v w) (same_values vs ws) e) in
      let b = values_only vs ws (and_second (same_value v w) (same_values vs ws) e) in
      λ i. ThenValue (a i) (b i)
  values_only _ _ e = absurd cc

  elements_only : (ds es : Elements) → same_elements ds es ≡ true → ds ≡ es
  elements_only NoElements NoElements e = refl
  elements_only (ThenElement s v ds) (ThenElement t w es) e =
      let h = three (same_text s t) (same_value v w) (same_elements ds es) e in
      let a = (text_decides s t).0 h.first in
      let b = value_only v w h.second in
      let c = elements_only ds es h.third in
      λ i. ThenElement (a i) (b i) (c i)
  elements_only _ _ e = absurd cc

mutual
  value_again : (v : Value) → same_value v v ≡ true
  value_again (ByteValue z) = again Decides-int_eq z
  value_again (ShortValue z) = again Decides-int_eq z
  value_again (CharValue n) = again Decides-eqb n
  value_again (IntValue z) = again Decides-int_eq z
  value_again (LongValue z) = again Decides-int_eq z
  value_again (FloatValue n) = again Decides-eqb n
  value_again (DoubleValue n) = again Decides-eqb n
  value_again (StringValue s) = again text_decides s
  value_again (TypeValue s) = again text_decides s
  value_again (FieldValue f) = again field_decides f
  value_again (MethodValue x) = again method_decides x
  value_again (EnumValue f) = again field_decides f
  value_again (ArrayValue vs) = values_again vs
  value_again (AnnotationValue s es) = and_both (same_text s s) (same_elements es es) (again text_decides s) (elements_again es)
  value_again NullValue = refl
  value_again (BooleanValue b) = flag_again b

  values_again : (vs : Values) → same_values vs vs ≡ true
  values_again NoValues = refl
  values_again (ThenValue v vs) = and_both (same_value v v) (same_values vs vs) (value_again v) (values_again vs)

  elements_again : (es : Elements) → same_elements es es ≡ true
  elements_again NoElements = refl
  elements_again (ThenElement s v es) = all_three (same_text s s) (same_value v v) (same_elements es es) (again text_decides s) (value_again v) (elements_again es)

elements_decide : IsEquality same_elements
elements_decide = reports same_elements elements_only elements_again

pub annotation_decides : IsEquality same_annotation
annotation_decides = reports same_annotation
    (λ a b e.
    let h = three (a.visibility == b.visibility) (same_text a.type b.type) (same_elements a.elements b.elements) e in
    let p = eqb-true a.visibility b.visibility h.first in
    let q = (text_decides a.type b.type).0 h.second in
    let r = (elements_decide a.elements b.elements).0 h.third in
    λ i. record { visibility = p i; type = q i; elements = r i })
    (λ a. all_three (a.visibility == a.visibility) (same_text a.type a.type) (same_elements a.elements a.elements) (again Decides-eqb a.visibility) (again text_decides a.type) (again elements_decide a.elements))

pub set_decides : IsEquality same_set
set_decides = lists_decide same_annotation annotation_decides
