use Rattle.std.proofs.Common.{◌≡◌, ◌+◌, List, ◌++◌, take, map, refl, ap, sym, ◌∙◌, subst, rules, to_z, of_z, w64, []}
use Rattle.std.specs.Prelude.{codes}
use Rattle.std.specs.List.{flat_map}
use Rattle.dexio.proofs.Encoded.{then_given, given_more, given_all}
use Rattle.dexout.proofs.Given.{next_part, last_part}
use Rattle.dexout.specs.Printed.{quoted, shown}
use Rattle.dexval.specs.declared.value.Value.{Value}
use Rattle.dexval.specs.declared.value.Element.{Element}
use Rattle.dexval.specs.declared.value.EncodedAnnotation.{EncodedAnnotation, out-EncodedAnnotation}
use Rattle.dexval.specs.declared.value.Value.TheViews.{the_lemmas}
use Rattle.dexval.specs.Code.{value_of, element_of, encoded_of, encoded_type, encoded_elements}
use Rattle.dexval.specs.Numbered.{Plain, Named, ByteLiteral, ShortLiteral, CharLiteral, IntLiteral, LongLiteral, FloatLiteral, DoubleLiteral, NullLiteral, BooleanLiteral, StringReference, TypeReference, FieldReference, MethodReference, EnumReference, values_of_list, elements_of_list, value_in, values_in, elements_in, text_at, type_at}
use Rattle.dexval.proofs.Members.{byte_is, short_is, char_is, int_is, long_is, float_is, double_is, string_is, typ_is, field_is, method_is, enum_is, array_is, annotation_is}
use Rattle.dexlisting.specs.FullListing.{plain, value_text, values_text, elements_text, literal_text}
use Rattle.dexlisting.proofs.ValueTexts.{value_given, one_value, one_element, values_are, elements_are, value_known, element_known}
use Rattle.dexlisting.proofs.values.+values.Goals as goal

pub encode_value-returns-in-Char : goal.encode_value-returns-in-Char
encode_value-returns-in-Char g t c =
    value_given g.O.Output.gives c.args.numbering.now c.args.value.now (Plain (CharLiteral c.in-Char.unit)) (ap value_of c.in-Char.is ∙ char_is c.in-Char.unit) refl (then_given g.O.Output.gives g.met.O.Output.both c.bytes.ensures c.encode_unit.ensures)

pub encode_value-returns-in-Float : goal.encode_value-returns-in-Float
encode_value-returns-in-Float g t c =
    value_given g.O.Output.gives c.args.numbering.now c.args.value.now (Plain (FloatLiteral c.in-Float.bits)) (ap value_of c.in-Float.is ∙ float_is c.in-Float.bits) refl (then_given g.O.Output.gives g.met.O.Output.both c.bytes-in-Float.ensures c.encode_place.ensures)

pub encode_value-returns-in-Double : goal.encode_value-returns-in-Double
encode_value-returns-in-Double g t c =
    value_given g.O.Output.gives c.args.numbering.now c.args.value.now (Plain (DoubleLiteral c.in-Double.bits)) (ap value_of c.in-Double.is ∙ double_is c.in-Double.bits) refl (then_given g.O.Output.gives g.met.O.Output.both c.bytes-in-Double.ensures c.encode_wide.ensures)

pub encode_value-returns-in-Typ : goal.encode_value-returns-in-Typ
encode_value-returns-in-Typ g t c =
    value_given g.O.Output.gives c.args.numbering.now c.args.value.now (Named TypeReference c.in-Typ.number) (ap value_of c.in-Typ.is ∙ typ_is c.in-Typ.number) refl (then_given g.O.Output.gives g.met.O.Output.both c.bytes-in-Typ.ensures c.encode_type.ensures)

pub encode_value-returns-in-Field : goal.encode_value-returns-in-Field
encode_value-returns-in-Field g t c =
    value_given g.O.Output.gives c.args.numbering.now c.args.value.now (Named FieldReference c.in-Field.number) (ap value_of c.in-Field.is ∙ field_is c.in-Field.number) refl (then_given g.O.Output.gives g.met.O.Output.both c.bytes-in-Field.ensures c.encode_field.ensures)

pub encode_value-returns-in-Method : goal.encode_value-returns-in-Method
encode_value-returns-in-Method g t c =
    value_given g.O.Output.gives c.args.numbering.now c.args.value.now (Named MethodReference c.in-Method.number) (ap value_of c.in-Method.is ∙ method_is c.in-Method.number) refl (then_given g.O.Output.gives g.met.O.Output.both c.bytes-in-Method.ensures c.encode_method.ensures)

pub encode_value-returns-in-Enum : goal.encode_value-returns-in-Enum
encode_value-returns-in-Enum g t c =
    value_given g.O.Output.gives c.args.numbering.now c.args.value.now (Named EnumReference c.in-Enum.number) (ap value_of c.in-Enum.is ∙ enum_is c.in-Enum.number) refl (then_given g.O.Output.gives g.met.O.Output.both c.bytes-in-Enum.ensures c.encode_field-in-Enum.ensures)

pub encode_value-returns-in-Byte : goal.encode_value-returns-in-Byte
encode_value-returns-in-Byte g t c =
    let same : to_z w64 (of_z w64 c.from.result) ≡ c.in-Byte.number = search rules in
    value_given g.O.Output.gives c.args.numbering.now c.args.value.now (Plain (ByteLiteral c.in-Byte.number)) (ap value_of c.in-Byte.is ∙ byte_is c.in-Byte.number) (ap (λ z. codes "byte " ++ literal_text z) same) c.encode_number.ensures

pub encode_value-returns-in-Short : goal.encode_value-returns-in-Short
encode_value-returns-in-Short g t c =
    let same : to_z w64 (of_z w64 c.from-in-Short.result) ≡ c.in-Short.number = search rules in
    value_given g.O.Output.gives c.args.numbering.now c.args.value.now (Plain (ShortLiteral c.in-Short.number)) (ap value_of c.in-Short.is ∙ short_is c.in-Short.number) (ap (λ z. codes "short " ++ literal_text z) same) c.encode_number-in-Short.ensures

pub encode_value-returns-in-Int : goal.encode_value-returns-in-Int
encode_value-returns-in-Int g t c =
    let same : to_z w64 (of_z w64 c.from-in-Int.result) ≡ c.in-Int.number = search rules in
    value_given g.O.Output.gives c.args.numbering.now c.args.value.now (Plain (IntLiteral c.in-Int.number)) (ap value_of c.in-Int.is ∙ int_is c.in-Int.number) (ap (λ z. codes "int " ++ literal_text z) same) c.encode_number-in-Int.ensures

pub encode_value-returns-in-Long : goal.encode_value-returns-in-Long
encode_value-returns-in-Long g t c =
    let same : to_z w64 (of_z w64 c.in-Long.number) ≡ c.in-Long.number = search rules in
    value_given g.O.Output.gives c.args.numbering.now c.args.value.now (Plain (LongLiteral c.in-Long.number)) (ap value_of c.in-Long.is ∙ long_is c.in-Long.number) (ap (λ z. codes "long " ++ literal_text z) same) c.encode_number-in-Long.ensures

pub encode_value-returns-in-String : goal.encode_value-returns-in-String
encode_value-returns-in-String g t c =
    value_given g.O.Output.gives c.args.numbering.now c.args.value.now (Named StringReference c.in-String.number) (ap value_of c.in-String.is ∙ string_is c.in-String.number) refl
    (then_given g.O.Output.gives g.met.O.Output.both c.bytes-in-String.ensures (last_part g.O.Output.gives g.met.O.Output.both (ap quoted (sym (c.string.ensures.is []))) c.encode_quoted.ensures))

pub encode_value-returns-in-Array : goal.encode_value-returns-in-Array
encode_value-returns-in-Array g t c =
    let m = c.args.numbering.now in
    let is = ap (λ (l : List Value). codes "array {" ++ values_text (values_in m (values_of_list (map value_of l)))) (c.deref-in-Array.ensures.value ∙ ap (λ v. v.items) c.deref.ensures)
    ∙ ap (λ x. value_text (value_in m x)) (sym (ap value_of c.in-Array.is ∙ array_is c.in-Array.values)) in
    last_part g.O.Output.gives g.met.O.Output.both is (then_given g.O.Output.gives g.met.O.Output.both c.bytes-in-Array.ensures c.encode_values.ensures)

pub encode_value-returns-in-Annotation : goal.encode_value-returns-in-Annotation
encode_value-returns-in-Annotation g t c =
    let m = c.args.numbering.now in
    let is = ap (λ (a : EncodedAnnotation). value_text (value_in m (encoded_of a))) c.deref-in-Annotation.ensures ∙ ap (λ x. value_text (value_in m x)) (sym (ap value_of c.in-Annotation.is ∙ annotation_is c.in-Annotation.annotation)) in
    last_part g.O.Output.gives g.met.O.Output.both is (then_given g.O.Output.gives g.met.O.Output.both c.bytes-in-Annotation.ensures c.encode_annotation.ensures)

pub encode_values-encode_value-requires : goal.encode_values-encode_value-requires
encode_values-encode_value-requires g t c = λ κs within.
    (search (rules, the_lemmas), (search rules, value_known c.args.numbering.now c.args.values.now c.loop-value.value-index c.value-item.result c.loop-value-test.true c.value-item.is c.requires))

pub encode_values-loop-value-preserved : goal.encode_values-loop-value-preserved
encode_values-loop-value-preserved g t c =
    let m = c.args.numbering.now in
    given_more g.O.Output.gives g.met.O.Output.both (one_value m) c.args.values.now c.loop-value.value-index c.value-item.result c.args.out.now c.loop-value.out c.encode_value.new.out c.loop-value-test.true c.loop-value.invariant
    (subst (λ (v : Value). g.O.Output.gives (one_value m v) c.loop-value.out c.encode_value.new.out) c.value-item.is (then_given g.O.Output.gives g.met.O.Output.both c.byte.ensures c.encode_value.ensures))

pub encode_values-returns : goal.encode_values-returns
encode_values-returns g t c =
    let m = c.args.numbering.now in
    last_part g.O.Output.gives g.met.O.Output.both (values_are m c.args.values.now)
    (then_given g.O.Output.gives g.met.O.Output.both (given_all g.O.Output.gives g.met.O.Output.both (one_value m) c.args.values.now c.loop-value.value-index c.args.out.now c.loop-value.out c.loop-value-test.false c.loop-value.invariant) c.bytes.ensures)

pub encode_elements-encode_element-requires : goal.encode_elements-encode_element-requires
encode_elements-encode_element-requires g t c = λ κs within.
    (search (rules, the_lemmas), (search rules, element_known c.args.numbering.now c.args.elements.now c.loop-element.element-index c.element-item.result c.loop-element-test.true c.element-item.is c.requires))

pub encode_elements-loop-element-preserved : goal.encode_elements-loop-element-preserved
encode_elements-loop-element-preserved g t c =
    let m = c.args.numbering.now in
    given_more g.O.Output.gives g.met.O.Output.both (one_element m) c.args.elements.now c.loop-element.element-index c.element-item.result c.args.out.now c.loop-element.out c.encode_element.new.out c.loop-element-test.true c.loop-element.invariant
    (subst (λ (e : Element). g.O.Output.gives (one_element m e) c.loop-element.out c.encode_element.new.out) c.element-item.is (then_given g.O.Output.gives g.met.O.Output.both c.byte.ensures c.encode_element.ensures))

pub encode_elements-returns : goal.encode_elements-returns
encode_elements-returns g t c =
    let m = c.args.numbering.now in
    last_part g.O.Output.gives g.met.O.Output.both (elements_are m c.args.elements.now)
    (then_given g.O.Output.gives g.met.O.Output.both (given_all g.O.Output.gives g.met.O.Output.both (one_element m) c.args.elements.now c.loop-element.element-index c.args.out.now c.loop-element.out c.loop-element-test.false c.loop-element.invariant) c.bytes.ensures)

pub encode_element-returns : goal.encode_element-returns
encode_element-returns g t c =
    let G = g.O.Output.gives in
    let B = g.met.O.Output.both in
    next_part G B (ap plain (sym (c.string.ensures.is []))) c.encode_name.ensures (then_given G B c.byte.ensures c.encode_value.ensures)

pub encode_annotation-returns : goal.encode_annotation-returns
encode_annotation-returns g t c =
    let m = c.args.numbering.now in
    let G = g.O.Output.gives in
    let B = g.met.O.Output.both in
    then_given G B c.encode_type.ensures (then_given G B c.bytes.ensures (last_part G B (ap (λ (es : List Element). elements_text (elements_in m (elements_of_list (map element_of es)))) c.deref.ensures.value) c.encode_elements.ensures))
