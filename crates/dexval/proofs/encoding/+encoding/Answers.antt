use Rattle.dexval.proofs.Common.{ℕ, ◌+◌, ◌≤◌, List, ◌∷◌, [], ◌++◌, take, flat_map, subst, sym, ap, ◌∙◌, rules, length, map, to_z, of_z, w64, uleb128, Value, Element, EncodedAnnotation, out-EncodedAnnotation, value_of, encoded_of, encoded_type, encoded_elements, values_of_list, values_count, elements_count, count_bytes, numbered_bytes, numbered_values_bytes, numbered_elements_bytes, numbered_array_bytes, encoded_annotation_bytes}
use Rattle.dexval.proofs.Members.{byte_is, short_is, char_is, int_is, long_is, float_is, double_is, string_is, typ_is, field_is, method_is, enum_is, array_is, annotation_is, value_spelled, element_spelled, values_are_spelled, elements_are_spelled, count_values_is, count_elements_is}
use Rattle.dexio.proofs.Encoded.{given_more, given_all}
use Rattle.dexval.proofs.Encodings.{unsigned_given, signed_given, bits_given}
use Rattle.dexval.proofs.encoding.+encoding.Goals as goal

pub encode_array-loop-value-preserved : goal.encode_array-loop-value-preserved
encode_array-loop-value-preserved g t c =
    given_more g.O.Output.gives g.met.O.Output.both value_spelled c.args.values.now c.loop-value.value-index c.value-item.result c.encode_count.new.out c.loop-value.out c.encode_value.new.out c.loop-value-test.true c.loop-value.invariant
    (subst (λ (v : Value). g.O.Output.gives (value_spelled v) c.loop-value.out c.encode_value.new.out) c.value-item.is c.encode_value.ensures)

pub encode_array-returns : goal.encode_array-returns
encode_array-returns g t c =
    let xs = values_of_list (map value_of c.args.values.now) in
    let count = subst (λ (n : ℕ). g.O.Output.gives (count_bytes n) c.args.out.now c.encode_count.new.out) (sym (count_values_is c.args.values.now)) c.encode_count.ensures in
    let each = subst (λ bytes. g.O.Output.gives bytes c.encode_count.new.out c.loop-value.out) (values_are_spelled c.args.values.now)
    (given_all g.O.Output.gives g.met.O.Output.both value_spelled c.args.values.now c.loop-value.value-index c.encode_count.new.out c.loop-value.out c.loop-value-test.false c.loop-value.invariant) in
    g.met.O.Output.both (count_bytes (values_count xs)) (numbered_values_bytes xs) c.args.out.now c.encode_count.new.out c.loop-value.out count each

pub encode_annotation-loop-element-preserved : goal.encode_annotation-loop-element-preserved
encode_annotation-loop-element-preserved g t c =
    let d = c.element-item.result in
    let start = c.encode_count.new.out in
    let given = subst (λ (xs : List Element). g.O.Output.gives (flat_map element_spelled (take c.loop-element.element-index xs)) start c.loop-element.out) (sym c.deref-element-items.ensures.value) c.loop-element.invariant in
    subst (λ (xs : List Element). g.O.Output.gives (flat_map element_spelled (take (c.loop-element.element-index + 1) xs)) start c.encode_value.new.out) c.deref-element-items.ensures.value
    (given_more g.O.Output.gives g.met.O.Output.both element_spelled c.deref-element-items.result.now c.loop-element.element-index d start c.loop-element.out c.encode_value.new.out c.loop-element-test.true given
    (subst (λ (e : Element). g.O.Output.gives (element_spelled e) c.loop-element.out c.encode_value.new.out) c.element-item.is (g.met.O.Output.both (uleb128 d.name) (numbered_bytes (value_of d.value)) c.loop-element.out c.uleb-in-loop-element.new.self c.encode_value.new.out c.uleb-in-loop-element.ensures c.encode_value.ensures)))

pub encode_annotation-returns : goal.encode_annotation-returns
encode_annotation-returns g t c =
    let a = c.args.annotation.now in
    let items = (out-EncodedAnnotation a).elements.items in
    let es = encoded_elements a in
    let count = subst (λ (n : ℕ). g.O.Output.gives (count_bytes n) c.uleb.new.self c.encode_count.new.out) (c.len.ensures ∙ sym c.deref-element-items.ensures.len ∙ ap (λ l. length l) c.deref-element-items.ensures.value ∙ sym (count_elements_is items)) c.encode_count.ensures in
    let within = subst (λ (xs : List Element). length xs ≤ c.loop-element.element-index) c.deref-element-items.ensures.value c.loop-element-test.false in
    let each = subst (λ bytes. g.O.Output.gives bytes c.encode_count.new.out c.loop-element.out) (elements_are_spelled items)
    (given_all g.O.Output.gives g.met.O.Output.both element_spelled items c.loop-element.element-index c.encode_count.new.out c.loop-element.out within c.loop-element.invariant) in
    let members = g.met.O.Output.both (count_bytes (elements_count es)) (numbered_elements_bytes es) c.uleb.new.self c.encode_count.new.out c.loop-element.out count each in
    g.met.O.Output.both (uleb128 (encoded_type a)) (count_bytes (elements_count es) ++ numbered_elements_bytes es) c.args.out.now c.uleb.new.self c.loop-element.out c.uleb.ensures members

pub encode_value-returns-in-Array : goal.encode_value-returns-in-Array
encode_value-returns-in-Array g t c =
    let is = ap (λ (l : List Value). 28 ∷ numbered_array_bytes (values_of_list (map value_of l))) (c.deref-in-Array.ensures.value ∙ ap (λ v. v.items) c.deref.ensures) ∙ ap numbered_bytes (sym (ap value_of c.in-Array.is ∙ array_is c.in-Array.values)) in
    subst (λ bs. g.O.Output.gives bs c.args.out.now c.encode_array.new.out) is (g.met.O.Output.both (28 ∷ []) (numbered_array_bytes (values_of_list (map value_of c.deref-in-Array.result.now))) c.args.out.now c.byte.new.self c.encode_array.new.out c.byte.ensures c.encode_array.ensures)

pub encode_value-returns-in-Annotation : goal.encode_value-returns-in-Annotation
encode_value-returns-in-Annotation g t c =
    let a = c.deref-in-Annotation.result.now in
    let whole = g.met.O.Output.both (29 ∷ []) (encoded_annotation_bytes (encoded_type a) (encoded_elements a)) c.args.out.now c.byte-in-Annotation.new.self c.encode_annotation.new.out c.byte-in-Annotation.ensures c.encode_annotation.ensures in
    subst (λ bs. g.O.Output.gives bs c.args.out.now c.encode_annotation.new.out) (ap (λ (a : EncodedAnnotation). numbered_bytes (encoded_of a)) c.deref-in-Annotation.ensures ∙ ap numbered_bytes (sym (ap value_of c.in-Annotation.is ∙ annotation_is c.in-Annotation.annotation))) whole

pub encode_value-returns-in-Byte : goal.encode_value-returns-in-Byte
encode_value-returns-in-Byte g t c = signed_given g.O.Output.gives c.args.value.now 0x00 c.in-Byte.number {n = to_z w64 (of_z w64 c.from.result)} (ap numbered_bytes (ap value_of c.in-Byte.is ∙ byte_is c.in-Byte.number)) c.encode_signed.ensures (search rules)

pub encode_value-returns-in-Short : goal.encode_value-returns-in-Short
encode_value-returns-in-Short g t c = signed_given g.O.Output.gives c.args.value.now 0x02 c.in-Short.number {n = to_z w64 (of_z w64 c.from-in-Short.result)} (ap numbered_bytes (ap value_of c.in-Short.is ∙ short_is c.in-Short.number)) c.encode_signed-in-Short.ensures (search rules)

pub encode_value-returns-in-Char : goal.encode_value-returns-in-Char
encode_value-returns-in-Char g t c = unsigned_given g.O.Output.gives c.args.value.now 0x03 c.in-Char.unit {n = c.from-in-Char.result} (ap numbered_bytes (ap value_of c.in-Char.is ∙ char_is c.in-Char.unit)) c.encode_unsigned.ensures (search rules)

pub encode_value-returns-in-Int : goal.encode_value-returns-in-Int
encode_value-returns-in-Int g t c = signed_given g.O.Output.gives c.args.value.now 0x04 c.in-Int.number {n = to_z w64 (of_z w64 c.from-in-Int.result)} (ap numbered_bytes (ap value_of c.in-Int.is ∙ int_is c.in-Int.number)) c.encode_signed-in-Int.ensures (search rules)

pub encode_value-returns-in-Long : goal.encode_value-returns-in-Long
encode_value-returns-in-Long g t c = signed_given g.O.Output.gives c.args.value.now 0x06 c.in-Long.number {n = to_z w64 (of_z w64 c.in-Long.number)} (ap numbered_bytes (ap value_of c.in-Long.is ∙ long_is c.in-Long.number)) c.encode_signed-in-Long.ensures (search rules)

pub encode_value-returns-in-Float : goal.encode_value-returns-in-Float
encode_value-returns-in-Float g t c = bits_given g.O.Output.gives c.args.value.now 0x10 4 c.in-Float.bits {n = c.from-in-Float.result} (ap numbered_bytes (ap value_of c.in-Float.is ∙ float_is c.in-Float.bits)) c.encode_bits.ensures (search rules)

pub encode_value-returns-in-Double : goal.encode_value-returns-in-Double
encode_value-returns-in-Double g t c = bits_given g.O.Output.gives c.args.value.now 0x11 8 c.in-Double.bits {n = c.in-Double.bits} (ap numbered_bytes (ap value_of c.in-Double.is ∙ double_is c.in-Double.bits)) c.encode_bits-in-Double.ensures (search rules)

pub encode_value-returns-in-String : goal.encode_value-returns-in-String
encode_value-returns-in-String g t c = unsigned_given g.O.Output.gives c.args.value.now 0x17 c.in-String.number {n = c.from-in-String.result} (ap numbered_bytes (ap value_of c.in-String.is ∙ string_is c.in-String.number)) c.encode_unsigned-in-String.ensures (search rules)

pub encode_value-returns-in-Typ : goal.encode_value-returns-in-Typ
encode_value-returns-in-Typ g t c = unsigned_given g.O.Output.gives c.args.value.now 0x18 c.in-Typ.number {n = c.from-in-Typ.result} (ap numbered_bytes (ap value_of c.in-Typ.is ∙ typ_is c.in-Typ.number)) c.encode_unsigned-in-Typ.ensures (search rules)

pub encode_value-returns-in-Field : goal.encode_value-returns-in-Field
encode_value-returns-in-Field g t c = unsigned_given g.O.Output.gives c.args.value.now 0x19 c.in-Field.number {n = c.from-in-Field.result} (ap numbered_bytes (ap value_of c.in-Field.is ∙ field_is c.in-Field.number)) c.encode_unsigned-in-Field.ensures (search rules)

pub encode_value-returns-in-Method : goal.encode_value-returns-in-Method
encode_value-returns-in-Method g t c = unsigned_given g.O.Output.gives c.args.value.now 0x1a c.in-Method.number {n = c.from-in-Method.result} (ap numbered_bytes (ap value_of c.in-Method.is ∙ method_is c.in-Method.number)) c.encode_unsigned-in-Method.ensures (search rules)

pub encode_value-returns-in-Enum : goal.encode_value-returns-in-Enum
encode_value-returns-in-Enum g t c = unsigned_given g.O.Output.gives c.args.value.now 0x1b c.in-Enum.number {n = c.from-in-Enum.result} (ap numbered_bytes (ap value_of c.in-Enum.is ∙ enum_is c.in-Enum.number)) c.encode_unsigned-in-Enum.ensures (search rules)
