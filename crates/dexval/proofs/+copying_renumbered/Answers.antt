use Rattle.dexval.proofs.Common.{◌≡◌, ◌∙◌, [], length, map, ap, sym, subst, arith, rules, All-head, All-tail, Value, EncodedAnnotation-F, out-roll-EncodedAnnotation, Element, EncodedAnnotation, out-EncodedAnnotation, value_of, element_of, values_of, elements_of, encoded_of, encoded_type, encoded_elements, Annotated, values_of_list, elements_of_list, renumbered, renumbered_elements, renumbered_element, HasPlaces, HavePlaces, ElementHasPlaces, ElementsHavePlaces, MapsUse, value_uses, elements_uses, numbered_values_weight, numbered_elements_weight}
use Rattle.dexpool.specs.declared.symbols.SymbolKind.TheVariants as kinds
use Rattle.dexval.proofs.Members.{string_is, typ_is, field_is, method_is, enum_is, array_is, annotation_is, element_is, value_lighter, element_lighter, array_lighter, annotation_lighter}
use Rattle.dexval.proofs.Renumbered.{values_placed, elements_placed, values_renumbered, elements_renumbered}
use Rattle.dexval.proofs.RenumberedCopies.{next_copied, copied_more, copied_all}
use Rattle.dexval.proofs.+copying_renumbered.Goals as goal

pub renumbered_copies::renumbered_copies-renumbered_copy-requires : goal.renumbered_copies::renumbered_copies-renumbered_copy-requires
renumbered_copies::renumbered_copies-renumbered_copy-requires t c =
    let r = c.args.remap.now in
    let old = c.args.values.now.items in
    let lighter = value_lighter c.deref-value-items.result.now c.loop-value.value-index c.value-item.result c.loop-value-test.true c.value-item.is in
    let weight = ap (λ l. numbered_values_weight (values_of l)) c.deref-value-items.ensures.value in
    (search rules, next_copied value_of (renumbered r) old c.deref-value-items.result.now c.deref-value-items.ensures.value (HasPlaces r) c.loop-value.value-index c.value-item.result c.loop-value-test.true c.value-item.is (values_placed r (map value_of old) c.requires))

pub renumbered_copies::renumbered_copies-push_reserved-requires : goal.renumbered_copies::renumbered_copies-push_reserved-requires
renumbered_copies::renumbered_copies-push_reserved-requires t c = omega (arith, c.loop-value.invariant.room, ap (λ l. length l) c.deref-value-items.ensures.value)

pub renumbered_copies::renumbered_copies-loop-value-preserved : goal.renumbered_copies::renumbered_copies-loop-value-preserved
renumbered_copies::renumbered_copies-loop-value-preserved t c =
    let put = c.push_reserved.ensures in
    copied_more value_of (renumbered c.args.remap.now) c.args.values.now.items c.deref-value-items.result.now c.deref-value-items.ensures.value c.loop-value.value-index c.value-item.result c.in_ok-renumbered_copy.field-0 c.loop-value.copies c.push_reserved.new.self c.loop-value-test.true c.value-item.is c.loop-value.invariant c.in_ok-renumbered_copy.ensures put.items put.len put.capacity

pub renumbered_copies::renumbered_copies-returns : goal.renumbered_copies::renumbered_copies-returns
renumbered_copies::renumbered_copies-returns t c =
    let r = c.args.remap.now in
    let old = c.args.values.now.items in
    ap values_of_list (copied_all value_of (renumbered r) old c.deref-value-items.result.now c.deref-value-items.ensures.value c.loop-value.value-index c.loop-value.copies c.loop-value-test.false c.loop-value.invariant) ∙ values_renumbered r (map value_of old)

pub value::Element::renumbered_copy-remapped-requires : goal.value::Element::renumbered_copy-remapped-requires
value::Element::renumbered_copy-remapped-requires t c =
    let e = c.args.self.now in All-head (MapsUse c.args.remap.now) (record { kind = kinds.Text; number = e.name }) (value_uses (value_of e.value)) (subst (ElementHasPlaces c.args.remap.now) (element_is e) c.requires)

pub value::Element::renumbered_copy-renumbered_copy-requires : goal.value::Element::renumbered_copy-renumbered_copy-requires
value::Element::renumbered_copy-renumbered_copy-requires t c =
    let e = c.args.self.now in (search rules, All-tail (MapsUse c.args.remap.now) (record { kind = kinds.Text; number = e.name }) (value_uses (value_of e.value)) (subst (ElementHasPlaces c.args.remap.now) (element_is e) c.requires))

pub value::EncodedAnnotation::renumbered_copy-remapped-typ-requires : goal.value::EncodedAnnotation::renumbered_copy-remapped-typ-requires
value::EncodedAnnotation::renumbered_copy-remapped-typ-requires t c =
    let a = c.args.self.now in All-head (MapsUse c.args.remap.now) (record { kind = kinds.Typ; number = encoded_type a }) (elements_uses (encoded_elements a)) c.requires

pub value::EncodedAnnotation::renumbered_copy-renumbered_copy-requires : goal.value::EncodedAnnotation::renumbered_copy-renumbered_copy-requires
value::EncodedAnnotation::renumbered_copy-renumbered_copy-requires t c =
    let r = c.args.remap.now in
    let a = c.args.self.now in
    let old = (out-EncodedAnnotation a).elements.items in
    let places : ElementsHavePlaces r (elements_of old) = All-tail (MapsUse r) (record { kind = kinds.Typ; number = encoded_type a }) (elements_uses (encoded_elements a)) c.requires in
    let lighter = element_lighter c.deref-element-items.result.now c.loop-element.element-index c.element-item.result c.loop-element-test.true c.element-item.is in
    let weight = ap (λ l. numbered_elements_weight (elements_of l)) c.deref-element-items.ensures.value in
    (search rules, next_copied element_of (renumbered_element r) old c.deref-element-items.result.now c.deref-element-items.ensures.value (ElementHasPlaces r) c.loop-element.element-index c.element-item.result c.loop-element-test.true c.element-item.is (elements_placed r (map element_of old) places))

pub value::EncodedAnnotation::renumbered_copy-push_reserved-requires : goal.value::EncodedAnnotation::renumbered_copy-push_reserved-requires
value::EncodedAnnotation::renumbered_copy-push_reserved-requires t c = omega (arith, c.loop-element.invariant.room, ap (λ l. length l) c.deref-element-items.ensures.value)

pub value::EncodedAnnotation::renumbered_copy-loop-element-preserved : goal.value::EncodedAnnotation::renumbered_copy-loop-element-preserved
value::EncodedAnnotation::renumbered_copy-loop-element-preserved t c =
    let put = c.push_reserved.ensures in
    copied_more element_of (renumbered_element c.args.remap.now) (out-EncodedAnnotation c.args.self.now).elements.items c.deref-element-items.result.now c.deref-element-items.ensures.value c.loop-element.element-index c.element-item.result c.in_ok-renumbered_copy.field-0 c.loop-element.elements c.push_reserved.new.self c.loop-element-test.true c.element-item.is c.loop-element.invariant c.in_ok-renumbered_copy.ensures put.items put.len put.capacity

pub value::EncodedAnnotation::renumbered_copy-returns : goal.value::EncodedAnnotation::renumbered_copy-returns
value::EncodedAnnotation::renumbered_copy-returns t c =
    let r = c.args.remap.now in
    let a = out-EncodedAnnotation c.args.self.now in
    let old = a.elements.items in
    let new : EncodedAnnotation-F Value Element EncodedAnnotation = record { typ = c.remapped-typ.result; elements = c.loop-element.elements } in
    let elements : elements_of new.elements.items ≡ renumbered_elements r (elements_of old) =
    ap elements_of_list (copied_all element_of (renumbered_element r) old c.deref-element-items.result.now c.deref-element-items.ensures.value c.loop-element.element-index c.loop-element.elements c.loop-element-test.false c.loop-element.invariant) ∙ elements_renumbered r (map element_of old) in
    ap (λ (n : EncodedAnnotation-F Value Element EncodedAnnotation). Annotated n.typ (elements_of n.elements.items)) (out-roll-EncodedAnnotation new) ∙ (λ k. Annotated (c.remapped-typ.ensures k) (elements k))

pub value::Value::renumbered_copy-remapped-requires : goal.value::Value::renumbered_copy-remapped-requires
value::Value::renumbered_copy-remapped-requires t c =
    All-head (MapsUse c.args.remap.now) (record { kind = kinds.Text; number = c.in-String.number }) [] (subst (HasPlaces c.args.remap.now) (ap value_of c.in-String.is ∙ string_is c.in-String.number) c.requires)

pub value::Value::renumbered_copy-remapped-requires-in-Typ : goal.value::Value::renumbered_copy-remapped-requires-in-Typ
value::Value::renumbered_copy-remapped-requires-in-Typ t c =
    All-head (MapsUse c.args.remap.now) (record { kind = kinds.Typ; number = c.in-Typ.number }) [] (subst (HasPlaces c.args.remap.now) (ap value_of c.in-Typ.is ∙ typ_is c.in-Typ.number) c.requires)

pub value::Value::renumbered_copy-remapped-requires-in-Field : goal.value::Value::renumbered_copy-remapped-requires-in-Field
value::Value::renumbered_copy-remapped-requires-in-Field t c =
    All-head (MapsUse c.args.remap.now) (record { kind = kinds.Field; number = c.in-Field.number }) [] (subst (HasPlaces c.args.remap.now) (ap value_of c.in-Field.is ∙ field_is c.in-Field.number) c.requires)

pub value::Value::renumbered_copy-remapped-requires-in-Method : goal.value::Value::renumbered_copy-remapped-requires-in-Method
value::Value::renumbered_copy-remapped-requires-in-Method t c =
    All-head (MapsUse c.args.remap.now) (record { kind = kinds.Method; number = c.in-Method.number }) [] (subst (HasPlaces c.args.remap.now) (ap value_of c.in-Method.is ∙ method_is c.in-Method.number) c.requires)

pub value::Value::renumbered_copy-remapped-requires-in-Enum : goal.value::Value::renumbered_copy-remapped-requires-in-Enum
value::Value::renumbered_copy-remapped-requires-in-Enum t c =
    All-head (MapsUse c.args.remap.now) (record { kind = kinds.Field; number = c.in-Enum.number }) [] (subst (HasPlaces c.args.remap.now) (ap value_of c.in-Enum.is ∙ enum_is c.in-Enum.number) c.requires)

pub value::Value::renumbered_copy-renumbered_copies-requires : goal.value::Value::renumbered_copy-renumbered_copies-requires
value::Value::renumbered_copy-renumbered_copies-requires t c =
    let same = c.deref-in-Array.ensures in
    let lighter = array_lighter c.args.self.now c.in-Array.held c.in-Array.is (ap (λ v. v.items) same) in
    (search rules, subst (λ v. HavePlaces c.args.remap.now (values_of v.items)) (sym same) (subst (HasPlaces c.args.remap.now) (ap value_of c.in-Array.is ∙ array_is c.in-Array.held) c.requires))

pub value::Value::renumbered_copy-renumbered_copy-requires : goal.value::Value::renumbered_copy-renumbered_copy-requires
value::Value::renumbered_copy-renumbered_copy-requires t c =
    let same = c.deref-in-Annotation-2.ensures in
    let lighter = annotation_lighter c.args.self.now c.in-Annotation.held c.in-Annotation.is in
    let weight = ap (λ a. numbered_elements_weight (encoded_elements a)) same in
    (search rules, subst (λ a. HasPlaces c.args.remap.now (encoded_of a)) (sym same) (subst (HasPlaces c.args.remap.now) (ap value_of c.in-Annotation.is ∙ annotation_is c.in-Annotation.held) c.requires))
