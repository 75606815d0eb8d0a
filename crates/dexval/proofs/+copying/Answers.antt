use Rattle.dexval.proofs.Common.{◌≡◌, map, ap, sym, ◌∙◌, Value, EncodedAnnotation-F, out-roll-EncodedAnnotation, Element, EncodedAnnotation, out-EncodedAnnotation, value_of, element_of, elements_of, Annotated, elements_of_list, NumberedValue}
use Rattle.dexval.proofs.Members.{element_is}
use Rattle.dexval.proofs.Copies.{copied_more, copied_all}
use Rattle.dexval.proofs.+copying.Goals as goal

pub copying::EncodedAnnotationClone::clone-loop-element-preserved : goal.copying::EncodedAnnotationClone::clone-loop-element-preserved
copying::EncodedAnnotationClone::clone-loop-element-preserved t c =
    let y = c.element-item.result in
    let x : Element = record { name = y.name; value = c.in_ok-copy.field-0 } in
    copied_more element_of element_of (out-EncodedAnnotation c.args.self.now).elements.items c.deref-element-items.result.now c.deref-element-items.ensures.value c.loop-element.elements.items c.push.new.self.items c.loop-element.element-index x y c.loop-element-test.true c.element-item.is c.loop-element.invariant c.in_ok-push.ensures.items
    (element_is x ∙ ap (λ (v : NumberedValue). (y.name, v)) c.in_ok-copy.ensures ∙ sym (element_is y))

pub copying::EncodedAnnotationClone::clone-returns : goal.copying::EncodedAnnotationClone::clone-returns
copying::EncodedAnnotationClone::clone-returns t c =
    let items = (out-EncodedAnnotation c.args.self.now).elements.items in
    let new : EncodedAnnotation-F Value Element EncodedAnnotation = record { typ = (out-EncodedAnnotation c.args.self.now).typ; elements = c.loop-element.elements } in
    let same : map element_of new.elements.items ≡ map element_of items = copied_all element_of element_of items c.deref-element-items.result.now c.deref-element-items.ensures.value c.loop-element.elements.items c.loop-element.element-index c.loop-element-test.false c.loop-element.invariant in
    record { cases = ap (λ (n : EncodedAnnotation-F Value Element EncodedAnnotation). Annotated n.typ (elements_of n.elements.items)) (out-roll-EncodedAnnotation new) ∙ ap (λ l. Annotated new.typ (elements_of_list l)) same }

pub copying::copied_values-loop-value-preserved : goal.copying::copied_values-loop-value-preserved
copying::copied_values-loop-value-preserved t c = copied_more value_of value_of c.args.values.now.items c.deref-value-items.result.now c.deref-value-items.ensures.value c.loop-value.copy.items c.push.new.self.items c.loop-value.value-index c.in_ok-copy-2.field-0 c.value-item.result c.loop-value-test.true c.value-item.is c.loop-value.invariant c.in_ok-push.ensures.items c.in_ok-copy-2.ensures

pub copying::copied_values-returns : goal.copying::copied_values-returns
copying::copied_values-returns t c = copied_all value_of value_of c.args.values.now.items c.deref-value-items.result.now c.deref-value-items.ensures.value c.loop-value.copy.items c.loop-value.value-index c.loop-value-test.false c.loop-value.invariant
