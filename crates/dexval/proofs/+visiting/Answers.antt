use Rattle.dexval.proofs.Common.{◌+◌, ◌≤◌, List, length, take, flat_map, sym, subst, FoldsTo, element_uses, Element, out-EncodedAnnotation}
use Rattle.dexval.proofs.Members.{element_is}
use Rattle.dexval.proofs.Marked.{code_uses, part_uses, uses_of_values, uses_of_elements}
use Rattle.dexpool.proofs.Visits.{visited_more, visited_all}
use Rattle.dexval.proofs.+visiting.Goals as goal

pub value::EncodedAnnotation::visit-loop-element-preserved : goal.value::EncodedAnnotation::visit-loop-element-preserved
value::EncodedAnnotation::visit-loop-element-preserved g t c =
    let seen = subst (λ (xs : List Element). FoldsTo g.V.Visitor.step c.symbol.new.self (flat_map part_uses (take c.loop-element.element-index xs)) c.loop-element.visitor) (sym c.deref-element-items.ensures.value) c.loop-element.invariant in
    subst (λ (xs : List Element). FoldsTo g.V.Visitor.step c.symbol.new.self (flat_map part_uses (take (c.loop-element.element-index + 1) xs)) c.visit.new.visitor) c.deref-element-items.ensures.value
    (visited_more g.V.Visitor.step part_uses c.deref-element-items.result.now c.loop-element.element-index c.element-item.result c.element-item.result c.symbol.new.self c.loop-element.visitor c.visit.new.visitor c.loop-element-test.true c.element-item.is seen c.visit.ensures)

pub value::EncodedAnnotation::visit-returns : goal.value::EncodedAnnotation::visit-returns
value::EncodedAnnotation::visit-returns g t c =
    let items = (out-EncodedAnnotation c.args.self.now).elements.items in
    let all = visited_all g.V.Visitor.step part_uses items c.loop-element.element-index c.symbol.new.self c.loop-element.visitor (subst (λ (xs : List Element). length xs ≤ c.loop-element.element-index) c.deref-element-items.ensures.value c.loop-element-test.false) c.loop-element.invariant in
    (c.symbol.new.self, c.symbol.ensures, subst (λ us. FoldsTo g.V.Visitor.step c.symbol.new.self us c.loop-element.visitor) (sym (uses_of_elements items)) all)

pub visiting::visit_values-loop-value-preserved : goal.visiting::visit_values-loop-value-preserved
visiting::visit_values-loop-value-preserved g t c =
    visited_more g.V.Visitor.step code_uses c.args.values.now c.loop-value.value-index c.value-item.result c.value-item.result c.args.visitor.now c.loop-value.visitor c.visit.new.visitor c.loop-value-test.true c.value-item.is c.loop-value.invariant c.visit.ensures

pub visiting::visit_values-returns : goal.visiting::visit_values-returns
visiting::visit_values-returns g t c =
    subst (λ us. FoldsTo g.V.Visitor.step c.args.visitor.now us c.loop-value.visitor) (sym (uses_of_values c.args.values.now))
    (visited_all g.V.Visitor.step code_uses c.args.values.now c.loop-value.value-index c.args.visitor.now c.loop-value.visitor c.loop-value-test.false c.loop-value.invariant)

pub value::Element::visit-returns : goal.value::Element::visit-returns
value::Element::visit-returns g t c =
    subst (λ p. FoldsTo g.V.Visitor.step c.args.visitor.now (element_uses p) c.visit.new.visitor) (sym (element_is c.args.self.now)) (c.symbol.new.self, c.symbol.ensures, c.visit.ensures)
