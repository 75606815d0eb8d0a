use Rattle.dexval.proofs.Common.{◌≡◌, ℕ, ◌+◌, ◌-◌, ◌^◌, ◌≤◌, List, length, take, min, sum_by, ap, sym, subst, ◌∙◌, arith, numbered_weight, numbered_values_weight, map, values_of_list, encoded_of, Value, take_all, sum_by_more, Element, out-EncodedAnnotation, value_of}
use Rattle.dexval.proofs.Members.{array_is, annotation_is, value_weighs, element_weighs, values_weigh, elements_weigh}
use Rattle.dexval.proofs.Weights.{weight_is, weighs_numbers}
use Rattle.dexval.specs.Numbered as numbered
use Rattle.dexval.proofs.+weighing.Goals as goal

pub weight::annotation_weight-loop-element-preserved : goal.weight::annotation_weight-loop-element-preserved
weight::annotation_weight-loop-element-preserved t c =
    let seen = c.deref-element-items.result.now in
    let before = subst (λ (xs : List Element). c.loop-element.weight ≡ min (2 ^ 64 - 1) (12 + sum_by element_weighs (take c.loop-element.element-index xs))) (sym c.deref-element-items.ensures.value) c.loop-element.invariant in
    subst (λ (xs : List Element). c.saturating_add-weight.result ≡ min (2 ^ 64 - 1) (12 + sum_by element_weighs (take (c.loop-element.element-index + 1) xs))) c.deref-element-items.ensures.value
    (omega (arith, sum_by_more element_weighs seen c.loop-element.element-index c.element-item.result c.loop-element-test.true, ap element_weighs c.element-item.is, before, c.saturating_add.ensures, c.saturating_add-weight.ensures, weighs_numbers (value_of c.element-item.result.value) c.weight-value.result c.weight-value.ensures))

pub weight::annotation_weight-returns : goal.weight::annotation_weight-returns
weight::annotation_weight-returns t c =
    let xs = (out-EncodedAnnotation c.args.annotation.now).elements.items in
    let within = subst (λ (l : List Element). length l ≤ c.loop-element.element-index) c.deref-element-items.ensures.value c.loop-element-test.false in
    c.loop-element.invariant ∙ ap (λ (n : ℕ). min (2 ^ 64 - 1) (12 + n)) (ap (sum_by element_weighs) (take_all c.loop-element.element-index xs within) ∙ elements_weigh xs)

pub weight::values_weight-loop-value-preserved : goal.weight::values_weight-loop-value-preserved
weight::values_weight-loop-value-preserved t c =
    omega (arith, sum_by_more value_weighs c.args.values.now c.loop-value.value-index c.value-item.result c.loop-value-test.true, ap value_weighs c.value-item.is, c.loop-value.invariant, c.saturating_add-weight.ensures, weighs_numbers (value_of c.value-item.result) c.weight.result c.weight.ensures)

pub weight::values_weight-returns : goal.weight::values_weight-returns
weight::values_weight-returns t c =
    let xs = c.args.values.now in c.loop-value.invariant ∙ ap (λ (n : ℕ). min (2 ^ 64 - 1) n) (ap (sum_by value_weighs) (take_all c.loop-value.value-index xs c.loop-value-test.false) ∙ values_weigh xs)

pub value::Value::weight-returns-in-Array : goal.value::Value::weight-returns-in-Array
value::Value::weight-returns-in-Array t c = λ m.
    let held = c.deref-in-Array.result.now in
    let is = ap value_of c.in-Array.is ∙ array_is c.in-Array.values ∙ ap (λ (l : List Value). numbered.Array (values_of_list (map value_of l))) (sym (c.deref-in-Array.ensures.value ∙ ap (λ v. v.items) c.deref.ensures)) in
    let numbers : numbered_weight (value_of c.args.self.now) ≡ 6 + numbered_values_weight (values_of_list (map value_of held)) = ap numbered_weight is in omega (arith, c.saturating_add.ensures, c.values_weight.ensures, numbers, weight_is m (value_of c.args.self.now))

pub value::Value::weight-returns-in-Annotation : goal.value::Value::weight-returns-in-Annotation
value::Value::weight-returns-in-Annotation t c = λ m.
    let is = ap value_of c.in-Annotation.is ∙ annotation_is c.in-Annotation.annotation ∙ ap encoded_of (sym c.deref-in-Annotation.ensures) in omega (arith, c.annotation_weight.ensures, ap numbered_weight is, weight_is m (value_of c.args.self.now))
