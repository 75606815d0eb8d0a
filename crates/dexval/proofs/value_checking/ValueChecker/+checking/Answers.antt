use Rattle.dexval.proofs.Common.{◌≡◌, ◌+◌, ℕ, refl, ap, subst, arith}
use Rattle.dexval.proofs.ElementsRead.{nothing_after, no_array, no_annotation, no_such_name, no_such_type, no_name, no_value, no_type, no_element_count, no_elements}
use Rattle.dexval.proofs.ValuesRead.{no_count}
use Rattle.dexval.proofs.NestedChecked.{flat_checked, array_checked, annotation_checked, no_value_yet, one_value_checked, no_value_next, values_checked, no_element_yet, one_element_checked, no_element_next, elements_checked, annotation_of_elements, ElementsChecked}
use Rattle.dexval.proofs.value_checking.ValueChecker.+checking.Goals.{element_measure-then-from-least-via-then-from-least, element_measure-then-from-least-via-else-from-least+then-name-len}
use Rattle.dexval.proofs.value_checking.ValueChecker.+checking.Goals as goal

pub value_measure-returns-then-at-self-clause-checked : goal.value_measure-returns-then-at-self-clause-checked
value_measure-returns-then-at-self-clause-checked t c = λ p. nothing_after c.args.self.now.bytes.now c.args.at c.args.depth c.args.self.now.pools.now p.pools (omega arith)

pub value_measure-returns-in_ok-values-in-28-2-clause-checked : goal.value_measure-returns-in_ok-values-in-28-2-clause-checked
value_measure-returns-in_ok-values-in-28-2-clause-checked t c = λ p. array_checked c.args.self.now.bytes.now c.args.at c.args.self.now.pools.now c.args.depth p.pools c.in_ok-values-in-28-2.field-0-0 c.in_ok-values-in-28-2.values.size c.in_ok-values-in-28-2.values.weight (omega arith) c.in-28-2.is c.if-depth-eq0.false (c.in_ok-values-in-28-2.ensures.checked p)

pub value_measure-returns-in_err-values-in-28-2-clause-checked : goal.value_measure-returns-in_err-values-in-28-2-clause-checked
value_measure-returns-in_err-values-in-28-2-clause-checked t c = rw c.from_residual.ensures (λ p. no_array c.args.self.now.bytes.now c.args.at c.args.depth c.args.self.now.pools.now p.pools c.in-28-2.is (c.in_err-values-in-28-2.ensures.checked p))

pub value_measure-returns-in_ok-annotation-in-29-clause-checked : goal.value_measure-returns-in_ok-annotation-in-29-clause-checked
value_measure-returns-in_ok-annotation-in-29-clause-checked t c = λ p. annotation_checked c.args.self.now.bytes.now c.args.at c.args.self.now.pools.now c.args.depth p.pools c.in_ok-annotation-in-29.field-0-0 c.in_ok-annotation-in-29.annotation.size c.in_ok-annotation-in-29.annotation.weight (omega arith) c.in-29.is c.if-depth-eq0.false (c.in_ok-annotation-in-29.ensures.checked p)

pub value_measure-returns-in_err-annotation-in-29-clause-checked : goal.value_measure-returns-in_err-annotation-in-29-clause-checked
value_measure-returns-in_err-annotation-in-29-clause-checked t c = rw c.from_residual-in_err-annotation-in-29.ensures (λ p. no_annotation c.args.self.now.bytes.now c.args.at c.args.depth c.args.self.now.pools.now p.pools c.in-29.is (c.in_err-annotation-in-29.ensures.checked p))

pub value_measure-returns-in_ok-size-in_default-clause-checked : goal.value_measure-returns-in_ok-size-in_default-clause-checked
value_measure-returns-in_ok-size-in_default-clause-checked t c = λ p. flat_checked c.args.self.now.bytes.now c.args.at c.args.self.now.pools.now c.args.depth _ c.in_ok-size-in_default.size (c.in_ok-size-in_default.ensures.read p.pools)

pub value_measure-returns-in_err-size-in_default-clause-checked : goal.value_measure-returns-in_err-size-in_default-clause-checked
value_measure-returns-in_err-size-in_default-clause-checked t c = rw c.from_residual-in_err-size-in_default.ensures (λ p. c.in_err-size-in_default.ensures.read p.pools c.args.depth)

pub array_measure-returns-in_err-count-clause-checked : goal.array_measure-returns-in_err-count-clause-checked
array_measure-returns-in_err-count-clause-checked t c = rw c.from_residual.ensures (λ p. no_count c.args.self.now.bytes.now c.args.self.now.pools.now c.args.at c.args.depth c.in_err-count.ensures.found)

pub array_measure-returns-in_err-value-clause-checked : goal.array_measure-returns-in_err-value-clause-checked
array_measure-returns-in_err-value-clause-checked t c = rw c.from_residual-in_err-value.ensures (λ p.
    no_value_next c.args.self.now.bytes.now c.args.self.now.pools.now c.args.at c.args.depth c.in_ok-count.count c.in_ok-count.head c.loop-i._i c.loop-i.size c.loop-i.weight c.in_ok-count.ensures.found c.loop-i-test.true (c.loop-i.invariant.checked p) (c.in_err-value.ensures.checked p))

pub array_measure-loop-i-init : goal.array_measure-loop-i-init
array_measure-loop-i-init t c = record {
  within = omega (arith, c.in_ok-count.ensures.within);
  light = omega arith;
  checked = λ p. no_value_yet c.args.self.now.bytes.now c.args.self.now.pools.now (c.args.at + c.in_ok-count.head) c.args.depth c.in_ok-count.count;
}

pub array_measure-loop-i-preserved : goal.array_measure-loop-i-preserved
array_measure-loop-i-preserved t c =
    let r = c.in_ok-value in
    record {
      within = omega (arith, r.ensures.within);
      light = omega (arith, r.ensures.light, c.loop-i.invariant.light);
      checked = λ p. one_value_checked c.args.self.now.bytes.now c.args.self.now.pools.now (c.args.at + c.in_ok-count.head) c.args.depth c.in_ok-count.count c.loop-i._i c.loop-i.size c.loop-i.weight r.value.size r.value.weight c.loop-i-test.true (c.loop-i.invariant.checked p) (r.ensures.checked p);
    }

pub array_measure-returns-clause-checked : goal.array_measure-returns-clause-checked
array_measure-returns-clause-checked t c = λ p. values_checked c.args.self.now.bytes.now c.args.self.now.pools.now c.args.at c.args.depth c.in_ok-count.count c.in_ok-count.head c.loop-i._i c.loop-i.size c.loop-i.weight c.in_ok-count.ensures.found (omega arith) (c.loop-i.invariant.checked p)

pub element_measure-returns-in_err-name-clause-checked : goal.element_measure-returns-in_err-name-clause-checked
element_measure-returns-in_err-name-clause-checked t c = rw c.from_residual.ensures (λ p. no_name c.args.self.now.bytes.now c.args.self.now.pools.now p c.args.at c.args.depth c.args.least c.in_err-name.ensures.found)

pub element_measure-returns-then-from-least-clause-checked : goal.element_measure-returns-then-from-least-clause-checked
element_measure-returns-then-from-least-clause-checked t c = λ p.
    no_such_name c.args.self.now.bytes.now c.args.self.now.pools.now p c.args.at c.args.depth c.args.least c.in_ok-name.name c.in_ok-name.head c.in_ok-name.ensures.found
    (λ above known.
    elim c.then-from-least.branch [
      | element_measure-then-from-least-via-then-from-least w ↦ absurd (omega (arith, above, c.from.ensures, w.if-from-least.true))
      | element_measure-then-from-least-via-else-from-least+then-name-len w ↦ absurd (omega (arith, known, w.len.ensures, w.if-name-len.true))
    ])

pub element_measure-returns-in_err-value-clause-checked : goal.element_measure-returns-in_err-value-clause-checked
element_measure-returns-in_err-value-clause-checked t c = rw c.from_residual-in_err-value.ensures (λ p.
    no_value c.args.self.now.bytes.now c.args.self.now.pools.now p c.args.at c.args.depth c.args.least c.in_ok-name.name c.in_ok-name.head c.in_ok-name.ensures.found (c.in_err-value.ensures.checked p))

pub element_measure-returns-clause-checked : goal.element_measure-returns-clause-checked
element_measure-returns-clause-checked t c = λ p.
    let r = c.in_ok-value.ensures.checked p in
    record {
      value = r.value;
      read = record {
        head = c.in_ok-name.head;
        size = c.in_ok-value.value.size;
        index = c.in_ok-name.ensures.found;
        name_known = omega (arith, c.len.ensures, c.if-name-len.false);
        above = omega (arith, c.from.ensures, c.if-from-least.false);
        value = r.read;
        sum = refl;
      };
      weighs = ap (λ (n : ℕ). 5 + n) r.weighs;
    }

pub elements_measure-loop-i-init : goal.elements_measure-loop-i-init
elements_measure-loop-i-init t c = record {
  within = omega arith;
  light = omega arith;
  least_fits = omega arith;
  checked = λ p. no_element_yet c.args.self.now.bytes.now c.args.self.now.pools.now p c.args.at c.args.depth c.args.count;
}

pub elements_measure-returns-in_err-name-clause-checked : goal.elements_measure-returns-in_err-name-clause-checked
elements_measure-returns-in_err-name-clause-checked t c = rw c.from_residual.ensures (λ p.
    no_element_next c.args.self.now.bytes.now c.args.self.now.pools.now p c.args.at c.args.depth c.args.count c.loop-i._i c.loop-i.least c.loop-i.size c.loop-i.weight c.loop-i-test.true (c.loop-i.invariant.checked p) (c.in_err-name.ensures.checked p))

pub elements_measure-loop-i-preserved : goal.elements_measure-loop-i-preserved
elements_measure-loop-i-preserved t c =
    let r = c.in_ok-name in
    let named : r.name ≡ c.from-least.result = omega (arith, c.from-least.ensures) in
    record {
      within = omega (arith, r.ensures.within);
      light = omega (arith, r.ensures.light, c.loop-i.invariant.light);
      least_fits = omega (arith, named, r.ensures.name);
      checked = λ p.
          subst (λ (x : ℕ). ElementsChecked c.args.self.now.bytes.now c.args.at c.args.self.now.pools.now c.args.depth c.args.count (c.loop-i._i + 1) (x + 1) (c.loop-i.size + r.element.size) (c.loop-i.weight + r.element.weight)) named
          (one_element_checked c.args.self.now.bytes.now c.args.self.now.pools.now p c.args.at c.args.depth c.args.count c.loop-i._i c.loop-i.least c.loop-i.size c.loop-i.weight r.name r.element.size r.element.weight c.loop-i-test.true (c.loop-i.invariant.checked p) (r.ensures.checked p));
    }

pub elements_measure-returns-clause-checked : goal.elements_measure-returns-clause-checked
elements_measure-returns-clause-checked t c = λ p. elements_checked c.args.self.now.bytes.now c.args.self.now.pools.now p c.args.at c.args.depth c.args.count c.loop-i._i c.loop-i.least c.loop-i.size c.loop-i.weight (omega arith) (c.loop-i.invariant.checked p)

pub annotation_measure-returns-in_err-typ-clause-checked : goal.annotation_measure-returns-in_err-typ-clause-checked
annotation_measure-returns-in_err-typ-clause-checked t c = rw c.from_residual.ensures (λ p. no_type c.args.self.now.bytes.now c.args.self.now.pools.now p c.args.at c.args.depth c.in_err-typ.ensures.found)

pub annotation_measure-returns-then-typ-len-clause-checked : goal.annotation_measure-returns-then-typ-len-clause-checked
annotation_measure-returns-then-typ-len-clause-checked t c = λ p.
    no_such_type c.args.self.now.bytes.now c.args.self.now.pools.now p c.args.at c.args.depth c.in_ok-typ.typ c.in_ok-typ.first c.in_ok-typ.ensures.found (λ known. absurd (omega (arith, known, c.len.ensures)))

pub annotation_measure-returns-in_err-count-clause-checked : goal.annotation_measure-returns-in_err-count-clause-checked
annotation_measure-returns-in_err-count-clause-checked t c = rw c.from_residual-in_err-count.ensures (λ p.
    no_element_count c.args.self.now.bytes.now c.args.self.now.pools.now p c.args.at c.args.depth c.in_ok-typ.typ c.in_ok-typ.first c.in_ok-typ.ensures.found c.in_err-count.ensures.found)

pub annotation_measure-returns-in_err-elements-clause-checked : goal.annotation_measure-returns-in_err-elements-clause-checked
annotation_measure-returns-in_err-elements-clause-checked t c = rw c.from_residual-in_err-elements.ensures (λ p.
    no_elements c.args.self.now.bytes.now c.args.self.now.pools.now p c.args.at c.args.depth c.in_ok-typ.typ c.in_ok-typ.first c.in_ok-count.count c.in_ok-count.second c.in_ok-typ.ensures.found c.in_ok-count.ensures.found (c.in_err-elements.ensures.checked p))

pub annotation_measure-returns-clause-checked : goal.annotation_measure-returns-clause-checked
annotation_measure-returns-clause-checked t c = λ p.
    annotation_of_elements c.args.self.now.bytes.now c.args.self.now.pools.now p c.args.at c.args.depth c.in_ok-typ.typ c.in_ok-typ.first c.in_ok-count.count c.in_ok-count.second c.in_ok-elements.elements.size c.in_ok-elements.elements.weight c.in_ok-typ.ensures.found (omega (arith, c.len.ensures)) c.in_ok-count.ensures.found (c.in_ok-elements.ensures.checked p)
