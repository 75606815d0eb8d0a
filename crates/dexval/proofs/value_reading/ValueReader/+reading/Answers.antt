use Rattle.dexval.proofs.Common.{rules, ◌≡◌, ◌∙◌, ◌+◌, ◌∷◌, ◌++◌, ℕ, ◌-◌, ◌^◌, List, [], min, map, true, refl, sym, ap, subst, arith, map-append, Value, EncodedAnnotation-F, out-roll-EncodedAnnotation, Element, EncodedAnnotation, value_of, values_of, element_of, elements_of, numbered_values_weight, numbered_elements_weight, values_uses, elements_uses, encoded_of, encoded_type, encoded_elements, NumberedValue, values_of_list, elements_of_list, IsReadAt, IsElementReadAt, IsAnnotationReadAt}
use Rattle.dexval.specs.Numbered as numbered
use Rattle.dexval.proofs.Members.{array_is, annotation_is, element_is}
use Rattle.dexval.proofs.NestedChecked.{values_weight_then, elements_weight_then}
use Rattle.dexval.proofs.Symbolless.{no_uses_then}
use Rattle.dexval.specs.internal.Tallies.{IsTally}
use Rattle.dexpool.specs.declared.symbols.SymbolKind.TheVariants as kinds
use Rattle.dexval.proofs.Refusals.{err_is, none_found, refuses_so}
use Rattle.dexval.proofs.ElementsRead.{nothing_after, no_element_read, array_encoded, no_array, annotation_encoded, no_annotation, HaveReadOf, no_such_name, no_such_type, one_element_more, no_next_element, all_elements_read, no_name, no_value, no_type, no_element_count, no_elements, annotation_read}
use Rattle.dexval.proofs.ValuesRead.{HaveRead, none_read, one_more, no_next, no_count, no_values, all_read, array_read}
use Rattle.dexval.proofs.value_reading.ValueReader.+reading.Goals.{element_at-then-from-least-via-then-from-least, element_at-then-from-least-via-else-from-least+then-name-len}
use Rattle.dexval.proofs.value_reading.ValueReader.+reading.Goals as goal

pub annotation_at-returns-clause-read : goal.annotation_at-returns-clause-read
annotation_at-returns-clause-read t c = λ p.
    let e : EncodedAnnotation-F Value Element EncodedAnnotation = record { typ = c.in_ok-typ.typ; elements = c.in_ok-elements.elements } in
    subst (λ (a : EncodedAnnotation-F Value Element EncodedAnnotation). IsAnnotationReadAt c.args.self.now.bytes.now c.args.at c.args.self.now.pools.now c.args.depth a.typ (elements_of a.elements.items) (c.in_ok-typ.first + c.in_ok-count.second + c.in_ok-elements.tally.size)) (sym (out-roll-EncodedAnnotation e))
    (annotation_read c.args.self.now.bytes.now c.args.self.now.pools.now p c.args.at c.args.depth c.in_ok-typ.typ c.in_ok-typ.first c.in_ok-count.count c.in_ok-count.second (elements_of_list (map element_of c.in_ok-elements.elements.items)) c.in_ok-elements.tally.size c.in_ok-typ.ensures.found (omega arith) c.in_ok-count.ensures.found (c.in_ok-elements.ensures.read p))

pub annotation_at-returns-clause-tallied : goal.annotation_at-returns-clause-tallied
annotation_at-returns-clause-tallied t c =
    let e : EncodedAnnotation-F Value Element EncodedAnnotation = record { typ = c.in_ok-typ.typ; elements = c.in_ok-elements.elements } in
    subst (λ (a : EncodedAnnotation-F Value Element EncodedAnnotation). IsTally (12 + numbered_elements_weight (elements_of a.elements.items)) (record { kind = kinds.Typ; number = a.typ } ∷ elements_uses (elements_of a.elements.items)) (record { size = c.in_ok-typ.first + c.in_ok-count.second + c.in_ok-elements.tally.size; weight = c.saturating_add.result; names_symbols = true })) (sym (out-roll-EncodedAnnotation e))
    (record { weighs = omega (arith, c.saturating_add.ensures, c.in_ok-elements.ensures.tallied.weighs); nameless = λ none. absurd cc })

pub annotation_at-returns-in_err-typ-clause-refused : goal.annotation_at-returns-in_err-typ-clause-refused
annotation_at-returns-in_err-typ-clause-refused t c = λ p. rw (err_is c.from_residual.result c.from_residual.ensures.1) (refuses_so c.args.self.now.number (λ none. no_type c.args.self.now.bytes.now c.args.self.now.pools.now p c.args.at c.args.depth none) c.in_err-typ.field-0.0 (c.in_err-typ.ensures.refused))

pub annotation_at-returns-then-typ-len-clause-refused : goal.annotation_at-returns-then-typ-len-clause-refused
annotation_at-returns-then-typ-len-clause-refused t c = λ p.
    rw c.refusal.ensures (refl, no_such_type c.args.self.now.bytes.now c.args.self.now.pools.now p c.args.at c.args.depth c.in_ok-typ.typ c.in_ok-typ.first c.in_ok-typ.ensures.found (λ known. absurd (omega (arith, known, c.len.ensures))))

pub annotation_at-returns-in_err-count-clause-refused : goal.annotation_at-returns-in_err-count-clause-refused
annotation_at-returns-in_err-count-clause-refused t c = λ p. rw (err_is c.from_residual-in_err-count.result c.from_residual-in_err-count.ensures.1) (refuses_so c.args.self.now.number (λ none. no_element_count c.args.self.now.bytes.now c.args.self.now.pools.now p c.args.at c.args.depth c.in_ok-typ.typ c.in_ok-typ.first c.in_ok-typ.ensures.found none) c.in_err-count.field-0.0 (c.in_err-count.ensures.refused))

pub annotation_at-returns-in_err-elements-clause-refused : goal.annotation_at-returns-in_err-elements-clause-refused
annotation_at-returns-in_err-elements-clause-refused t c = λ p. rw (err_is c.from_residual-in_err-elements.result c.from_residual-in_err-elements.ensures.1) (refuses_so c.args.self.now.number (λ none. no_elements c.args.self.now.bytes.now c.args.self.now.pools.now p c.args.at c.args.depth c.in_ok-typ.typ c.in_ok-typ.first c.in_ok-count.count c.in_ok-count.second c.in_ok-typ.ensures.found c.in_ok-count.ensures.found none) c.in_err-elements.field-0.0 (c.in_err-elements.ensures.refused p))

pub array_at-returns-in_err-count-clause-refused : goal.array_at-returns-in_err-count-clause-refused
array_at-returns-in_err-count-clause-refused t c = λ p. rw (err_is c.from_residual.result c.from_residual.ensures.1) (refuses_so c.args.self.now.number (λ none. no_count c.args.self.now.bytes.now c.args.self.now.pools.now c.args.at c.args.depth none) c.in_err-count.field-0.0 (c.in_err-count.ensures.refused))

pub array_at-returns-in_err-values-clause-refused : goal.array_at-returns-in_err-values-clause-refused
array_at-returns-in_err-values-clause-refused t c = λ p. rw (err_is c.from_residual-in_err-values.result c.from_residual-in_err-values.ensures.1) (refuses_so c.args.self.now.number (λ none. no_values c.args.self.now.bytes.now c.args.self.now.pools.now c.args.at c.args.depth c.in_ok-count.count c.in_ok-count.head c.in_ok-count.ensures.found none) c.in_err-values.field-0.0 (c.in_err-values.ensures.refused p))

pub array_at-returns-clause-read : goal.array_at-returns-clause-read
array_at-returns-clause-read t c = λ p.
    array_read c.args.self.now.bytes.now c.args.self.now.pools.now c.args.at c.args.depth c.in_ok-count.count c.in_ok-count.head (values_of_list (map value_of c.in_ok-values.values.items)) c.in_ok-values.tally.size c.in_ok-count.ensures.found (c.in_ok-values.ensures.read p)

pub values_at-loop-i-init : goal.values_at-loop-i-init
values_at-loop-i-init t c =
    let b = c.args.self.now.bytes.now in
    record {
      within = omega (arith, c.requires.within);
      read = λ p. subst (λ (l : List Value). HaveRead b c.args.at c.args.self.now.pools.now c.args.depth c.args.count 0 (map value_of l) 0) (sym c.requires.room.empty) (none_read b c.args.self.now.pools.now c.args.at c.args.depth c.args.count);
      weighs = subst (λ (l : List Value). 0 ≡ min (2 ^ 64 - 1) (numbered_values_weight (values_of l))) (sym c.requires.room.empty) refl;
      nameless = λ none. subst (λ (l : List Value). values_uses (values_of l) ≡ []) (sym c.requires.room.empty) refl;
    }

pub values_at-returns-in_err-value-clause-refused : goal.values_at-returns-in_err-value-clause-refused
values_at-returns-in_err-value-clause-refused t c = λ p. rw (err_is c.from_residual.result c.from_residual.ensures.1) (refuses_so c.args.self.now.number (λ none. no_next c.args.self.now.bytes.now c.args.self.now.pools.now c.args.at c.args.depth c.args.count c.loop-i._i (map value_of c.loop-i.values.items) c.loop-i.size c.loop-i-test.true (c.loop-i.invariant.read p) none) c.in_err-value.field-0.0 (c.in_err-value.ensures.refused p))

pub values_at-loop-i-preserved : goal.values_at-loop-i-preserved
values_at-loop-i-preserved t c =
    let items : map value_of c.push.new.self.items ≡ map value_of c.loop-i.values.items ++ value_of c.in_ok-value.value ∷ [] = ap (map value_of) c.in_ok-push.ensures.items ∙ map-append value_of c.loop-i.values.items (c.in_ok-value.value ∷ []) in
    record {
      within = omega (arith, c.in_ok-value.ensures.within);
      read = λ p.
          let r = c.in_ok-value.ensures.read p in
          subst (λ (l : List NumberedValue). HaveRead c.args.self.now.bytes.now c.args.at c.args.self.now.pools.now c.args.depth c.args.count (c.loop-i._i + 1) l (c.loop-i.size + c.in_ok-value.tally.size)) (sym items)
          (one_more c.args.self.now.bytes.now c.args.self.now.pools.now c.args.at c.args.depth c.args.count c.loop-i._i (map value_of c.loop-i.values.items) c.loop-i.size (value_of c.in_ok-value.value) c.in_ok-value.tally.size c.loop-i-test.true (c.loop-i.invariant.read p) r);
      weighs = subst (λ (l : List NumberedValue). c.saturating_add-weight.result ≡ min (2 ^ 64 - 1) (numbered_values_weight (values_of_list l))) (sym items)
          (omega (arith, values_weight_then (map value_of c.loop-i.values.items) (value_of c.in_ok-value.value), c.loop-i.invariant.weighs, c.in_ok-value.ensures.tallied.weighs, c.saturating_add-weight.ensures));
      nameless = λ none. subst (λ (l : List NumberedValue). values_uses (values_of_list l) ≡ []) (sym items)
          (no_uses_then (map value_of c.loop-i.values.items) (value_of c.in_ok-value.value) (c.loop-i.invariant.nameless (search rules)) (c.in_ok-value.ensures.tallied.nameless (search rules)));
    }

pub values_at-returns-clause-read : goal.values_at-returns-clause-read
values_at-returns-clause-read t c = λ p.
    all_read c.args.self.now.bytes.now c.args.self.now.pools.now c.args.at c.args.depth c.args.count c.loop-i._i (map value_of c.loop-i.values.items) c.loop-i.size (omega arith) (c.loop-i.invariant.read p)

pub elements_at-loop-i-init : goal.elements_at-loop-i-init
elements_at-loop-i-init t c =
    let b = c.args.self.now.bytes.now in
    record {
      within = omega (arith, c.requires.within);
      least_fits = omega arith;
      read = λ p. subst (λ (l : List Element). HaveReadOf b c.args.at c.args.self.now.pools.now c.args.depth c.args.count 0 0 (map element_of l) 0) (sym c.requires.room.empty) (no_element_read b c.args.self.now.pools.now p c.args.at c.args.depth c.args.count);
      weighs = subst (λ (l : List Element). 0 ≡ min (2 ^ 64 - 1) (numbered_elements_weight (elements_of l))) (sym c.requires.room.empty) refl;
    }

pub element_at-returns-in_err-name-clause-refused : goal.element_at-returns-in_err-name-clause-refused
element_at-returns-in_err-name-clause-refused t c = λ p. rw (err_is c.from_residual.result c.from_residual.ensures.1) (refuses_so c.args.self.now.number (λ none. no_name c.args.self.now.bytes.now c.args.self.now.pools.now p c.args.at c.args.depth c.args.least none) c.in_err-name.field-0.0 (c.in_err-name.ensures.refused))

pub element_at-returns-in_err-value-clause-refused : goal.element_at-returns-in_err-value-clause-refused
element_at-returns-in_err-value-clause-refused t c = λ p. rw (err_is c.from_residual-in_err-value.result c.from_residual-in_err-value.ensures.1) (refuses_so c.args.self.now.number (λ none. no_value c.args.self.now.bytes.now c.args.self.now.pools.now p c.args.at c.args.depth c.args.least c.in_ok-name.name c.in_ok-name.head c.in_ok-name.ensures.found none) c.in_err-value.field-0.0 (c.in_err-value.ensures.refused p))

pub elements_at-returns-in_err-element-clause-refused : goal.elements_at-returns-in_err-element-clause-refused
elements_at-returns-in_err-element-clause-refused t c = λ p. rw (err_is c.from_residual.result c.from_residual.ensures.1) (refuses_so c.args.self.now.number (λ none. no_next_element c.args.self.now.bytes.now c.args.self.now.pools.now p c.args.at c.args.depth c.args.count c.loop-i._i c.loop-i.least (map element_of c.loop-i.elements.items) c.loop-i.size c.loop-i-test.true (c.loop-i.invariant.read p) none) c.in_err-element.field-0.0 (c.in_err-element.ensures.refused p))

pub elements_at-loop-i-preserved : goal.elements_at-loop-i-preserved
elements_at-loop-i-preserved t c =
    let named : (element_of c.in_ok-element.element).0 ≡ c.from-least.result = ap (λ (e : ℕ × NumberedValue). e.0) (element_is c.in_ok-element.element) ∙ omega (arith, c.from-least.ensures) in
    let items : map element_of c.push.new.self.items ≡ map element_of c.loop-i.elements.items ++ element_of c.in_ok-element.element ∷ [] = ap (map element_of) c.in_ok-push.ensures.items ∙ map-append element_of c.loop-i.elements.items (c.in_ok-element.element ∷ []) in
    record {
      within = omega (arith, c.in_ok-element.ensures.within);
      least_fits = omega (arith, c.in_ok-element.ensures.name, named);
      read = λ p.
          let r = c.in_ok-element.ensures.read p in
          subst (λ (x : ℕ). HaveReadOf c.args.self.now.bytes.now c.args.at c.args.self.now.pools.now c.args.depth c.args.count (c.loop-i._i + 1) (x + 1) (map element_of c.push.new.self.items) (c.loop-i.size + c.in_ok-element.tally.size)) named
          (subst (λ (l : List (ℕ × NumberedValue)). HaveReadOf c.args.self.now.bytes.now c.args.at c.args.self.now.pools.now c.args.depth c.args.count (c.loop-i._i + 1) ((element_of c.in_ok-element.element).0 + 1) l (c.loop-i.size + c.in_ok-element.tally.size)) (sym items)
          (one_element_more c.args.self.now.bytes.now c.args.self.now.pools.now p c.args.at c.args.depth c.args.count c.loop-i._i c.loop-i.least (map element_of c.loop-i.elements.items) c.loop-i.size (element_of c.in_ok-element.element) c.in_ok-element.tally.size c.loop-i-test.true (c.loop-i.invariant.read p) r));
      weighs = subst (λ (l : List (ℕ × NumberedValue)). c.saturating_add-weight.result ≡ min (2 ^ 64 - 1) (numbered_elements_weight (elements_of_list l))) (sym items)
          (omega (arith, elements_weight_then (map element_of c.loop-i.elements.items) (element_of c.in_ok-element.element), c.loop-i.invariant.weighs, c.in_ok-element.ensures.tallied.weighs, c.saturating_add-weight.ensures));
    }

pub elements_at-returns-clause-read : goal.elements_at-returns-clause-read
elements_at-returns-clause-read t c = λ p.
    all_elements_read c.args.self.now.bytes.now c.args.self.now.pools.now p c.args.at c.args.depth c.args.count c.loop-i._i c.loop-i.least (map element_of c.loop-i.elements.items) c.loop-i.size (omega arith) (c.loop-i.invariant.read p)

pub value_at-returns-then-at-self-clause-refused : goal.value_at-returns-then-at-self-clause-refused
value_at-returns-then-at-self-clause-refused t c = λ p. rw c.refusal.ensures (refl, nothing_after c.args.self.now.bytes.now c.args.at c.args.depth c.args.self.now.pools.now p.pools (omega arith))

pub nested_at-returns-then-self-at-eq-ARRAY-clause-read : goal.nested_at-returns-then-self-at-eq-ARRAY-clause-read
nested_at-returns-then-self-at-eq-ARRAY-clause-read t c = λ p.
    subst (λ (x : NumberedValue). IsReadAt c.args.self.now.bytes.now c.args.at c.args.self.now.pools.now c.args.depth x (1 + c.in_ok-values.tally.size)) (sym (array_is c.in_ok-new.field-0 ∙ ap (λ vs. numbered.Array (values_of_list (map value_of vs.items))) c.in_ok-new.ensures.ok))
    (array_encoded c.args.self.now.bytes.now c.args.at c.args.depth c.args.self.now.pools.now p.pools (values_of_list (map value_of c.in_ok-values.values.items)) c.in_ok-values.tally.size (omega arith) (search rules) c.if-depth-eq0.false (c.in_ok-values.ensures.read p))

pub nested_at-returns-in_err-values-clause-refused : goal.nested_at-returns-in_err-values-clause-refused
nested_at-returns-in_err-values-clause-refused t c = λ p. rw (err_is c.from_residual.result c.from_residual.ensures.1) (refuses_so c.args.self.now.number (λ none. no_array c.args.self.now.bytes.now c.args.at c.args.depth c.args.self.now.pools.now p.pools (search rules) none) c.in_err-values.field-0.0 (c.in_err-values.ensures.refused p))

pub nested_at-returns-clause-read : goal.nested_at-returns-clause-read
nested_at-returns-clause-read t c = λ p.
    let a = c.in_ok-annotation.annotation in
    subst (λ (x : NumberedValue). IsReadAt c.args.self.now.bytes.now c.args.at c.args.self.now.pools.now c.args.depth x (1 + c.in_ok-annotation.tally.size)) (sym (annotation_is c.in_ok-annotation-2.annotation ∙ ap encoded_of c.in_ok-annotation-2.ensures.ok))
    (annotation_encoded c.args.self.now.bytes.now c.args.at c.args.depth c.args.self.now.pools.now p.pools (encoded_type a) (encoded_elements a) c.in_ok-annotation.tally.size (omega arith) (c.requires.annotation (search rules)) c.if-depth-eq0.false (c.in_ok-annotation.ensures.read p))

pub nested_at-returns-in_err-annotation-clause-refused : goal.nested_at-returns-in_err-annotation-clause-refused
nested_at-returns-in_err-annotation-clause-refused t c = λ p. rw (err_is c.from_residual-in_err-annotation.result c.from_residual-in_err-annotation.ensures.1) (refuses_so c.args.self.now.number (λ none. no_annotation c.args.self.now.bytes.now c.args.at c.args.depth c.args.self.now.pools.now p.pools (c.requires.annotation (search rules)) none) c.in_err-annotation.field-0.0 (c.in_err-annotation.ensures.refused p))

pub value_at-returns-in_default-scalar_at-clause-refused : goal.value_at-returns-in_default-scalar_at-clause-refused
value_at-returns-in_default-scalar_at-clause-refused t c = λ p. rw c.refusal-in_default-scalar_at.ensures (refl, none_found _ _ c.scalar_at.result c.in_default-scalar_at.not-Some (c.scalar_at.ensures.read p.pools) c.args.depth)

pub element_at-returns-then-from-least-clause-refused : goal.element_at-returns-then-from-least-clause-refused
element_at-returns-then-from-least-clause-refused t c = λ p.
    rw c.refusal.ensures (
      refl,
      no_such_name c.args.self.now.bytes.now c.args.self.now.pools.now p c.args.at c.args.depth c.args.least c.in_ok-name.name c.in_ok-name.head c.in_ok-name.ensures.found
          (λ above known.
          elim c.then-from-least.branch [
            | element_at-then-from-least-via-then-from-least w ↦ absurd (omega (arith, above, c.from.ensures, w.if-from-least.true))
            | element_at-then-from-least-via-else-from-least+then-name-len w ↦ absurd (omega (arith, known, w.len.ensures, w.if-name-len.true))
          ]),
    )

pub element_at-returns-clause-read : goal.element_at-returns-clause-read
element_at-returns-clause-read t c = λ p.
    subst (λ (e : ℕ × NumberedValue). IsElementReadAt c.args.self.now.bytes.now c.args.at c.args.self.now.pools.now c.args.depth c.args.least e (c.in_ok-name.head + c.in_ok-value.tally.size)) (sym (element_is _))
    (record {
      head = c.in_ok-name.head;
      size = c.in_ok-value.tally.size;
      index = c.in_ok-name.ensures.found;
      name_known = omega (arith, c.len.ensures, c.if-name-len.false);
      above = omega (arith, c.from.ensures, c.if-from-least.false);
      value = c.in_ok-value.ensures.read p;
      sum = refl;
    })
