use Rattle.dexval.proofs.Common.{◌≡◌, ◌+◌, ◌<◌, length, rules, [], map, ap, sym, subst, ◌∙◌, arith, All-head, All-tail, Value, EncodedAnnotation-F, out-roll-EncodedAnnotation, Element, EncodedAnnotation, out-EncodedAnnotation, value_of, element_of, values_of, elements_of, encoded_of, encoded_type, encoded_elements, Annotated, values_of_list, elements_of_list, remapped, renumbered, renumbered_values, renumbered_elements, renumbered_element, HasPlaces, HavePlaces, ElementHasPlaces, ElementsHavePlaces, IsMapped, MapsUse, value_uses, elements_uses, numbered_elements_weight}
use Rattle.std.specs.Box.{with_value}
use Rattle.std.specs.Vec.{with_item}
use Rattle.dexpool.specs.declared.symbols.SymbolKind.TheVariants as kinds
use Rattle.dexval.specs.declared.value.Value.TheVariants as variants
use Rattle.dexval.specs.Numbered as numbered
use Rattle.dexval.proofs.Members.{string_is, typ_is, field_is, method_is, enum_is, array_is, annotation_is, element_is, value_lighter, element_lighter, array_lighter, annotation_lighter}
use Rattle.dexval.proofs.Renumbered.{AreRemapped, next_is, next_member, all_remapped, remapped_more, values_placed, elements_placed, values_renumbered, elements_renumbered}
use Rattle.dexval.proofs.+renumbering.Goals as goal

pub renumbering::renumber_values-renumber-requires : goal.renumbering::renumber_values-renumber-requires
renumbering::renumber_values-renumber-requires t c =
    let old = c.args.values.now.items in
    let lighter = value_lighter old c.loop-i.i c.index_mut.result.now (omega arith) (next_is value_of (renumbered c.args.remap.now) old c.loop-i.values.items c.loop-i.i c.index_mut.result.now c.loop-i.invariant c.index_mut.ensures.value) in
    (search rules, next_member value_of (renumbered c.args.remap.now) (HasPlaces c.args.remap.now) old c.loop-i.values.items c.loop-i.i c.index_mut.result.now c.loop-i.invariant (omega arith) (values_placed c.args.remap.now (map value_of old) c.requires) c.index_mut.ensures.value)

pub renumbering::renumber_values-loop-i-preserved : goal.renumbering::renumber_values-loop-i-preserved
renumbering::renumber_values-loop-i-preserved t c =
    remapped_more value_of (renumbered c.args.remap.now) c.args.values.now.items c.loop-i.values.items c.loop-i.i c.index_mut.result.now c.renumber.new.self c.loop-i.invariant (omega arith) c.index_mut.ensures.value c.renumber.ensures

pub renumbering::renumber_values-returns : goal.renumbering::renumber_values-returns
renumbering::renumber_values-returns t c =
    let old = c.args.values.now.items in ap values_of_list (all_remapped value_of (renumbered c.args.remap.now) old c.loop-i.values.items c.loop-i.i c.loop-i.invariant (omega arith)) ∙ values_renumbered c.args.remap.now (map value_of old)

pub value::Value::renumber-remapped-requires : goal.value::Value::renumber-remapped-requires
value::Value::renumber-remapped-requires t c =
    subst (IsMapped c.args.remap.now kinds.Text) (sym c.in-String.number-is) (All-head (MapsUse c.args.remap.now) (record { kind = kinds.Text; number = c.in-String.number }) [] (subst (HasPlaces c.args.remap.now) (ap value_of c.in-String.is ∙ string_is c.in-String.number) c.requires))

pub value::Value::renumber-remapped-requires-in-Typ : goal.value::Value::renumber-remapped-requires-in-Typ
value::Value::renumber-remapped-requires-in-Typ t c =
    subst (IsMapped c.args.remap.now kinds.Typ) (sym c.in-Typ.number-is) (All-head (MapsUse c.args.remap.now) (record { kind = kinds.Typ; number = c.in-Typ.number }) [] (subst (HasPlaces c.args.remap.now) (ap value_of c.in-Typ.is ∙ typ_is c.in-Typ.number) c.requires))

pub value::Value::renumber-remapped-requires-in-Field : goal.value::Value::renumber-remapped-requires-in-Field
value::Value::renumber-remapped-requires-in-Field t c =
    subst (IsMapped c.args.remap.now kinds.Field) (sym c.in-Field.number-is) (All-head (MapsUse c.args.remap.now) (record { kind = kinds.Field; number = c.in-Field.number }) [] (subst (HasPlaces c.args.remap.now) (ap value_of c.in-Field.is ∙ field_is c.in-Field.number) c.requires))

pub value::Value::renumber-remapped-requires-in-Method : goal.value::Value::renumber-remapped-requires-in-Method
value::Value::renumber-remapped-requires-in-Method t c =
    subst (IsMapped c.args.remap.now kinds.Method) (sym c.in-Method.number-is) (All-head (MapsUse c.args.remap.now) (record { kind = kinds.Method; number = c.in-Method.number }) [] (subst (HasPlaces c.args.remap.now) (ap value_of c.in-Method.is ∙ method_is c.in-Method.number) c.requires))

pub value::Value::renumber-remapped-requires-in-Enum : goal.value::Value::renumber-remapped-requires-in-Enum
value::Value::renumber-remapped-requires-in-Enum t c =
    subst (IsMapped c.args.remap.now kinds.Field) (sym c.in-Enum.number-is) (All-head (MapsUse c.args.remap.now) (record { kind = kinds.Field; number = c.in-Enum.number }) [] (subst (HasPlaces c.args.remap.now) (ap value_of c.in-Enum.is ∙ enum_is c.in-Enum.number) c.requires))

pub value::Value::renumber-renumber_values-requires : goal.value::Value::renumber-renumber_values-requires
value::Value::renumber-renumber_values-requires t c =
    let same = c.deref_mut.ensures.value ∙ ap (λ b. b.value) c.in-Array.values-is in
    let lighter = array_lighter c.args.self.now c.in-Array.values c.in-Array.is (ap (λ v. v.items) same) in
    (search rules, subst (λ v. HavePlaces c.args.remap.now (values_of_list (map value_of v.items))) (sym same) (subst (HasPlaces c.args.remap.now) (ap value_of c.in-Array.is ∙ array_is c.in-Array.values) c.requires))

pub value::Value::renumber-renumber-requires : goal.value::Value::renumber-renumber-requires
value::Value::renumber-renumber-requires t c =
    let same = c.deref_mut-in-Annotation.ensures.value ∙ ap (λ b. b.value) c.in-Annotation.annotation-is in
    let lighter = annotation_lighter c.args.self.now c.in-Annotation.annotation c.in-Annotation.is in
    let weight = ap (λ a. numbered_elements_weight (encoded_elements a)) same in
    (search rules, subst (λ a. HasPlaces c.args.remap.now (encoded_of a)) (sym same) (subst (HasPlaces c.args.remap.now) (ap value_of c.in-Annotation.is ∙ annotation_is c.in-Annotation.annotation) c.requires))

pub value::Value::renumber-returns-in-Annotation : goal.value::Value::renumber-returns-in-Annotation
value::Value::renumber-returns-in-Annotation t c =
    let b = c.in-Annotation.annotation in
    let is = c.renumber.ensures ∙ ap (λ a. renumbered c.args.remap.now (encoded_of a)) (c.deref_mut-in-Annotation.ensures.value ∙ ap (λ b. b.value) c.in-Annotation.annotation-is) ∙ ap (renumbered c.args.remap.now) (sym (annotation_is b)) in
    let whole : value_of (variants.Annotation (with_value b c.renumber.new.self)) ≡ renumbered c.args.remap.now (value_of (variants.Annotation b)) = annotation_is (with_value b c.renumber.new.self) ∙ is in search rules

pub value::Value::renumber-returns-in-Array : goal.value::Value::renumber-returns-in-Array
value::Value::renumber-returns-in-Array t c =
    let b = c.in-Array.values in
    let is = ap numbered.Array (c.renumber_values.ensures ∙ ap (λ v. renumbered_values c.args.remap.now (values_of v.items)) (c.deref_mut.ensures.value ∙ ap (λ b. b.value) c.in-Array.values-is)) ∙ ap (renumbered c.args.remap.now) (sym (array_is b)) in
    let whole : value_of (variants.Array (with_value b c.renumber_values.new.values)) ≡ renumbered c.args.remap.now (value_of (variants.Array b)) = array_is (with_value b c.renumber_values.new.values) ∙ is in search rules

pub value::EncodedAnnotation::renumber-renumber-requires : goal.value::EncodedAnnotation::renumber-renumber-requires
value::EncodedAnnotation::renumber-renumber-requires t c =
    let r = c.args.remap.now in
    let a = c.args.self.now in
    let old = (out-EncodedAnnotation a).elements.items in
    let now = (out-EncodedAnnotation c.loop-i.self).elements.items in
    let i = c.loop-i.i in
    let d = c.index_mut.result.now in
    let h = c.loop-i.invariant.elements in
    let lt : i < length old = omega (arith, (out-EncodedAnnotation a).elements.ok.0) in
    let lighter = element_lighter old i d lt (next_is element_of (renumbered_element r) old now i d h c.index_mut.ensures.value) in
    let places : ElementsHavePlaces r (elements_of old) = All-tail (MapsUse r) (record { kind = kinds.Typ; number = encoded_type a }) (elements_uses (encoded_elements a)) c.requires in
    (search rules, next_member element_of (renumbered_element r) (ElementHasPlaces r) old now i d h lt (elements_placed r (map element_of old) places) c.index_mut.ensures.value)

pub value::EncodedAnnotation::renumber-loop-i-preserved : goal.value::EncodedAnnotation::renumber-loop-i-preserved
value::EncodedAnnotation::renumber-loop-i-preserved t c =
    let r = c.args.remap.now in
    let a = out-EncodedAnnotation c.args.self.now in
    let old = a.elements.items in
    let now = out-EncodedAnnotation c.loop-i.self in
    let i = c.loop-i.i in
    let lt : i < length old = omega (arith, a.elements.ok.0) in
    let new : EncodedAnnotation-F Value Element EncodedAnnotation = record { typ = now.typ; elements = with_item now.elements i c.renumber.new.self } in
    let same = out-roll-EncodedAnnotation new in
    record {
      typ = ap (λ (n : EncodedAnnotation-F Value Element EncodedAnnotation). n.typ) same ∙ c.loop-i.invariant.typ;
      elements = subst (λ (n : EncodedAnnotation-F Value Element EncodedAnnotation). AreRemapped element_of (renumbered_element r) (i + 1) old n.elements.items) (sym same)
          (remapped_more element_of (renumbered_element r) old now.elements.items i c.index_mut.result.now c.renumber.new.self c.loop-i.invariant.elements lt c.index_mut.ensures.value c.renumber.ensures);
    }

pub value::EncodedAnnotation::renumber-remapped-self-requires : goal.value::EncodedAnnotation::renumber-remapped-self-requires
value::EncodedAnnotation::renumber-remapped-self-requires t c =
    let a = c.args.self.now in
    subst (IsMapped c.args.remap.now kinds.Typ) (sym c.loop-i.invariant.typ) (All-head (MapsUse c.args.remap.now) (record { kind = kinds.Typ; number = encoded_type a }) (elements_uses (encoded_elements a)) c.requires)

pub value::EncodedAnnotation::renumber-returns : goal.value::EncodedAnnotation::renumber-returns
value::EncodedAnnotation::renumber-returns t c =
    let r = c.args.remap.now in
    let a = out-EncodedAnnotation c.args.self.now in
    let old = a.elements.items in
    let new : EncodedAnnotation-F Value Element EncodedAnnotation = record { typ = c.remapped-self.result; elements = (out-EncodedAnnotation c.loop-i.self).elements } in
    let typ : new.typ ≡ remapped r kinds.Typ a.typ = c.remapped-self.ensures ∙ ap (remapped r kinds.Typ) c.loop-i.invariant.typ in
    let elements : elements_of new.elements.items ≡ renumbered_elements r (elements_of old) =
    ap elements_of_list (all_remapped element_of (renumbered_element r) old new.elements.items c.loop-i.i c.loop-i.invariant.elements (omega (arith, a.elements.ok.0))) ∙ elements_renumbered r (map element_of old) in
    ap (λ (n : EncodedAnnotation-F Value Element EncodedAnnotation). Annotated n.typ (elements_of n.elements.items)) (out-roll-EncodedAnnotation new) ∙ (λ k. Annotated (typ k) (elements k))

pub value::Element::renumber-remapped-self-requires : goal.value::Element::renumber-remapped-self-requires
value::Element::renumber-remapped-self-requires t c =
    let e = c.args.self.now in All-head (MapsUse c.args.remap.now) (record { kind = kinds.Text; number = e.name }) (value_uses (value_of e.value)) (subst (ElementHasPlaces c.args.remap.now) (element_is e) c.requires)

pub value::Element::renumber-renumber-requires : goal.value::Element::renumber-renumber-requires
value::Element::renumber-renumber-requires t c =
    (search rules, All-tail (MapsUse c.args.remap.now) (record { kind = kinds.Text; number = c.args.self.now.name }) (value_uses (value_of c.args.self.now.value)) (subst (ElementHasPlaces c.args.remap.now) (element_is c.args.self.now) c.requires))
