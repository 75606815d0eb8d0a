-- A map without images changes nothing.
use Rattle.dexval.proofs.Common.{◌≡◌, ℕ, Bool, true, false, refl, ap, sym, ◌∙◌, IsTrue, ◌↔◌, SymbolKind, NumberedValue, NumberedValues, NumberedElements, Plain, Named, Array, Annotated, NoValue, ThenNext, NoElement, ThenNamed, kind_of_reference, remapped, renumbered, renumbered_values, renumbered_elements, renumbered_annotation, renumbered_set, NumberedAnnotation, NumberedSet, [], ◌∷◌}
use Rattle.std.specs.Bool.{Decides}
use Rattle.dexval.specs.internal.Heads.{no_images}
use Rattle.dexpool.specs.declared.symbols.SymbolKind.TheVariants as kinds

stays : (kind : SymbolKind) (i : ℕ) → remapped no_images kind i ≡ i
stays kinds.Text i = refl
stays x i = refl

mutual
  pub value_stays : (x : NumberedValue) → renumbered no_images x ≡ x
  value_stays (Plain l) = refl
  value_stays (Named k i) = ap (Named k) (stays (kind_of_reference k) i)
  value_stays (Array xs) = ap Array (values_stay xs)
  value_stays (Annotated t es) = ap (Annotated t) (elements_stay es)

  pub values_stay : (xs : NumberedValues) → renumbered_values no_images xs ≡ xs
  values_stay NoValue = refl
  values_stay (ThenNext x xs) = ap (λ (y : NumberedValue). ThenNext y (renumbered_values no_images xs)) (value_stays x) ∙ ap (ThenNext x) (values_stay xs)

  elements_stay : (es : NumberedElements) → renumbered_elements no_images es ≡ es
  elements_stay NoElement = refl
  elements_stay (ThenNamed name x es) = ap (λ (y : NumberedValue). ThenNamed name y (renumbered_elements no_images es)) (value_stays x) ∙ ap (ThenNamed name x) (elements_stay es)

annotation_stays : (a : NumberedAnnotation) → renumbered_annotation no_images a ≡ a
annotation_stays a = ap (λ (es : NumberedElements). record { visibility = a.visibility; type = a.type; elements = es }) (elements_stay a.elements)

pub set_stays : (s : NumberedSet) → renumbered_set no_images s ≡ s
set_stays [] = refl
set_stays (a ∷ s) = ap (λ (b : NumberedAnnotation). b ∷ renumbered_set no_images s) (annotation_stays a) ∙ ap (λ (t : NumberedSet). a ∷ t) (set_stays s)

-- two results that decide the same statement are equal
pub equal_results : {P : Type 0} (r b : Bool) → (IsTrue r ↔ P) → Decides b P → r ≡ b
equal_results true false h k = sym (k.1 (h.0 refl))
equal_results false true h k = h.1 (k.0 refl)
equal_results _ _ h k = refl
