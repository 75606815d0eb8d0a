-- What is renumbered weighs what it weighed before.
use Rattle.dexval.proofs.Common.{◌≡◌, ◌∙◌, ℕ, ◌+◌, [], ◌∷◌, refl, ap, arith, inl, inr, sum_by, sum_by-cons, cases_eq, Maps, NumberedValue, NumberedValues, NumberedElements, NumberedAnnotation, NumberedSet, Plain, Named, Array, Annotated, NoValue, ThenNext, NoElement, ThenNamed, renumbered, renumbered_values, renumbered_elements, renumbered_annotation, renumbered_set, numbered_weight, numbered_values_weight, numbered_elements_weight, numbered_annotation_weight, numbered_set_weight, IsRemappedSet}
use Rattle.dexval.specs.Spelled.{numbered_statics_weight}

mutual
  -- a value
  value_kept : (r : Maps) (x : NumberedValue) → numbered_weight (renumbered r x) ≡ numbered_weight x
  value_kept r (Plain l) = refl
  value_kept r (Named k i) = refl
  value_kept r (Array xs) = ap (λ (n : ℕ). 6 + n) (values_kept r xs)
  value_kept r (Annotated t es) = ap (λ (n : ℕ). 12 + n) (elements_kept r es)

  -- values
  values_kept : (r : Maps) (xs : NumberedValues) → numbered_values_weight (renumbered_values r xs) ≡ numbered_values_weight xs
  values_kept r NoValue = refl
  values_kept r (ThenNext x xs) = omega (arith, value_kept r x, values_kept r xs)

  -- elements
  elements_kept : (r : Maps) (es : NumberedElements) → numbered_elements_weight (renumbered_elements r es) ≡ numbered_elements_weight es
  elements_kept r NoElement = refl
  elements_kept r (ThenNamed name x es) = omega (arith, value_kept r x, elements_kept r es)

-- static values
pub statics_kept : (r : Maps) (xs : NumberedValues) → numbered_statics_weight (renumbered_values r xs) ≡ numbered_statics_weight xs
statics_kept r NoValue = refl
statics_kept r (ThenNext x xs) = ap (λ (n : ℕ). 6 + n) (values_kept r (ThenNext x xs))

sum_kept : (r : Maps) (xs : NumberedSet) → sum_by (λ (a : NumberedAnnotation). 4 + numbered_annotation_weight a) (renumbered_set r xs) ≡ sum_by (λ (a : NumberedAnnotation). 4 + numbered_annotation_weight a) xs
sum_kept r [] = refl
sum_kept r (x ∷ xs) =
    let f : NumberedAnnotation → ℕ = λ a. 4 + numbered_annotation_weight a in omega (arith, sum_by-cons f x xs, sum_by-cons f (renumbered_annotation r x) (renumbered_set r xs), elements_kept r x.elements, sum_kept r xs)

-- a set
set_kept : (r : Maps) (xs : NumberedSet) → numbered_set_weight (renumbered_set r xs) ≡ numbered_set_weight xs
set_kept r [] = refl
set_kept r (x ∷ xs) = ap (λ (n : ℕ). 8 + n) (sum_kept r (x ∷ xs))

-- a set that is renumbered if each number has a place
pub fitting_kept : (r : Maps) (old new : NumberedSet) → IsRemappedSet r old new → numbered_set_weight new ≡ numbered_set_weight old
fitting_kept r old new is = elim (cases_eq (numbered_set_weight new) (numbered_set_weight old)) [
  | inl same ↦ same
  | inr other ↦ absurd (other (ap numbered_set_weight (is.1 (λ places. other (ap numbered_set_weight (is.0 places) ∙ set_kept r old)))))
]
