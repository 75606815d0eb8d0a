-- An item of small weight has few members.
use Rattle.dexval.proofs.Common.{All, ℕ, ◌+◌, ◌^◌, ◌<◌, ◌≤◌, List, [], ◌∷◌, length, arith, sum_by, sum_by-cons, All-cons, round_up, Mentions, value_weight, static_values_weight, annotation_weight, set_weight, NumberedValue, NumberedValues, NumberedElements, NumberedAnnotation, NumberedSet, Plain, Array, Annotated, NoValue, ThenNext, NoElement, ThenNamed, value_in, values_in, annotation_in, set_in, values_of_list, values_count, elements_count, IsCounted, AreCounted, HaveCounted, IsCountedAnnotation, numbered_annotation_bytes, numbered_offsets, numbered_weight, numbered_values_weight, numbered_elements_weight, numbered_annotation_weight, numbered_set_weight}
use Rattle.dexval.proofs.Members.{count_of_list}
use Rattle.dexval.proofs.Offsets.{here}
use Rattle.dexval.proofs.Spelling.{annotation_size_is}
use Rattle.dexval.proofs.Weights.{weight_is, values_weight_is, elements_weight_is, set_weight_is}

-- ---- values

-- a value weighs at least 1
some_weight : (x : NumberedValue) → 1 ≤ numbered_weight x
some_weight (Plain literal) = omega arith
some_weight x = omega arith

-- there are at most as many values as they weigh
values_few : (xs : NumberedValues) → values_count xs ≤ numbered_values_weight xs
values_few NoValue = omega arith
values_few (ThenNext x xs) = omega (arith, some_weight x, values_few xs)

-- there are at most as many elements as they weigh
elements_few : (es : NumberedElements) → elements_count es ≤ numbered_elements_weight es
elements_few NoElement = omega arith
elements_few (ThenNamed name x es) = omega (arith, elements_few es)

mutual
  counted : (x : NumberedValue) → numbered_weight x < 2 ^ 32 → IsCounted x
  counted (Array xs) lt = (omega (arith, lt, values_few xs), values_counted xs (omega (arith, lt)))
  counted (Annotated t es) lt = (omega (arith, lt, elements_few es), elements_counted es (omega (arith, lt)))
  counted x lt = tt

  values_counted : (xs : NumberedValues) → numbered_values_weight xs < 2 ^ 32 → AreCounted xs
  values_counted NoValue lt = tt
  values_counted (ThenNext x xs) lt = (counted x (omega (arith, lt)), values_counted xs (omega (arith, lt)))

  elements_counted : (es : NumberedElements) → numbered_elements_weight es < 2 ^ 32 → HaveCounted es
  elements_counted NoElement lt = tt
  elements_counted (ThenNamed name x es) lt = (counted x (omega (arith, lt)), elements_counted es (omega (arith, lt)))

-- a value
pub value_is_counted : (m : Mentions) (x : NumberedValue) → value_weight (value_in m x) < 2 ^ 32 → IsCounted x
value_is_counted m x lt = counted x (omega (arith, lt, weight_is m x))

-- static values
pub statics_are_counted : (m : Mentions) (xs : List NumberedValue) → static_values_weight (values_in m (values_of_list xs)) < 2 ^ 32 → (length xs < 2 ^ 32) × AreCounted (values_of_list xs)
statics_are_counted m [] lt = (omega arith, tt)
statics_are_counted m (x ∷ xs) lt =
    let all = values_of_list (x ∷ xs) in
    let light : numbered_values_weight all < 2 ^ 32 = omega (arith, lt, values_weight_is m all) in (omega (arith, light, values_few all, count_of_list (x ∷ xs)), values_counted all light)

-- an annotation
annotation_counted : (a : NumberedAnnotation) → numbered_annotation_weight a < 2 ^ 32 → IsCountedAnnotation a
annotation_counted a lt = (omega (arith, lt, elements_few a.elements), elements_counted a.elements (omega (arith, lt)))

pub annotation_is_counted : (m : Mentions) (a : NumberedAnnotation) → annotation_weight (annotation_in m a) < 2 ^ 32 → IsCountedAnnotation a
annotation_is_counted m a lt = annotation_counted a (omega (arith, lt, elements_weight_is m a.elements))

-- ---- sets

-- the annotations of a set of small weight begin at offsets below 2 ^ 32
heavy_offsets : (m : Mentions) (from : ℕ) (s : NumberedSet) → from + sum_by (λ (a : NumberedAnnotation). 4 + numbered_annotation_weight a) s < 2 ^ 32 → All (λ n. n < 2 ^ 32) (numbered_offsets from s)
heavy_offsets m from [] lt = λ i d none. absurd (omega arith)
heavy_offsets m from (a ∷ s) lt =
    let sum = sum_by-cons (λ (x : NumberedAnnotation). 4 + numbered_annotation_weight x) a s in
    All-cons (λ n. n < 2 ^ 32) (round_up 1 from) (numbered_offsets (round_up 1 from + length (numbered_annotation_bytes a)) s) (omega (arith, lt, sum, here from))
    (heavy_offsets m (round_up 1 from + length (numbered_annotation_bytes a)) s (omega (arith, lt, sum, annotation_size_is m a, here from)))

-- its annotations are counted
set_counted : (s : NumberedSet) → sum_by (λ (a : NumberedAnnotation). 4 + numbered_annotation_weight a) s < 2 ^ 32 → All IsCountedAnnotation s
set_counted [] lt = λ i d none. absurd (omega arith)
set_counted (a ∷ s) lt =
    let sum = sum_by-cons (λ (x : NumberedAnnotation). 4 + numbered_annotation_weight x) a s in All-cons IsCountedAnnotation a s (annotation_counted a (omega (arith, lt, sum))) (set_counted s (omega (arith, lt, sum)))

sum_less : (s : NumberedSet) → sum_by (λ (a : NumberedAnnotation). 4 + numbered_annotation_weight a) s ≤ numbered_set_weight s
sum_less [] = omega arith
sum_less (a ∷ s) = omega arith

pub set_is_counted : (m : Mentions) (s : NumberedSet) → set_weight (set_in m s) < 2 ^ 32 → All IsCountedAnnotation s
set_is_counted m s lt = set_counted s (omega (arith, lt, sum_less s, set_weight_is m s))

pub offsets_are_counted : (m : Mentions) (first : ℕ) (s : NumberedSet) → first + set_weight (set_in m s) < 2 ^ 32 → All (λ n. n < 2 ^ 32) (numbered_offsets first s)
offsets_are_counted m first s lt = heavy_offsets m first s (omega (arith, lt, sum_less s, set_weight_is m s))
