-- The weight of a numbered item is the weight of the item that it denotes.
use Rattle.dexval.proofs.Common.{◌≡◌, ◌∙◌, ◌<◌, ℕ, ◌+◌, ◌-◌, ◌*◌, ◌^◌, min, List, [], ◌∷◌, length, map, refl, sym, ap, arith, sum_by, Option, sum_by-cons, Mentions, value_weight, values_weight, elements_weight, annotation_weight, set_weight, ref_list_weight, static_values_weight, Value, value_of, annotation_of, set_of, Literal, ByteLiteral, Reference, StringReference, NumberedValue, NumberedValues, NumberedElements, NumberedAnnotation, NumberedSet, Plain, Named, Array, Annotated, NoValue, ThenNext, NoElement, ThenNamed, plain_value, named_value, value_in, values_in, elements_in, annotation_in, set_in, values_of_list, numbered_weight, numbered_values_weight, numbered_elements_weight, numbered_annotation_weight, numbered_set_weight, set_at}
use Rattle.dexval.specs.Spelled.{numbered_statics_weight}
use Rattle.dexval.specs.Writing.{weight_of_sets}
use Rattle.dexval.specs.declared.annotation.Annotation.{Annotation as CodeAnnotation}
use Rattle.dexval.specs.declared.set.AnnotationSet.{AnnotationSet}

pub plain_weight : (l : Literal) → value_weight (plain_value l) ≡ 9
plain_weight (ByteLiteral z) = refl
plain_weight x = refl

named_weight : (m : Mentions) (r : Reference) (i : ℕ) → value_weight (named_value m r i) ≡ 9
named_weight m StringReference i = refl
named_weight m x i = refl

mutual
  -- a value
  pub weight_is : (m : Mentions) (x : NumberedValue) → numbered_weight x ≡ value_weight (value_in m x)
  weight_is m (Plain l) = sym (plain_weight l)
  weight_is m (Named r i) = sym (named_weight m r i)
  weight_is m (Array xs) = ap (λ (n : ℕ). 6 + n) (values_weight_is m xs)
  weight_is m (Annotated t es) = ap (λ (n : ℕ). 12 + n) (elements_weight_is m es)

  -- values
  pub values_weight_is : (m : Mentions) (xs : NumberedValues) → numbered_values_weight xs ≡ values_weight (values_in m xs)
  values_weight_is m NoValue = refl
  values_weight_is m (ThenNext x xs) = omega (arith, weight_is m x, values_weight_is m xs)

  -- elements
  pub elements_weight_is : (m : Mentions) (es : NumberedElements) → numbered_elements_weight es ≡ elements_weight (elements_in m es)
  elements_weight_is m NoElement = refl
  elements_weight_is m (ThenNamed name x es) = omega (arith, weight_is m x, elements_weight_is m es)

-- a weight that is that of the value whatever the numbers denote
pub weighs_numbers : (x : NumberedValue) (weight : ℕ) → ((m : Mentions) → weight ≡ min (2 ^ 64 - 1) (value_weight (value_in m x))) → weight ≡ min (2 ^ 64 - 1) (numbered_weight x)
weighs_numbers x weight weighs =
    let m : Mentions = record { texts = []; types = []; protos = []; fields = []; methods = [] } in weighs m ∙ ap (λ (n : ℕ). min (2 ^ 64 - 1) n) (sym (weight_is m x))

sum_is : (m : Mentions) (xs : NumberedSet) → sum_by (λ (a : NumberedAnnotation). 4 + numbered_annotation_weight a) xs ≡ sum_by (λ a. 4 + annotation_weight a) (set_in m xs)
sum_is m [] = refl
sum_is m (x ∷ xs) =
    omega (arith, sum_by-cons (λ (a : NumberedAnnotation). 4 + numbered_annotation_weight a) x xs, sum_by-cons (λ a. 4 + annotation_weight a) (annotation_in m x) (set_in m xs), elements_weight_is m x.elements, sum_is m xs)

-- a set
pub set_weight_is : (m : Mentions) (xs : NumberedSet) → numbered_set_weight xs ≡ set_weight (set_in m xs)
set_weight_is m [] = refl
set_weight_is m (x ∷ xs) = ap (λ (n : ℕ). 8 + n) (sum_is m (x ∷ xs))

-- so does that of the set
pub set_weighs_numbers : (xs : NumberedSet) (weight : ℕ) → ((m : Mentions) → weight ≡ min (2 ^ 64 - 1) (set_weight (set_in m xs))) → weight ≡ min (2 ^ 64 - 1) (numbered_set_weight xs)
set_weighs_numbers xs weight weighs =
    let m : Mentions = record { texts = []; types = []; protos = []; fields = []; methods = [] } in weighs m ∙ ap (λ (n : ℕ). min (2 ^ 64 - 1) n) (sym (set_weight_is m xs))

sets_sum_is : (m : Mentions) (xs : List AnnotationSet) → sum_by (λ s. 4 + set_weight (set_in m (set_of s))) xs ≡ 4 * length (map (set_in m) (map set_of xs)) + sum_by set_weight (map (set_in m) (map set_of xs))
sets_sum_is m [] = refl
sets_sum_is m (x ∷ xs) =
    omega (arith, sum_by-cons (λ s. 4 + set_weight (set_in m (set_of s))) x xs, sum_by-cons set_weight (set_in m (set_of x)) (map (set_in m) (map set_of xs)), sets_sum_is m xs)

-- static values, at least one
pub statics_weight_is : (m : Mentions) (xs : List Value) → 0 < length xs → 6 + numbered_values_weight (values_of_list (map value_of xs)) ≡ static_values_weight (values_in m (values_of_list (map value_of xs)))
statics_weight_is m [] some = absurd (omega arith)
statics_weight_is m (x ∷ xs) some = ap (λ (n : ℕ). 6 + n) (values_weight_is m (values_of_list (map value_of (x ∷ xs))))

-- static values, perhaps none
pub statics_weigh : (m : Mentions) (xs : NumberedValues) → numbered_statics_weight xs ≡ static_values_weight (values_in m xs)
statics_weigh m NoValue = refl
statics_weigh m (ThenNext x xs) = ap (λ (n : ℕ). 6 + n) (values_weight_is m (ThenNext x xs))

-- static values, perhaps none, by the weight of the values together
pub statics_of_values : (xs : List Value) (together weight : ℕ) → together ≡ min (2 ^ 64 - 1) (numbered_values_weight (values_of_list (map value_of xs))) → (length xs ≡ 0 → weight ≡ 0) → (0 < length xs → weight ≡ min (2 ^ 64 - 1) (together + 6))
    → weight ≡ min (2 ^ 64 - 1) (numbered_statics_weight (values_of_list (map value_of xs)))
statics_of_values [] together weight is none some = omega (arith, none refl)
statics_of_values (x ∷ xs) together weight is none some = omega (arith, is, some (omega arith))

-- the annotations of the code, at least one
annotations_sum : (xs : List CodeAnnotation) → sum_by (λ a. 4 + numbered_annotation_weight (annotation_of a)) xs ≡ sum_by (λ (a : NumberedAnnotation). 4 + numbered_annotation_weight a) (map annotation_of xs)
annotations_sum [] = refl
annotations_sum (x ∷ xs) =
    omega (arith, sum_by-cons (λ a. 4 + numbered_annotation_weight (annotation_of a)) x xs, sum_by-cons (λ (a : NumberedAnnotation). 4 + numbered_annotation_weight a) (annotation_of x) (map annotation_of xs), annotations_sum xs)

-- the weight of a set, by its annotations
pub annotations_weigh : (xs : List CodeAnnotation) (weight : ℕ) → (length xs ≡ 0 → weight ≡ 0) → (0 < length xs → weight ≡ min (2 ^ 64 - 1) (8 + sum_by (λ a. 4 + numbered_annotation_weight (annotation_of a)) xs))
    → weight ≡ min (2 ^ 64 - 1) (numbered_set_weight (map annotation_of xs))
annotations_weigh [] weight none some = omega (arith, none refl)
annotations_weigh (x ∷ xs) weight none some = some (omega arith) ∙ ap (λ (n : ℕ). min (2 ^ 64 - 1) (8 + n)) (annotations_sum (x ∷ xs))

-- the weight of a list of sets, by its sets
pub sets_weigh : (m : Mentions) (xs : List AnnotationSet) (weight : ℕ) → (length xs ≡ 0 → weight ≡ 0) → (0 < length xs → weight ≡ min (2 ^ 64 - 1) (8 + sum_by (λ s. 4 + set_weight (set_in m (set_of s))) xs)) → weight ≡ min (2 ^ 64 - 1) (weight_of_sets m xs)
sets_weigh m [] weight none some = omega (arith, none refl)
sets_weigh m (x ∷ xs) weight none some = omega (arith, some (omega arith), sets_sum_is m (x ∷ xs))

places_sum : (m : Mentions) (sets : List NumberedSet) (ps : List (Option ℕ)) → sum_by (λ p. 4 + set_weight (set_in m (set_at sets p))) ps ≡ 4 * length (map (set_in m) (map (set_at sets) ps)) + sum_by set_weight (map (set_in m) (map (set_at sets) ps))
places_sum m sets [] = refl
places_sum m sets (p ∷ ps) =
    omega (arith, sum_by-cons (λ p. 4 + set_weight (set_in m (set_at sets p))) p ps, sum_by-cons set_weight (set_in m (set_at sets p)) (map (set_in m) (map (set_at sets) ps)), places_sum m sets ps)

-- the sets of a list by their places, at least one
places_weigh : (m : Mentions) (sets : List NumberedSet) (ps : List (Option ℕ)) → 0 < length ps → 8 + sum_by (λ p. 4 + set_weight (set_in m (set_at sets p))) ps ≡ ref_list_weight (map (set_in m) (map (set_at sets) ps))
places_weigh m sets [] some = absurd (omega arith)
places_weigh m sets (p ∷ ps) some = omega (arith, places_sum m sets (p ∷ ps))

-- the weight of a list, by the places of its sets
pub places_weighed : (m : Mentions) (sets : List NumberedSet) (ps : List (Option ℕ)) (weight : ℕ) → (length ps ≡ 0 → weight ≡ 0) → (0 < length ps → weight ≡ min (2 ^ 64 - 1) (8 + sum_by (λ p. 4 + set_weight (set_in m (set_at sets p))) ps))
    → weight ≡ min (2 ^ 64 - 1) (ref_list_weight (map (set_in m) (map (set_at sets) ps)))
places_weighed m sets [] weight none some = omega (arith, none refl)
places_weighed m sets (p ∷ ps) weight none some = some (omega arith) ∙ ap (λ (n : ℕ). min (2 ^ 64 - 1) n) (places_weigh m sets (p ∷ ps) (omega arith))
