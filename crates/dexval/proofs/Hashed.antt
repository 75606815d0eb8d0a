-- The hash input of values and annotations, member by member.
use Rattle.dexval.proofs.Common.{ℤ, pos, Maps, NumberedValues, NumberedElements, Plain, Named, Annotated, renumbered, head_of, held_values, held_elements, ◌≡◌, ℕ, ◌+◌, ◌<◌, ◌≤◌, List, [], ◌∷◌, ◌++◌, get_or, length, take, map, fold, refl, sym, ap, ◌∙◌, append_assoc, take_all, take_more, append-nil, length-map, flat_map-append, flat_map, Annotation, Value, Element, value_of, element_of, elements_of, annotation_of, value_input, values_input, elements_input, annotation_input, NumberedValue, Array, values_of_list, elements_of_list}
use Rattle.std.proofs.lemmas.List.Folds.{flat_map-map}
use Rattle.std.specs.Hash as fed
use Rattle.dexval.specs.Equality.{head_input}
use Rattle.dexval.specs.internal.Heads.{no_images}
use Rattle.dexval.proofs.Unmoved.{value_stays}
use Rattle.dexval.proofs.Members.{element_is}

-- ---- lists, member by member

-- the hash input of a value of the code
abbrev pub value_fed : Value → fed.HashWrites
value_fed v = value_input (value_of v)

-- of an element
abbrev pub element_fed : Element → fed.HashWrites
element_fed e = fed.u32 e.name ++ value_fed e.value

-- of an annotation
abbrev pub annotation_fed : Annotation → fed.HashWrites
annotation_fed a = annotation_input (annotation_of a)

-- of values
abbrev values_fed : List Value → fed.HashWrites
values_fed xs = values_input (values_of_list (map value_of xs))

-- of elements
abbrev elements_fed : List Element → fed.HashWrites
elements_fed xs = elements_input (elements_of xs)

pub values_are_fed : (xs : List Value) → flat_map value_fed xs ≡ values_fed xs
values_are_fed [] = refl
values_are_fed (x ∷ xs) = ap (λ (l : fed.HashWrites). value_fed x ++ l) (values_are_fed xs)

pub elements_are_fed : (xs : List Element) → flat_map element_fed xs ≡ elements_fed xs
elements_are_fed [] = refl
elements_are_fed (x ∷ xs) = ap (λ (l : fed.HashWrites). element_fed x ++ l) (elements_are_fed xs) ∙ ap (λ (e : ℕ × NumberedValue). elements_input (elements_of_list (e ∷ map element_of xs))) (sym (element_is x))

pub annotations_are_fed : (xs : List Annotation) → fed.usize (length xs) ++ flat_map annotation_fed xs ≡ fed.slice annotation_input (map annotation_of xs)
annotations_are_fed xs = λ k. fed.usize (sym (length-map xs annotation_of) k) ++ sym (flat_map-map annotation_input annotation_of xs) k

-- a list, after `first`
module _ {S X : Type 0} (write : S → List ℕ → S) (feed : X → fed.HashWrites) (first : fed.HashWrites) where
  -- one more member
  pub fed_more : (xs : List X) (i : ℕ) (x : X) (s t u : S) → i < length xs → x ≡ get_or xs i x → t ≡ fold write s (first ++ flat_map feed (take i xs)) → u ≡ fold write t (feed x) → u ≡ fold write s (first ++ flat_map feed (take (i + 1) xs))
  fed_more xs i x s t u lt e p q =
      let more : flat_map feed (take (i + 1) xs) ≡ flat_map feed (take i xs) ++ feed x =
      ap (flat_map feed) (take_more xs i x lt ∙ ap (λ (y : X). take i xs ++ y ∷ []) (sym e)) ∙ flat_map-append feed (take i xs) (x ∷ []) ∙ ap (λ (l : fed.HashWrites). flat_map feed (take i xs) ++ l) (append-nil (feed x)) in
      fed.fed_along write s u (append_assoc first (flat_map feed (take i xs)) (feed x) ∙ ap (λ (l : fed.HashWrites). first ++ l) (sym more)) (fed.fed_then write s t u (first ++ flat_map feed (take i xs)) (feed x) p q)

  -- all of them
  pub fed_all : (xs : List X) (i : ℕ) (s t : S) → length xs ≤ i → t ≡ fold write s (first ++ flat_map feed (take i xs)) → t ≡ fold write s (first ++ flat_map feed xs)
  fed_all xs i s t end p = p ∙ ap (λ (l : List X). fold write s (first ++ flat_map feed l)) (take_all i xs end)

-- ---- a value, part by part

input_parts : (x : NumberedValue) → head_input (head_of x) ++ (values_input (held_values x) ++ elements_input (held_elements x)) ≡ value_input x
input_parts (Plain literal) = refl
input_parts (Named reference i) = refl
input_parts (Array xs) = ap (λ (l : fed.HashWrites). head_input (0x1c, pos 0) ++ l) (append-nil (values_input xs))
input_parts (Annotated t es) = refl

pub value_whole : {S : Type 0} (write : S → List ℕ → S) (x : NumberedValue) (r : Maps) (h : ℕ × ℤ) (xs : NumberedValues) (es : NumberedElements) (s t m u : S) → r ≡ no_images → h ≡ head_of (renumbered r x) → xs ≡ held_values x → es ≡ held_elements x
    → t ≡ fold write s (head_input h) → m ≡ fold write t (values_input xs) → u ≡ fold write m (elements_input es) → u ≡ fold write s (value_input x)
value_whole write x r h xs es s t m u none head values elements p q k =
    let same : h ≡ head_of x = head ∙ ap (λ (r : Maps). head_of (renumbered r x)) none ∙ ap head_of (value_stays x) in
    fed.fed_along write s u ((λ i. head_input (same i) ++ (values_input (values i) ++ elements_input (elements i))) ∙ input_parts x)
    (fed.fed_then write s t u (head_input h) (values_input xs ++ elements_input es) p (fed.fed_then write t m u (values_input xs) (elements_input es) q k))
