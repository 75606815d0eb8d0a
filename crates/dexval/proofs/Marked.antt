-- The symbols of lists are those of each item.
use Rattle.dexval.proofs.Common.{◌≡◌, ℕ, List, [], ◌∷◌, ◌++◌, map, refl, ap, sym, ◌∙◌, flat_map, Annotation, Value, Element, value_of, element_of, annotation_of, NumberedValue, values_of_list, elements_of_list, Use, value_uses, values_uses, element_uses, elements_uses, annotation_uses, set_uses}
use Rattle.dexval.proofs.Members.{element_is}

-- the symbols of a value of the code
abbrev pub code_uses : Value → List Use
code_uses v = value_uses (value_of v)

-- of an element of the code
abbrev pub part_uses : Element → List Use
part_uses e = element_uses (element_of e)

-- of an annotation of the code
abbrev pub note_uses : Annotation → List Use
note_uses a = annotation_uses (annotation_of a)

-- the symbols of values are the symbols of each value
pub uses_of_values : (xs : List Value) → values_uses (values_of_list (map value_of xs)) ≡ flat_map code_uses xs
uses_of_values [] = refl
uses_of_values (x ∷ xs) = ap (λ l. code_uses x ++ l) (uses_of_values xs)

-- of elements, of each element
pub uses_of_elements : (xs : List Element) → elements_uses (elements_of_list (map element_of xs)) ≡ flat_map part_uses xs
uses_of_elements [] = refl
uses_of_elements (x ∷ xs) =
    ap (λ (p : ℕ × NumberedValue). elements_uses (elements_of_list (p ∷ map element_of xs))) (element_is x) ∙ ap (λ l. element_uses (x.name, value_of x.value) ++ l) (uses_of_elements xs)
    ∙ ap (λ (p : ℕ × NumberedValue). element_uses p ++ flat_map part_uses xs) (sym (element_is x))

-- of annotations, of each annotation
pub uses_of_annotations : (xs : List Annotation) → set_uses (map annotation_of xs) ≡ flat_map note_uses xs
uses_of_annotations [] = refl
uses_of_annotations (x ∷ xs) = ap (λ l. note_uses x ++ l) (uses_of_annotations xs)
