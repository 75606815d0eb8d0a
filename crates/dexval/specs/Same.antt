-- Values and annotations of the code that are equal, once the numbers of each are remapped by its own map.
use Rattle.std.specs.Prelude.{◌≡◌, List}
use Rattle.dexpool.specs.Numberings.{Maps}
use Rattle.dexval.specs.declared.annotation.Annotation.{Annotation}
use Rattle.dexval.specs.declared.set.AnnotationSet.{AnnotationSet}
use Rattle.dexval.specs.declared.value.Element.{Element}
use Rattle.dexval.specs.declared.value.Value.{Value}
use Rattle.dexval.specs.Code.{value_of, values_of, element_of, elements_of, annotation_of, set_of}
use Rattle.dexval.specs.Renumbering.{renumbered, renumbered_values, renumbered_element, renumbered_elements}
use Rattle.dexval.specs.Renumbering.{renumbered_annotation, renumbered_set}

-- two values
abbrev pub SameValue : Maps → Value → Maps → Value → Type 0
SameValue r x s y = renumbered r (value_of x) ≡ renumbered s (value_of y)

-- two lists of values, one for one
abbrev pub SameValues : Maps → List Value → Maps → List Value → Type 0
SameValues r xs s ys = renumbered_values r (values_of xs) ≡ renumbered_values s (values_of ys)

-- two elements: names and values
abbrev pub SameElement : Maps → Element → Maps → Element → Type 0
SameElement r d s e = renumbered_element r (element_of d) ≡ renumbered_element s (element_of e)

-- two lists of elements, one for one
abbrev pub SameElements : Maps → List Element → Maps → List Element → Type 0
SameElements r ds s es = renumbered_elements r (elements_of ds) ≡ renumbered_elements s (elements_of es)

-- two annotations: visibilities, types and elements
abbrev pub SameAnnotation : Maps → Annotation → Maps → Annotation → Type 0
SameAnnotation r x s y = renumbered_annotation r (annotation_of x) ≡ renumbered_annotation s (annotation_of y)

-- two sets
abbrev pub SameSet : Maps → AnnotationSet → Maps → AnnotationSet → Type 0
SameSet r x s y = renumbered_set r (set_of x) ≡ renumbered_set s (set_of y)
