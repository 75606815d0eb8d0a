use Rattle.dexval.proofs.Common.{◌≡◌, take, map, value_of, element_of, out-EncodedAnnotation}
use Rattle.dexval.proofs.+copying.Given as goal

abbrev pub invariant-copying::copied_values-loop-value : goal.invariant-copying::copied_values-loop-value
invariant-copying::copied_values-loop-value l = map value_of l.copy.items ≡ map value_of (take l.value-index l.values.items)

abbrev pub invariant-copying::EncodedAnnotationClone::clone-loop-element : goal.invariant-copying::EncodedAnnotationClone::clone-loop-element
invariant-copying::EncodedAnnotationClone::clone-loop-element l = map element_of l.elements.items ≡ map element_of (take l.element-index (out-EncodedAnnotation l.self).elements.items)
