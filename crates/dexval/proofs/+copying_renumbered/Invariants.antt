use Rattle.dexval.proofs.Common.{◌+◌, value_of, element_of, values_of, encoded_elements, out-EncodedAnnotation, renumbered, renumbered_element, numbered_weight, numbered_values_weight, numbered_elements_weight}
use Rattle.dexval.proofs.RenumberedCopies.{AreCopied}
use Rattle.dexval.proofs.+copying_renumbered.Given as goal

abbrev pub invariant-renumbered_copies::renumbered_copies-loop-value : goal.invariant-renumbered_copies::renumbered_copies-loop-value
invariant-renumbered_copies::renumbered_copies-loop-value l = AreCopied value_of (renumbered l.remap) l.value-index l.values.items l.copies

abbrev pub invariant-value::EncodedAnnotation::renumbered_copy-loop-element : goal.invariant-value::EncodedAnnotation::renumbered_copy-loop-element
invariant-value::EncodedAnnotation::renumbered_copy-loop-element l = AreCopied element_of (renumbered_element l.remap) l.element-index (out-EncodedAnnotation l.self).elements.items l.elements

abbrev pub decreases-value::Value::renumbered_copy : goal.decreases-value::Value::renumbered_copy
decreases-value::Value::renumbered_copy l = numbered_weight (value_of l.self.now)

abbrev pub decreases-value::Element::renumbered_copy : goal.decreases-value::Element::renumbered_copy
decreases-value::Element::renumbered_copy l = numbered_weight (value_of l.self.now.value) + 1

abbrev pub decreases-renumbered_copies::renumbered_copies : goal.decreases-renumbered_copies::renumbered_copies
decreases-renumbered_copies::renumbered_copies l = numbered_values_weight (values_of l.values.now.items) + 1

abbrev pub decreases-value::EncodedAnnotation::renumbered_copy : goal.decreases-value::EncodedAnnotation::renumbered_copy
decreases-value::EncodedAnnotation::renumbered_copy l = numbered_elements_weight (encoded_elements l.self.now) + 3
