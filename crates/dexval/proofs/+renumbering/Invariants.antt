use Rattle.dexval.proofs.Common.{◌≡◌, ◌+◌, map, value_of, element_of, encoded_type, encoded_elements, out-EncodedAnnotation, values_of_list, renumbered, renumbered_element, numbered_weight, numbered_values_weight, numbered_elements_weight}
use Rattle.dexval.proofs.Renumbered.{AreRemapped}
use Rattle.dexval.proofs.+renumbering.Given as goal

abbrev pub invariant-renumbering::renumber_values-loop-i : goal.invariant-renumbering::renumber_values-loop-i
invariant-renumbering::renumber_values-loop-i l = AreRemapped value_of (renumbered l.remap) l.i l.initial.values.items l.values.items

abbrev pub decreases-value::Value::renumber : goal.decreases-value::Value::renumber
decreases-value::Value::renumber l = numbered_weight (value_of l.self.now)

abbrev pub decreases-value::Element::renumber : goal.decreases-value::Element::renumber
decreases-value::Element::renumber l = numbered_weight (value_of l.self.now.value) + 1

abbrev pub decreases-renumbering::renumber_values : goal.decreases-renumbering::renumber_values
decreases-renumbering::renumber_values l = numbered_values_weight (values_of_list (map value_of l.values.now.items)) + 1

abbrev pub invariant-value::EncodedAnnotation::renumber-loop-i : goal.invariant-value::EncodedAnnotation::renumber-loop-i
invariant-value::EncodedAnnotation::renumber-loop-i l = record { typ : encoded_type l.self ≡ encoded_type l.initial.self; elements : AreRemapped element_of (renumbered_element l.remap) l.i (out-EncodedAnnotation l.initial.self).elements.items (out-EncodedAnnotation l.self).elements.items }

abbrev pub decreases-value::EncodedAnnotation::renumber : goal.decreases-value::EncodedAnnotation::renumber
decreases-value::EncodedAnnotation::renumber l = numbered_elements_weight (encoded_elements l.self.now) + 3
