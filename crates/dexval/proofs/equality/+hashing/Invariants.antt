use Rattle.dexval.proofs.Common.{◌≡◌, ◌+◌, fold, take, map, flat_map, value_of, element_of, elements_of_list, numbered_weight, numbered_elements_weight}
use Rattle.dexval.proofs.Hashed.{value_fed, element_fed}
use Rattle.dexval.proofs.equality.+hashing.Given as goal

abbrev pub invariant-hash_value-loop-held : goal.invariant-hash_value-loop-held
invariant-hash_value-loop-held g l = l.state ≡ fold g.H.Hasher.write l.initial.state (flat_map value_fed (take l.held-index l.held-items))

abbrev pub invariant-hash_elements-loop-element : goal.invariant-hash_elements-loop-element
invariant-hash_elements-loop-element g l = l.state ≡ fold g.H.Hasher.write l.fn.state (flat_map element_fed (take l.element-index l.elements))

abbrev pub decreases-hash_value : goal.decreases-hash_value
decreases-hash_value g l = numbered_weight (value_of l.value.now)

abbrev pub decreases-hash_elements : goal.decreases-hash_elements
decreases-hash_elements g l = numbered_elements_weight (elements_of_list (map element_of l.elements.now)) + 2
