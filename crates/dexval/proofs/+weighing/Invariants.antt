use Rattle.dexval.proofs.Common.{◌≡◌, ◌+◌, ◌-◌, ◌^◌, min, sum_by, take, out-EncodedAnnotation}
use Rattle.dexval.proofs.Members.{value_weighs, element_weighs}
use Rattle.dexval.proofs.+weighing.Given as goal

abbrev pub invariant-weight::annotation_weight-loop-element : goal.invariant-weight::annotation_weight-loop-element
invariant-weight::annotation_weight-loop-element l = l.weight ≡ min (2 ^ 64 - 1) (12 + sum_by element_weighs (take l.element-index (out-EncodedAnnotation l.annotation).elements.items))

abbrev pub invariant-weight::values_weight-loop-value : goal.invariant-weight::values_weight-loop-value
invariant-weight::values_weight-loop-value l = l.weight ≡ min (2 ^ 64 - 1) (sum_by value_weighs (take l.value-index l.values))
