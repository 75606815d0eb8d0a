use Rattle.dexval.proofs.Common.{take, flat_map, out-EncodedAnnotation}
use Rattle.dexval.proofs.Members.{value_spelled, element_spelled}
use Rattle.dexval.proofs.encoding.+encoding.Given as goal

abbrev pub invariant-encode_array-loop-value : goal.invariant-encode_array-loop-value
invariant-encode_array-loop-value g l = g.O.Output.gives (flat_map value_spelled (take l.value-index l.values)) l.initial.out l.out

abbrev pub invariant-encode_annotation-loop-element : goal.invariant-encode_annotation-loop-element
invariant-encode_annotation-loop-element g l = g.O.Output.gives (flat_map element_spelled (take l.element-index (out-EncodedAnnotation l.annotation).elements.items)) l.initial.out l.out
