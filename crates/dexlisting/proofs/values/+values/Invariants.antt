use Rattle.std.proofs.Common.{take}
use Rattle.std.specs.List.{flat_map}
use Rattle.dexlisting.proofs.ValueTexts.{one_value, one_element}
use Rattle.dexlisting.proofs.values.+values.Given as goal

abbrev pub invariant-encode_values-loop-value : goal.invariant-encode_values-loop-value
invariant-encode_values-loop-value g l = g.O.Output.gives (flat_map (one_value l.numbering) (take l.value-index l.values)) l.initial.out l.out

abbrev pub invariant-encode_elements-loop-element : goal.invariant-encode_elements-loop-element
invariant-encode_elements-loop-element g l = g.O.Output.gives (flat_map (one_element l.numbering) (take l.element-index l.elements)) l.initial.out l.out
