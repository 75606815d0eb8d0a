use Rattle.dexio.proofs.Common.{take, flat_map}
use Rattle.dexio.proofs.output.encode_all.Given as goal

abbrev pub invariant-loop-item : goal.invariant-loop-item
invariant-loop-item g l = g.O.Output.gives (flat_map g.T.Encode.bytes (take l.item-index l.items)) l.initial.out l.out
