use Rattle.dexlayout.proofs.Common.{take, flat_map, ushort}
use Rattle.dexlayout.proofs.keys.ListKeyEncode.encode.Given as goal

abbrev pub invariant-loop-i : goal.invariant-loop-i
invariant-loop-i g l = g.O.Output.gives (flat_map ushort (take l.i l.self)) l.initial.out l.out
