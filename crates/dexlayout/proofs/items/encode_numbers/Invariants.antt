use Rattle.dexlayout.proofs.Common.{take, flat_map, uint}
use Rattle.dexlayout.proofs.items.encode_numbers.Given as goal

abbrev pub invariant-loop-number : goal.invariant-loop-number
invariant-loop-number g l = g.O.Output.gives (flat_map uint (take l.number-index l.numbers)) l.initial.out l.out
