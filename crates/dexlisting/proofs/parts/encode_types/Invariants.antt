use Rattle.std.proofs.Common.{take}
use Rattle.std.specs.List.{flat_map}
use Rattle.dexout.specs.Printed.{shown}
use Rattle.dexpool.specs.NumberedSymbols.{type_at}
use Rattle.dexlisting.proofs.parts.encode_types.Given as goal

abbrev pub invariant-loop-k : goal.invariant-loop-k
invariant-loop-k g l = g.O.Output.gives (flat_map (λ i. shown (type_at l.numbering i)) (take l.k l.types)) l.initial.out l.out
