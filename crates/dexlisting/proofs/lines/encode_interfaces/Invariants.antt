use Rattle.std.proofs.Common.{take}
use Rattle.std.specs.List.{flat_map}
use Rattle.dexlisting.specs.Listing.{interface_line}
use Rattle.dexpool.specs.NumberedSymbols.{type_at}
use Rattle.dexlisting.proofs.lines.encode_interfaces.Given as goal

abbrev pub invariant-loop-k : goal.invariant-loop-k
invariant-loop-k g l = g.O.Output.gives (flat_map (λ i. interface_line (type_at l.numbering i)) (take l.k l.interfaces)) l.initial.out l.out
