use Rattle.std.proofs.Common.{take}
use Rattle.std.specs.List.{flat_map}
use Rattle.dexcode.specs.Numbered.{catch_meant}
use Rattle.dexlisting.specs.FullListing.{catch_line}
use Rattle.dexlisting.proofs.tries.encode_catches.Given as goal

abbrev pub invariant-loop-catch : goal.invariant-loop-catch
invariant-loop-catch g l = g.O.Output.gives (flat_map (λ c. catch_line (catch_meant l.numbering c)) (take l.catch-index l.catches)) l.initial.out l.out
