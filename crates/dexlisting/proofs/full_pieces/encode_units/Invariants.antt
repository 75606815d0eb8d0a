use Rattle.std.proofs.Common.{take}
use Rattle.dexlisting.specs.FullListing.{units_text}
use Rattle.dexlisting.proofs.full_pieces.encode_units.Given as goal

abbrev pub invariant-loop-i : goal.invariant-loop-i
invariant-loop-i g l = g.O.Output.gives (units_text (take l.i l.units)) l.initial.out l.out
