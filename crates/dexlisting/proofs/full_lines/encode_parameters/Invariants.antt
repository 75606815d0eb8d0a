use Rattle.std.proofs.Common.{map, drop}
use Rattle.dexio.proofs.Encoded.{Completes}
use Rattle.dexval.specs.Numbered.{set_in}
use Rattle.dexlisting.specs.FullListing.{parameter_lines}
use Rattle.dexlisting.proofs.full_lines.encode_parameters.Given as goal

abbrev pub invariant-loop-i : goal.invariant-loop-i
invariant-loop-i g l = Completes g.O.Output.gives (parameter_lines l.i (map (set_in l.numbering) (drop l.i l.sets))) l.out (parameter_lines 0 (map (set_in l.numbering) l.sets)) l.initial.out
