use Rattle.std.proofs.Common.{map, take}
use Rattle.std.specs.List.{flat_map}
use Rattle.dexclass.specs.Numbered.{definition_of}
use Rattle.dexlisting.specs.Listing.{chosen}
use Rattle.dexlisting.specs.Detailed.{lines_in}
use Rattle.dexout.specs.Output.{Adds}
use Rattle.dexlisting.proofs.listing.write_lines.Given as goal

abbrev pub invariant-loop-i : goal.invariant-loop-i
invariant-loop-i g l = Adds g.T.Target.gives g.T.Target.gives_prefix g.T.Target.has_failed (flat_map (lines_in l.detail) (chosen l.flags (take l.i (map (definition_of l.numbering) l.classes)))) l.initial.out l.out
