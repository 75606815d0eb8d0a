use Rattle.std.proofs.Common.{take}
use Rattle.std.specs.List.{flat_map}
use Rattle.dexval.specs.Numbered.{method_at}
use Rattle.dexmembers.specs.Numbered.{method_in}
use Rattle.dexlisting.specs.FullListing.{full_method_lines}
use Rattle.dexlisting.proofs.full_lines.encode_full_methods.Given as goal

abbrev pub invariant-loop-i : goal.invariant-loop-i
invariant-loop-i g l = g.O.Output.gives (flat_map (λ x. full_method_lines (method_at l.numbering x.number).class l.words (method_in l.numbering x)) (take l.i l.methods)) l.initial.out l.out
