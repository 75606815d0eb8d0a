use Rattle.std.proofs.Common.{take}
use Rattle.std.specs.List.{flat_map}
use Rattle.dexval.specs.Code.{annotation_of}
use Rattle.dexval.specs.Numbered.{annotation_in}
use Rattle.dexlisting.specs.FullListing.{annotation_line}
use Rattle.dexlisting.proofs.values.encode_annotation_lines.Given as goal

abbrev pub invariant-loop-annotation : goal.invariant-loop-annotation
invariant-loop-annotation g l = g.O.Output.gives (flat_map (λ a. annotation_line l.blanks (annotation_in l.numbering (annotation_of a))) (take l.annotation-index l.annotations)) l.initial.out l.out
