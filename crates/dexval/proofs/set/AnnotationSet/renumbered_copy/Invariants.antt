use Rattle.dexval.proofs.Common.{annotation_of, renumbered_annotation}
use Rattle.dexval.proofs.RenumberedCopies.{AreCopied}
use Rattle.dexval.proofs.set.AnnotationSet.renumbered_copy.Given as goal

abbrev pub invariant-loop-annotation : goal.invariant-loop-annotation
invariant-loop-annotation l = AreCopied annotation_of (renumbered_annotation l.remap) l.annotation-index l.self.annotations.items l.annotations
