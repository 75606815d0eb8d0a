use Rattle.dexval.proofs.Common.{annotation_of, renumbered_annotation}
use Rattle.dexval.proofs.Renumbered.{AreRemapped}
use Rattle.dexval.proofs.set.AnnotationSet.renumber.Given as goal

abbrev pub invariant-loop-i : goal.invariant-loop-i
invariant-loop-i l = AreRemapped annotation_of (renumbered_annotation l.remap) l.i l.initial.self.annotations.items l.self.annotations.items
