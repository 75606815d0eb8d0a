use Rattle.dexclass.proofs.Common.{take, flat_map, AreMarksOf}
use Rattle.dexclass.specs.{HaveMarked, class_uses}
use Rattle.dexclass.proofs.trimming.marked.Given as goal

abbrev pub invariant-loop-i : goal.invariant-loop-i
invariant-loop-i l = record {
  count : AreMarksOf l.numbering l.marks;
  marked : HaveMarked (flat_map class_uses (take l.i l.classes)) l.marks;
}
