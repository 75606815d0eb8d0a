use Rattle.dexclass.specs.internal.Rows.{AreDefinedMarks}
use Rattle.dexclass.proofs.class_types.defined.Given as goal

abbrev pub invariant-loop-r : goal.invariant-loop-r
invariant-loop-r l = AreDefinedMarks l.frame l.r l.marks.items
