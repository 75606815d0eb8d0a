use Rattle.dexruns.proofs.Common.{◌≡◌, drop, take, AllZip, IsReadNoFurther, AllWork}
use Rattle.dexruns.specs.internal.CopyTables.{HaveCopies}
use Rattle.dexruns.proofs.comparing.read_copies.Given as goal

-- the first i inputs are read, the table has the copies of their classes, the other readers are as they were, and none
-- has failed
abbrev pub invariant-loop-i : goal.invariant-loop-i
invariant-loop-i g l = record {
  readers : AllWork g.R.Source.has_failed l.inputs;
  rest : drop l.i l.inputs ≡ drop l.i l.fn.inputs;
  moved : AllZip (IsReadNoFurther g.R.Source.reports g.R.Source.to_come g.R.Source.has_failed) l.fn.inputs l.inputs;
  copies : HaveCopies g.R.Source.reports g.R.Source.to_come (take l.i l.fn.inputs) l.is_stripped l.table.classes;
}
