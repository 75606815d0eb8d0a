use Rattle.dexpool.proofs.Common.{◌≡◌, ◌++◌, drop, kept}
use Rattle.dexpool.proofs.kept_tables.marked_copy.Given as goal

abbrev pub invariant-loop-i : goal.invariant-loop-i
invariant-loop-i g l = l.copy.items ++ kept (drop l.i l.marks) (drop l.i l.rows) ≡ kept l.marks l.rows
