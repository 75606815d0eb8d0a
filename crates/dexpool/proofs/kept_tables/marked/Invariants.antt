use Rattle.dexpool.proofs.CutRows.{IsCutTo}
use Rattle.dexpool.proofs.kept_tables.marked.Given as goal

abbrev pub invariant-loop-i : goal.invariant-loop-i
invariant-loop-i g l = IsCutTo l.fn.rows.items l.marks l.i l.count l.rows.items
