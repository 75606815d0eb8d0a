use Rattle.dexpool.proofs.Common.{◌≡◌, ◌++◌, map, take, drop, lower_of}
use Rattle.dexpool.proofs.renumbering.renumbered_rows.Given as goal

abbrev pub invariant-loop-i : goal.invariant-loop-i
invariant-loop-i g l = l.rows.items ≡ map (g.R.Row.mapped (lower_of l.lower)) (take l.i l.fn.rows.items) ++ drop l.i l.fn.rows.items
