use Rattle.dexrows.proofs.Common.{take}
use Rattle.dexrows.specs.Join.{AreSorted}
use Rattle.dexrows.proofs.sort_order.is_sorted.Given as goal

abbrev pub invariant-loop-i : goal.invariant-loop-i
invariant-loop-i g l = AreSorted g.R.Row.key_of (take l.i l.rows)
