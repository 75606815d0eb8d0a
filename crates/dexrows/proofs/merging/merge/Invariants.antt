use Rattle.dexrows.proofs.Common.{length, ◌+◌, ◌-◌, ◌≤◌}
use Rattle.dexrows.specs.internal.Merge.{IsMerging}
use Rattle.dexrows.proofs.merging.merge.Given as goal

abbrev pub invariant-loop-order : goal.invariant-loop-order
invariant-loop-order g l = record {
  merging : IsMerging g.R.Row.key_of l.left l.right l.merged.rows.items l.merged.left_places.items l.merged.right_places.items;
  few : length l.merged.rows.items ≤ length l.merged.left_places.items + length l.merged.right_places.items;
}

abbrev pub decreases-loop-order : goal.decreases-loop-order
decreases-loop-order g l = (length l.left + length l.right) - (length l.merged.left_places.items + length l.merged.right_places.items)
