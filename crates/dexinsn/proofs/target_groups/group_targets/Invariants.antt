use Rattle.dexinsn.proofs.TargetGroups.{AreGroupedTo}
use Rattle.dexinsn.proofs.target_groups.group_targets.Given as goal

abbrev pub invariant-loop-i : goal.invariant-loop-i
invariant-loop-i l = AreGroupedTo l.targets l.i l.groups.items l.group
