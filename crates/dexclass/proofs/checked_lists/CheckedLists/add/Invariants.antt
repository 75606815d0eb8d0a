use Rattle.dexclass.proofs.checked_lists.CheckedLists.add.Given as goal
use Rattle.dexclass.proofs.Common.{◌≡◌}

-- nothing has changed yet
abbrev pub invariant-loop-i : goal.invariant-loop-i
invariant-loop-i l = l.self.ranges ≡ l.fn.self.ranges
