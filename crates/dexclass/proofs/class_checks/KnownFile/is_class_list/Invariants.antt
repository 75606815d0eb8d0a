use Rattle.dexclass.proofs.Common.{ℕ, ◌≤◌, ◌-◌}
use Rattle.dexclass.specs.internal.Rows.{AreDefinedMarks}
use Rattle.dexclass.specs.internal.Checked.{AreInterfacesIn, AreCheckedLists}
use Rattle.dexclass.proofs.class_checks.KnownFile.is_class_list.Given as goal

-- the numbers before this one are indices of interfaces
abbrev pub invariant-loop-start : goal.invariant-loop-start
invariant-loop-start l = record {
  after : l.list.start ≤ l.start;
  known : (r : ℕ) → AreDefinedMarks l.self.frame.now r l.self.seen.now → AreCheckedLists l.self.frame.now r l.checked → AreInterfacesIn l.self.frame.now r l.list.start l.start;
}

abbrev pub decreases-loop-start : goal.decreases-loop-start
decreases-loop-start l = l.list.end - l.start
