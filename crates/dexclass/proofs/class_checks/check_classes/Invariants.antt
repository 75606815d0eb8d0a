use Rattle.dexclass.proofs.Common.{◌<◌, ℕ, HasClass}
use Rattle.dexclass.specs.internal.Rows.{AreDefinedMarks}
use Rattle.dexclass.specs.internal.Checked.{AreCheckedLists}
use Rattle.dexclass.proofs.class_checks.check_classes.Given as goal

abbrev pub invariant-loop-r : goal.invariant-loop-r
invariant-loop-r l = record {
  marks : AreDefinedMarks l.frame l.r l.seen.items;
  checked : AreCheckedLists l.frame l.r l.checked;
  rows : (k : ℕ) → k < l.r → HasClass l.frame k;
}
