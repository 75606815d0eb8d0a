use Rattle.dexclass.proofs.Common.{ℕ}
use Rattle.dexclass.specs.internal.Rows.{AreDefinedMarks}
use Rattle.dexclass.specs.internal.Checked.{AreInterfacesIn}
use Rattle.dexclass.proofs.class_checks.KnownFile.are_interfaces.Given as goal

abbrev pub invariant-loop-i : goal.invariant-loop-i
invariant-loop-i l = (r : ℕ) → AreDefinedMarks l.self.frame.now r l.self.seen.now → AreInterfacesIn l.self.frame.now r l.fn.range.start l.i
