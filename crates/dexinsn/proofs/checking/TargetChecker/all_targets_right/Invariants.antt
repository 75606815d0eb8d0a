use Rattle.dexinsn.proofs.Common.{ℕ, ◌<◌, ◌≤◌, ◌-◌, true, length, HasBit, HasTargetsAt}
use Rattle.dexinsn.proofs.checking.TargetChecker.all_targets_right.Given as goal

abbrev pub invariant-loop-unit : goal.invariant-loop-unit
invariant-loop-unit l = record { within : l.at ≤ length l.self.units.now; right : (k : ℕ) → k < l.at → HasBit l.self.noted.now k → HasTargetsAt l.self.units.now l.self.starts.now l.self.noted.now k true }

abbrev pub decreases-loop-unit : goal.decreases-loop-unit
decreases-loop-unit l = length l.self.units.now - l.at
