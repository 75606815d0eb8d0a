use Rattle.dexinsn.proofs.Common.{inl, inr, subst, Bool, cases_lt, HasTargetsAt}
use Rattle.dexinsn.proofs.NotedTargets.{all_right, one_wrong}
use Rattle.dexinsn.proofs.checking.TargetChecker.all_targets_right.Goals as goal

pub returns-then-not-piece_targets_right : goal.returns-then-not-piece_targets_right
returns-then-not-piece_targets_right c = one_wrong c.args.self.now.units.now c.args.self.now.starts.now c.args.self.now.noted.now c.in-Some.unit c.in-Some.ensures.has (subst (λ (b : Bool). HasTargetsAt c.args.self.now.units.now c.args.self.now.starts.now c.args.self.now.noted.now c.in-Some.unit b) c.if-not-piece_targets_right.true c.piece_targets_right.ensures)

pub returns : goal.returns
returns c = all_right c.args.self.now.units.now c.args.self.now.starts.now c.args.self.now.noted.now (λ k has. elim (cases_lt k c.loop-unit.at) [
  | inl below ↦ c.loop-unit.invariant.right k below has
  | inr beyond ↦ absurd (c.in_default.ensures k beyond has)
])
