use Rattle.dexinsn.proofs.Common.{◌≡◌, ℤ, true, w32, sym, subst, ◌↔◌, to_z-of_z, AllFrom}
use Rattle.dexinsn.proofs.TargetGroups.{one_target}
use Rattle.dexinsn.proofs.target_group.TargetGroup.of.Goals as goal

pub returns : goal.returns
returns c = λ test.
    subst (λ (z : ℤ). AllFrom test z 1 ↔ (test c.args.first ≡ true)) (sym (to_z-of_z w32 c.args.first c.ranges.first)) (one_target test c.args.first)
