use Rattle.dexval.proofs.Common.{ℕ, ◌-◌, ◌^◌, ◌∙◌, min, ap, set_of, set_weight_in, NumberedSet}
use Rattle.dexval.proofs.Weights.{set_weight_is}
use Rattle.dexval.proofs.weighed_set.WeighedSet.weight.Goals as goal

pub returns : goal.returns
returns c = λ m. c.self.invariant ∙ ap (λ (n : ℕ). min (2 ^ 64 - 1) n) (set_weight_is m (set_of c.self.inside.set)) ∙ ap (λ (s : NumberedSet). min (2 ^ 64 - 1) (set_weight_in m s)) c.self.view_is
