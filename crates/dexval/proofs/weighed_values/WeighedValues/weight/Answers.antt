use Rattle.dexval.proofs.Common.{ℕ, ◌-◌, ◌^◌, ◌∙◌, min, ap, static_values_weight, values_in, values_of, NumberedValues}
use Rattle.dexval.proofs.Weights.{statics_weigh}
use Rattle.dexval.proofs.weighed_values.WeighedValues.weight.Goals as goal

pub returns : goal.returns
returns c = λ m. c.self.invariant.0 ∙ ap (λ (n : ℕ). min (2 ^ 64 - 1) n) (statics_weigh m (values_of c.self.inside.values.items)) ∙ ap (λ (xs : NumberedValues). min (2 ^ 64 - 1) (static_values_weight (values_in m xs))) c.self.view_is
