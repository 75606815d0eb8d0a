use Rattle.dexval.proofs.Common.{rules, set_of, set_in, set_weight}
use Rattle.dexval.proofs.Weights.{sets_weigh}
use Rattle.dexval.proofs.weight.parameter_sets_weight.Goals as goal

pub returns : goal.returns
returns c = λ m.
    sets_weigh m c.args.sets.now c.listed_weight.result c.listed_weight.ensures.none (λ some. c.listed_weight.ensures.some some (λ s. set_weight (set_in m (set_of s))) (λ s weight says. search rules))
