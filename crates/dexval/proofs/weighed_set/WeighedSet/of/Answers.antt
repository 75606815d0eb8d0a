use Rattle.dexval.proofs.Common.{set_of}
use Rattle.dexval.proofs.Weights.{set_weighs_numbers}
use Rattle.dexval.proofs.weighed_set.WeighedSet.of.Goals as goal

pub invariant_of-result : goal.invariant_of-result
invariant_of-result c = set_weighs_numbers (set_of c.args.set) c.weight-weight.result c.weight-weight.ensures
