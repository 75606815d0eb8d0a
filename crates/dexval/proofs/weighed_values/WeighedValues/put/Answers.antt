use Rattle.dexval.proofs.Spelling.{array_put_is}
use Rattle.dexval.proofs.weighed_values.WeighedValues.put.Goals as goal

pub returns-clause-symbolic : goal.returns-clause-symbolic
returns-clause-symbolic c = array_put_is c.args.numbering.now c.args.self.now c.is_numbering.ensures.rising c.put_array.ensures
