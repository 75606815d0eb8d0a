use Rattle.dexval.proofs.Common.{value_of}
use Rattle.dexval.proofs.Spelling.{value_put_is}
use Rattle.dexval.proofs.put.put_value.Goals as goal

pub returns-clause-symbolic : goal.returns-clause-symbolic
returns-clause-symbolic c = value_put_is c.args.numbering.now (value_of c.args.value.now) c.is_numbering.ensures.rising c.put_encoded.ensures
