use Rattle.dexstr.proofs.Common.{arith}
use Rattle.dexstr.proofs.Counting.{spelled_length}
use Rattle.dexstr.proofs.texts.Text.item_len.Goals as goal

pub returns-clause-bound : goal.returns-clause-bound
returns-clause-bound c = omega (arith, c.len.ensures.len, c.len_u.ensures.bounds, spelled_length c.bytes.result.now c.args.self.now c.bytes.ensures.spelled.spelled c.bytes.ensures.units)
