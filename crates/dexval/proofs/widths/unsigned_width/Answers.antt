use Rattle.dexval.proofs.Common.{arith}
use Rattle.dexval.proofs.LowBytes.{log_width}
use Rattle.dexval.proofs.widths.unsigned_width.Goals as goal

pub returns-clause-width : goal.returns-clause-width
returns-clause-width c = log_width c.args.value c.ilog2.result (omega (arith, c.max.ensures, c.ilog2.ensures.power_le)) (omega (arith, c.max.ensures, c.ilog2.ensures.next_power_gt)) (omega (arith, c.ranges.value))
