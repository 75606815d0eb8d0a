use Rattle.dexpool.proofs.Common.{arith}
use Rattle.dexpool.proofs.numbering.Numbering.count_less.Goals as goal

pub returns-clause-less : goal.returns-clause-less
returns-clause-less g c = λ test agrees first. record { passing = c.loop-low.invariant.passing test agrees first; failing = λ i le lt. c.loop-low.invariant.failing test agrees first i (omega arith) lt }
