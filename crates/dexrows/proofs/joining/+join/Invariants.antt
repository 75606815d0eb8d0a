use Rattle.dexrows.proofs.Common.{length}
use Rattle.dexrows.proofs.joining.+join.Given as goal

abbrev pub decreases-join : goal.decreases-join
decreases-join g l = length l.parts.now
