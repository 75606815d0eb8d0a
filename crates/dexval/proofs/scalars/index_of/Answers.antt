use Rattle.dexval.proofs.Common.{arith}
use Rattle.dexval.proofs.scalars.index_of.Goals as goal

pub overflow_cast-index : goal.overflow_cast-index
overflow_cast-index c = omega (arith, c.unsigned-index.ensures.room 4 c.requires.few)
