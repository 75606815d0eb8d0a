use Rattle.dexrows.proofs.Common.{arith}
use Rattle.dexrows.proofs.merging.merge.Goals as goal

pub take_next-requires-clause-few : goal.take_next-requires-clause-few
take_next-requires-clause-few g c = omega (arith, c.loop-order.invariant.few, c.loop-order.invariant.merging.left_in.count, c.loop-order.invariant.merging.right_in.count)
