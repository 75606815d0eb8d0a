use Rattle.dexinsn.proofs.Common.{◌-◌, ◌*◌, length}
use Rattle.dexinsn.proofs.NextBits.{NoneUpTo}
use Rattle.dexinsn.proofs.start_bits.next_bit.Given as goal

abbrev pub invariant-loop-at : goal.invariant-loop-at
invariant-loop-at l = NoneUpTo l.words l.from l.at

abbrev pub decreases-loop-at : goal.decreases-loop-at
decreases-loop-at l = length l.words * 64 - l.at
