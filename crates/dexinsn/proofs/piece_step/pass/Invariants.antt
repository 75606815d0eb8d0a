use Rattle.dexinsn.proofs.Common.{◌-◌, length, ArePassed}
use Rattle.dexinsn.proofs.piece_step.pass.Given as goal

abbrev pub invariant-loop-at : goal.invariant-loop-at
invariant-loop-at l = ArePassed l.units l.pools l.starts.items l.noted.items l.at l.indices

abbrev pub decreases-loop-at : goal.decreases-loop-at
decreases-loop-at l = length l.units - l.at
