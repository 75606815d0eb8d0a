use Rattle.dexdebug.proofs.Common.{◌-◌, length}
use Rattle.dexdebug.proofs.DebugRuns.{OperationsChecked}
use Rattle.dexdebug.proofs.debug_reading.DebugReader.check_operations.Given as goal

abbrev pub invariant-loop-at : goal.invariant-loop-at
invariant-loop-at l = OperationsChecked l.self.counts l.self.bytes.now l.from l.at l.operations l.indices l.weight

abbrev pub decreases-loop-at : goal.decreases-loop-at
decreases-loop-at l = length l.self.bytes.now - l.at
