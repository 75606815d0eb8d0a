use Rattle.dexinsn.proofs.Common.{◌-◌, length, ArePayloads}
use Rattle.dexinsn.proofs.long_switches.LongSwitches.find.Given as goal

abbrev pub invariant-loop-unit : goal.invariant-loop-unit
invariant-loop-unit l = ArePayloads l.units l.switches.groups

abbrev pub decreases-loop-unit : goal.decreases-loop-unit
decreases-loop-unit l = length l.units - l.at
