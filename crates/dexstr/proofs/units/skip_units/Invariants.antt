use Rattle.dexstr.proofs.Common.{length}
use Rattle.dexstr.proofs.Ascii.{Passed}
use Rattle.dexstr.proofs.units.skip_units.Given as goal

abbrev pub invariant-loop-after : goal.invariant-loop-after
invariant-loop-after l = Passed l.bytes l.count l.rest

abbrev pub decreases-loop-after : goal.decreases-loop-after
decreases-loop-after l = length l.rest

abbrev pub invariant-loop-after-2 : goal.invariant-loop-after-2
invariant-loop-after-2 l = Passed l.bytes l.count l.rest

abbrev pub decreases-loop-after-2 : goal.decreases-loop-after-2
decreases-loop-after-2 l = length l.rest

abbrev pub invariant-loop-after-3 : goal.invariant-loop-after-3
invariant-loop-after-3 l = Passed l.bytes l.count l.rest

abbrev pub decreases-loop-after-3 : goal.decreases-loop-after-3
decreases-loop-after-3 l = length l.rest
