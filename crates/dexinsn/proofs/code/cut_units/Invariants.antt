use Rattle.dexinsn.proofs.Common.{◌-◌, length, cuts_of, AreCutWith}
use Rattle.dexinsn.proofs.code.cut_units.Given as goal

abbrev pub invariant-loop-at : goal.invariant-loop-at
invariant-loop-at l = AreCutWith l.units (cuts_of l.cuts.items) l.starts.items l.noted.items l.at

abbrev pub decreases-loop-at : goal.decreases-loop-at
decreases-loop-at l = length l.units - l.at
