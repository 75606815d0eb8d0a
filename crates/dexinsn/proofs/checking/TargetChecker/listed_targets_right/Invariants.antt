use Rattle.dexinsn.proofs.Common.{◌≡◌, ◌+◌, ◌-◌, ◌*◌, List, Cut, ints_in, are_right_targets, AreBitsOf, begins_instruction}
use Rattle.dexinsn.proofs.checking.TargetChecker.listed_targets_right.Given as goal

abbrev pub invariant-loop-i : goal.invariant-loop-i
invariant-loop-i l = (cs : List Cut) → AreBitsOf begins_instruction l.self.units.now cs l.self.starts.now → are_right_targets l.self.units.now cs l.at (ints_in l.self.units.now l.first l.count) ≡ are_right_targets l.self.units.now cs l.at (ints_in l.self.units.now (l.first + 2 * l.i) (l.count - l.i))
