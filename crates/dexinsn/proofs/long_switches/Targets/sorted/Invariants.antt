use Rattle.dexinsn.proofs.Common.{◌≡◌, ◌+◌, ◌-◌, ◌*◌, ◌++◌, ints_in}
use Rattle.dexinsn.proofs.long_switches.Targets.sorted.Given as goal

abbrev pub invariant-loop-i : goal.invariant-loop-i
invariant-loop-i l = ints_in l.units l.self.first l.self.count ≡ l.sorted.items ++ ints_in l.units (l.self.first + 2 * l.i) (l.self.count - l.i)
