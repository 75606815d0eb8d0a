use Rattle.dexinsn.proofs.Common.{◌≡◌, ◌+◌, ◌-◌, ◌*◌}
use Rattle.dexinsn.proofs.Keys.{do_rise}
use Rattle.dexinsn.proofs.payload.keys_rise.Given as goal

abbrev pub invariant-loop-i : goal.invariant-loop-i
invariant-loop-i l = do_rise l.units 2 l.size ≡ do_rise l.units (2 * l.i) (l.size + 1 - l.i)
