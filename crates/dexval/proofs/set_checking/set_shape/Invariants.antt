use Rattle.dexval.proofs.Common.{◌+◌, ◌*◌, ◌^◌, ◌≤◌, uint_at, HasPools}
use Rattle.dexval.proofs.SetsChecked.{SetChecked}
use Rattle.dexval.proofs.set_checking.set_shape.Given as goal

abbrev pub invariant-loop-i : goal.invariant-loop-i
invariant-loop-i l = record { least_fits : l.least ≤ 2 ^ 32; light : l.weight ≤ 8 + 9663676420 * l.i; checked : HasPools l.frame l.fn.pools → SetChecked l.frame (l.off + 4) l.fn.pools (uint_at l.frame l.off) l.i l.least l.weight }
