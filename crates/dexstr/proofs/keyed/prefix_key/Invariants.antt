use Rattle.dexstr.proofs.Common.{◌≡◌, drop}
use Rattle.dexstr.specs.internal.Keys.{leading_number}
use Rattle.dexstr.proofs.keyed.prefix_key.Given as goal

abbrev pub invariant-loop-i : goal.invariant-loop-i
invariant-loop-i l = l.key ≡ leading_number (drop l.i l.first)
