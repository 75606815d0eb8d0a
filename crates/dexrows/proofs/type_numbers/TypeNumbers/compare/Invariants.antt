use Rattle.dexrows.proofs.Common.{◌≡◌, drop, key_cmp}
use Rattle.dexrows.proofs.type_numbers.TypeNumbers.compare.Given as goal

abbrev pub invariant-loop-i : goal.invariant-loop-i
invariant-loop-i l = key_cmp (drop l.i l.self) (drop l.i l.other) ≡ key_cmp l.self l.other
