use Rattle.dexpool.proofs.Common.{◌≡◌, ◌++◌, take}
use Rattle.dexpool.proofs.renumbering.push_numbers.Given as goal

abbrev pub invariant-loop-i : goal.invariant-loop-i
invariant-loop-i l = l.to.items ≡ l.fn.to.items ++ take l.i l.numbers
