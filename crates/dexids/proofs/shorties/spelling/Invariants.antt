use Rattle.dexids.proofs.Common.{◌≡◌, take, letters_in}
use Rattle.dexids.proofs.shorties.spelling.Given as goal

abbrev pub invariant-loop-i : goal.invariant-loop-i
invariant-loop-i l = l.spelled.items ≡ letters_in l.letters (take l.i l.numbers)
