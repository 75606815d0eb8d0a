use Rattle.dexclass.proofs.FirstEqual.{AreFirstUpTo}
use Rattle.dexclass.proofs.equal_lists.first_equal.Given as goal

abbrev pub invariant-loop-i : goal.invariant-loop-i
invariant-loop-i l = AreFirstUpTo (λ c. c.interfaces) l.classes l.firsts.items l.i
