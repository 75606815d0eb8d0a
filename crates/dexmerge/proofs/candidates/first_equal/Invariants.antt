use Rattle.dexclass.proofs.FirstEqual.{AreFirstUpTo}
use Rattle.dexmerge.specs.{class_of}
use Rattle.dexmerge.proofs.candidates.first_equal.Given as goal

abbrev pub invariant-loop-i : goal.invariant-loop-i
invariant-loop-i l = AreFirstUpTo (λ c. (class_of c).interfaces) l.candidates l.firsts.items l.i
