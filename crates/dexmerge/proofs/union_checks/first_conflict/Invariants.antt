use Rattle.dexmerge.specs.{classes_of}
use Rattle.dexmerge.proofs.ConflictLaws.{IsLeastTo}
use Rattle.dexmerge.proofs.union_checks.first_conflict.Given as goal

abbrev pub invariant-loop-i : goal.invariant-loop-i
invariant-loop-i l = IsLeastTo (classes_of l.candidates) l.places l.i l.least
