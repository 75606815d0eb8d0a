use Rattle.dexmerge.proofs.Common.{take}
use Rattle.dexmerge.specs.internal.Amounts.{short_numbers}
use Rattle.dexmerge.specs.{classes_of, Decides}
use Rattle.dexmerge.proofs.fitting.greatest_short_string.Given as goal

-- the greatest of the first classes
abbrev pub invariant-loop-i : goal.invariant-loop-i
invariant-loop-i l = Decides l.greatest (short_numbers (take l.i (classes_of l.classes)))
