use Rattle.dexmerge.proofs.Common.{◌≡◌, ◌-◌, ◌^◌, min, take}
use Rattle.dexmerge.specs.{classes_of}
use Rattle.dexmerge.specs.internal.Amounts.{weight_over}
use Rattle.dexmerge.proofs.fitting.weight.Given as goal

abbrev pub invariant-loop-i : goal.invariant-loop-i
invariant-loop-i l = l.weight ≡ min (2 ^ 64 - 1) (weight_over l.numbering (take l.i (classes_of l.classes)))
