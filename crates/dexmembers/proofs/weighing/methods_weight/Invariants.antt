use Rattle.dexmembers.proofs.Common.{◌≡◌, ◌-◌, ◌^◌, min, sum_by, take}
use Rattle.dexmembers.specs.{own_method_weight}
use Rattle.dexmembers.proofs.weighing.methods_weight.Given as goal

abbrev pub invariant-loop-i : goal.invariant-loop-i
invariant-loop-i l = l.weight ≡ min (2 ^ 64 - 1) (sum_by own_method_weight (take l.i l.methods))
