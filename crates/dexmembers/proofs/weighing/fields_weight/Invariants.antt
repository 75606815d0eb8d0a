use Rattle.dexmembers.proofs.Common.{◌≡◌, ◌-◌, ◌^◌, min, sum_by, take}
use Rattle.dexmembers.specs.{numbered_field_weight}
use Rattle.dexmembers.proofs.weighing.fields_weight.Given as goal

abbrev pub invariant-loop-i : goal.invariant-loop-i
invariant-loop-i l = l.weight ≡ min (2 ^ 64 - 1) (sum_by numbered_field_weight (take l.i l.fields))
