use Rattle.dexclass.proofs.Common.{◌+◌, ◌-◌, ◌≡◌, ◌^◌, min, sum_by, take, mentions_weight, body_weight}
use Rattle.dexclass.specs.{definition_of}
use Rattle.dexclass.proofs.programs.weight_of.Given as goal

abbrev pub invariant-loop-class : goal.invariant-loop-class
invariant-loop-class l = l.weight ≡ min (2 ^ 64 - 1) (1024 + mentions_weight l.numbering + sum_by (λ c. body_weight (definition_of l.numbering c).1) (take l.class-index l.classes))
