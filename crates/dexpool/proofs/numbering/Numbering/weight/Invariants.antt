use Rattle.dexpool.proofs.Common.{◌-◌, ◌+◌, ◌*◌, ◌≡◌, ◌^◌, min, sum_by, take, text_weight}
use Rattle.dexpool.proofs.numbering.Numbering.weight.Given as goal

abbrev pub invariant-loop-text : goal.invariant-loop-text
invariant-loop-text l = l.weight ≡ min (2 ^ 64 - 1) (l.initial.weight + sum_by text_weight (take l.text-index l.text-items))

abbrev pub invariant-loop-proto : goal.invariant-loop-proto
invariant-loop-proto l = l.weight ≡ min (2 ^ 64 - 1) (l.initial.weight + sum_by (λ p. 20 + 2 * (p.parameters.end - p.parameters.start)) (take l.proto-index l.proto-items))
