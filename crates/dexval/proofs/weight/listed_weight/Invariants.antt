use Rattle.dexval.proofs.Common.{◌≡◌, ◌+◌, ◌-◌, ◌^◌, ℕ, min, sum_by, take, FnReturnsAt}
use Rattle.dexval.proofs.weight.listed_weight.Given as goal

abbrev pub invariant-loop-item : goal.invariant-loop-item
invariant-loop-item g l = (weighs : _ → ℕ) → ((item : _) (weight : ℕ) → FnReturnsAt g.F.Fn l.weight_of item weight → weight ≡ min (2 ^ 64 - 1) (weighs item)) → l.weight ≡ min (2 ^ 64 - 1) (8 + sum_by (λ item. 4 + weighs item) (take l.item-index l.items))
