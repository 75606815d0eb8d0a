use Rattle.dexval.proofs.Common.{ℕ, List, Option, ◌-◌, ◌^◌, ◌∙◌, map, min, ap, rules, set_weight_in, sets_weight_in, set_at}
use Rattle.dexval.proofs.Weights.{places_weighed}
use Rattle.dexval.proofs.set_table.SetTable.list_weight.Goals as goal

pub returns : goal.returns
returns c = λ m.
    let sets = c.args.self.now.sets in
    places_weighed m sets c.list.result.now c.listed_weight.result c.listed_weight.ensures.none (λ some. c.listed_weight.ensures.some some (λ p. set_weight_in m (set_at sets p)) (λ p weight says. search rules))
    ∙ ap (λ (l : List (Option ℕ)). min (2 ^ 64 - 1) (sets_weight_in m (map (set_at sets) l))) c.list.ensures.list
