use Rattle.std.proofs.lemmas.Grind.{common_steps}
use Rattle.dexmembers.proofs.Common.{◌≡◌, arith, ap, sym, ◌∙◌, ◌-◌, ◌^◌, min, ℕ, set_at, set_weight_is, numbered_set_weight, numbered_statics_weight, statics_weigh}
use Rattle.dexmembers.specs.StaticValues.{values_in}
use Rattle.dexmembers.proofs.Weighed.{no_symbols}
use Rattle.dexmembers.proofs.members.Contents.weight_with.Goals as goal

pub returns : goal.returns
returns c =
    let set = set_at c.args.self.now.table.sets c.args.self.now.set in
    let values = values_in c.args.self.now.static_values in
    let own : c.set_weight.result ≡ min (2 ^ 64 - 1) (numbered_set_weight set) = c.set_weight.ensures no_symbols ∙ ap (λ (n : ℕ). min (2 ^ 64 - 1) n) (sym (set_weight_is no_symbols set)) in
    let statics : c.weight.result ≡ min (2 ^ 64 - 1) (numbered_statics_weight values) = c.weight.ensures no_symbols ∙ ap (λ (n : ℕ). min (2 ^ 64 - 1) n) (sym (statics_weigh no_symbols values)) in
    grind (arith, common_steps)
