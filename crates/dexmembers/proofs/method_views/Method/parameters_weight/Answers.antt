use Rattle.dexmembers.proofs.Common.{ap, sym, ◌∙◌, ◌-◌, ◌^◌, min, ℕ, Option, numbered_sets_weight, sets_at}
use Rattle.dexmembers.specs.{NumberedMethod, StoredMethod}
use Rattle.dexmembers.proofs.Weighed.{no_symbols, sets_are}
use Rattle.dexmembers.proofs.method_views.Method.parameters_weight.Goals as goal

pub returns : goal.returns
returns c =
    let table = c.self.inside.table.now in
    c.list_weight.ensures no_symbols ∙ ap (λ (n : ℕ). min (2 ^ 64 - 1) n) (sym (sets_are no_symbols (sets_at table c.get.result)))
    ∙ ap (λ (place : Option ℕ). min (2 ^ 64 - 1) (numbered_sets_weight (sets_at table place))) c.get.ensures
    ∙ ap (λ (x : StoredMethod). min (2 ^ 64 - 1) (numbered_sets_weight (sets_at table x.list))) c.method.view_is
    ∙ ap (λ (x : NumberedMethod). min (2 ^ 64 - 1) (numbered_sets_weight x.parameter_annotations)) c.self.view_is
