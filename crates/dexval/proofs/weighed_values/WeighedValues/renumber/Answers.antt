use Rattle.dexval.proofs.Common.{ℕ, ◌-◌, ◌^◌, ◌∙◌, min, ap, sym, subst, HavePlaces, renumbered_values, values_of}
use Rattle.dexval.specs.Spelled.{numbered_statics_weight}
use Rattle.dexval.proofs.Symbolless.{values_stay}
use Rattle.dexval.proofs.WeightsKept.{statics_kept}
use Rattle.dexval.proofs.weighed_values.WeighedValues.renumber.Goals as goal

pub renumber_values-requires : goal.renumber_values-requires
renumber_values-requires c = subst (HavePlaces c.args.remap.now) (sym c.self.view_is) c.requires

pub invariant_of-self : goal.invariant_of-self
invariant_of-self c =
    let weight = λ (n : ℕ). min (2 ^ 64 - 1) n in
    let kept = ap numbered_statics_weight c.renumber_values.ensures ∙ statics_kept c.args.remap.now (values_of c.self.inside.values.items) in
    let named = c.if-self.true in
    (c.self.invariant.0 ∙ ap weight (sym kept), λ none. absurd cc, tt)

pub returns-else-self : goal.returns-else-self
returns-else-self c =
    let r = c.args.remap.now in
    let stays = values_stay r (values_of c.self.inside.values.items) (c.self.invariant.1 c.if-self.false) in
    sym (ap (renumbered_values r) (sym c.self.view_is) ∙ stays ∙ c.self.view_is)
