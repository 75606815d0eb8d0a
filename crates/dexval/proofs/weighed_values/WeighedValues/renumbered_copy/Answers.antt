use Rattle.dexval.proofs.Common.{ℕ, ◌-◌, ◌^◌, ◌∙◌, min, ap, sym, subst, HavePlaces, values_of, values_uses}
use Rattle.dexval.specs.Spelled.{numbered_statics_weight}
use Rattle.dexval.proofs.Symbolless.{values_stay}
use Rattle.dexval.proofs.WeightsKept.{statics_kept}
use Rattle.dexval.proofs.weighed_values.WeighedValues.renumbered_copy.Goals as goal

pub renumbered_copies-requires : goal.renumbered_copies-requires
renumbered_copies-requires c = subst (HavePlaces c.args.remap.now) (sym c.self.view_is) c.requires

pub invariant_of-result : goal.invariant_of-result
invariant_of-result c =
    let r = c.args.remap.now in
    let old = values_of c.self.inside.values.items in
    let is = c.in_ok-renumbered_copies.ensures in
    let kept = ap numbered_statics_weight is ∙ statics_kept r old in
    (c.self.invariant.0 ∙ ap (λ (n : ℕ). min (2 ^ 64 - 1) n) (sym kept), λ none. let uses = c.self.invariant.1 none in ap values_uses (is ∙ values_stay r old uses) ∙ uses, tt)
