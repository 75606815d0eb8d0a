use Rattle.dexmembers.proofs.Common.{◌≡◌, ap, sym, subst, ◌∙◌}
use Rattle.dexval.specs.Renumbering.{HavePlaces, renumbered_values}
use Rattle.dexmembers.specs.StaticValues.{held_values, IsReadyHolder}
use Rattle.dexmembers.proofs.static_values.StaticValues.renumber.Goals as goal

pub renumber-requires : goal.renumber-requires
renumber-requires c = subst (HavePlaces c.args.remap.now) (ap held_values c.in-Own.is) c.requires.places

pub returns-in-Remapped : goal.returns-in-Remapped
returns-in-Remapped c =
    let ready = subst (IsReadyHolder c.args.remap.now) c.in-Remapped.is c.requires.ready in
    let moved : c.swap.new.x.value ≡ c.in-Remapped.image.value = ap (λ x. x.value) c.swap.ensures.x_after in
    moved ∙ ready ∙ ap (renumbered_values c.args.remap.now) (sym (ap held_values c.in-Remapped.is))
