use Rattle.std.proofs.Common.{rules, map, IsTrue, subst}
use Rattle.dexval.specs.Code.{value_of}
use Rattle.dexval.specs.Numbered.{values_of_list}
use Rattle.dexval.specs.Renumbering.{HavePlaces}
use Rattle.dexcases_items.proofs.item.Item.apply_remap.Goals as goal

pub renumber_values-requires : goal.renumber_values-requires
renumber_values-requires c =
    let fit : IsTrue c.values_fit.result = search rules in
    subst (λ values. HavePlaces c.args.remap.now (values_of_list (map value_of values))) c.deref.ensures.value (c.values_fit.ensures.0 fit)
