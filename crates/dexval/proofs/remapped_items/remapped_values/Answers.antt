use Rattle.dexval.proofs.Common.{rules, ◌≡◌, sym, subst}
use Rattle.dexval.specs.Renumbering.{HavePlaces}
use Rattle.dexval.proofs.remapped_items.remapped_values.Goals as goal

pub renumbered_copy-requires : goal.renumbered_copy-requires
renumbered_copy-requires c =
    let at : c.deref-5.result.now ≡ c.args.values.now.value = search rules in
    subst (HavePlaces c.args.remap.now) (sym at) c.requires
