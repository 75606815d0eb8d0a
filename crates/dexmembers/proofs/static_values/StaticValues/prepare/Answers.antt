use Rattle.dexmembers.proofs.Common.{sym, subst}
use Rattle.dexval.specs.Renumbering.{HavePlaces}
use Rattle.dexmembers.proofs.static_values.StaticValues.prepare.Goals as goal

pub values_image-requires : goal.values_image-requires
values_image-requires c = subst (HavePlaces c.args.items.now) (sym c.in-Some.ensures) c.requires
