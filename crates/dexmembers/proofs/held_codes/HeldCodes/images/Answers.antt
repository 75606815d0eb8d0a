use Rattle.dexmembers.proofs.Common.{All, HasPlaces, ap, subst}
use Rattle.dexmembers.specs.HeldCodes.{codes_in}
use Rattle.dexmembers.proofs.held_codes.HeldCodes.images.Goals as goal

pub image-requires : goal.image-requires
image-requires c = subst (All (HasPlaces c.args.remapped.now)) (ap codes_in c.in-Shared.is) c.requires
