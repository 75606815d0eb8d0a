use Rattle.dexmembers.proofs.Common.{All, HasPlaces, ap, subst}
use Rattle.dexmembers.specs.HeldCodes.{codes_in}
use Rattle.dexmembers.proofs.held_codes.HeldCodes.renumber.Goals as goal

pub renumber-requires : goal.renumber-requires
renumber-requires c = subst (All (HasPlaces c.args.remap.now)) (ap codes_in c.in-Own.is) c.requires.places
