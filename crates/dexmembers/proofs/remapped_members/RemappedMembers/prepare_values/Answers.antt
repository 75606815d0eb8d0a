use Rattle.dexmembers.proofs.Common.{Maps, subst, sym}
use Rattle.dexval.specs.Renumbering.{HavePlaces}
use Rattle.dexmembers.specs.StaticValues.{values_in}
use Rattle.dexmembers.proofs.remapped_members.RemappedMembers.prepare_values.Goals as goal

pub prepare-requires : goal.prepare-requires
prepare-requires c = subst (λ (r : Maps). HavePlaces r (values_in c.args.values.now)) (sym c.self.view_is) c.requires
