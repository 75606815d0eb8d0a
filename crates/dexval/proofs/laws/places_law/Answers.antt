use Rattle.dexval.proofs.Common.{value_uses, values_uses, set_uses}
use Rattle.dexval.proofs.Images.{join_within, uses_placed}
use Rattle.dexval.proofs.Meanings.{value_mapped, values_mapped, set_mapped}
use Rattle.dexval.proofs.laws.places_law.Goals as goal

pub returns : goal.returns
returns c = record {
  value = λ m n r x maps_to all few known. uses_placed r (join_within n r (c.within_law.ensures m n r maps_to) few) (value_uses x) (value_mapped m r all x known);
  values = λ m n r xs maps_to all few known. uses_placed r (join_within n r (c.within_law.ensures m n r maps_to) few) (values_uses xs) (values_mapped m r all xs known);
  set = λ m n r xs maps_to all few known. uses_placed r (join_within n r (c.within_law.ensures m n r maps_to) few) (set_uses xs) (set_mapped m r all xs known);
}
