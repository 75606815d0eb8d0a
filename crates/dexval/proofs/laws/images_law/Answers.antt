use Rattle.dexval.proofs.Common.{value_uses, values_uses, set_uses}
use Rattle.dexval.proofs.Images.{uses_remapped}
use Rattle.dexval.proofs.Meanings.{value_mapped, values_mapped, set_mapped}
use Rattle.dexval.proofs.laws.images_law.Goals as goal

pub returns : goal.returns
returns c = record {
  value = λ m r x all known. value_mapped m r all x known;
  values = λ m r xs all known. values_mapped m r all xs known;
  set = λ m r xs all known. set_mapped m r all xs known;
  placed_value = λ r x. uses_remapped r (value_uses x);
  placed_values = λ r xs. uses_remapped r (values_uses xs);
  placed_set = λ r xs. uses_remapped r (set_uses xs);
}
