use Rattle.dexval.proofs.Meanings.{value_keeps, values_keep, set_keeps}
use Rattle.dexval.proofs.laws.renumber_law.Goals as goal

pub returns : goal.returns
returns c = record { value = value_keeps; values = values_keep; set = set_keeps }
