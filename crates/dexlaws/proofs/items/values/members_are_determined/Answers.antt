use Rattle.dexspec.proofs.determined.OneValue.{one_values, one_elements}
use Rattle.dexlaws.proofs.items.values.members_are_determined.Goals as goal

pub returns : goal.returns
returns c = record { values = one_values; elements = one_elements }
