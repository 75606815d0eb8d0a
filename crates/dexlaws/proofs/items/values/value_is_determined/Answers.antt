use Rattle.dexspec.proofs.determined.OneValue.{one_value}
use Rattle.dexlaws.proofs.items.values.value_is_determined.Goals as goal

pub returns : goal.returns
returns c = one_value
