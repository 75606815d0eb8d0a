use Rattle.dexspec.proofs.determined.OneValue.{one_array}
use Rattle.dexlaws.proofs.items.values.encoded_array_is_determined.Goals as goal

pub returns : goal.returns
returns c = one_array
