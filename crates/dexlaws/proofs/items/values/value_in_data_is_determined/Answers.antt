use Rattle.dexspec.proofs.determined.OneValue.{one_value, one_array}
use Rattle.dexlaws.proofs.items.values.value_in_data_is_determined.Goals as goal

pub returns : goal.returns
returns c = record { value = λ b o v w n k h g. one_value b o v w n k h.1 g.1; array = λ b o vs ws n k h g. one_array b o vs ws n k h.array g.array }
