use Rattle.dexspec.proofs.Common.{drop}
use Rattle.dexspec.proofs.determined.OneText.{one_string_data}
use Rattle.dexlaws.proofs.items.texts.string_data_is_determined.Goals as goal

pub returns : goal.returns
returns c = λ b o. one_string_data (drop o b)
