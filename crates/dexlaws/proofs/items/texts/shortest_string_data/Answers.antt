use Rattle.dexspec.proofs.determined.OneText.{string_data_is}
use Rattle.dexlaws.proofs.items.texts.shortest_string_data.Goals as goal

pub returns : goal.returns
returns c = string_data_is
