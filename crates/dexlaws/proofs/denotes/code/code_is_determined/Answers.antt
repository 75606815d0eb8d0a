use Rattle.dexspec.proofs.determined.OneCode.{one_code_item}
use Rattle.dexlaws.proofs.denotes.code.code_is_determined.Goals as goal

pub returns : goal.returns
returns c = one_code_item
