use Rattle.dexspec.proofs.determined.OneCode.{one_cut}
use Rattle.dexlaws.proofs.denotes.code.cut_is_determined.Goals as goal

pub returns : goal.returns
returns c = one_cut
