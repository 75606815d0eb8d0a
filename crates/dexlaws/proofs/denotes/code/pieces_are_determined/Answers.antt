use Rattle.dexspec.proofs.determined.OneCode.{one_pieces}
use Rattle.dexlaws.proofs.denotes.code.pieces_are_determined.Goals as goal

pub returns : goal.returns
returns c = one_pieces
