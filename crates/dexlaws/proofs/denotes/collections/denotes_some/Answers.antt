use Rattle.dexspec.proofs.determined.Denoted.{denotes_some}
use Rattle.dexlaws.proofs.denotes.collections.denotes_some.Goals as goal

pub returns : goal.returns
returns c = denotes_some
