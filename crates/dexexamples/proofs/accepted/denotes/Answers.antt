use Rattle.dexexamples.proofs.WholeLate.{denotes}
use Rattle.dexexamples.proofs.accepted.denotes.Goals as goal

pub returns : goal.returns
returns c = denotes
