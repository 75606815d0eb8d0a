use Rattle.dexexamples.proofs.WholeFrame.{frame}
use Rattle.dexexamples.proofs.accepted.frame.Goals as goal

pub returns : goal.returns
returns c = frame
