use Rattle.dexexamples.proofs.WholeLate.{accepted}
use Rattle.dexexamples.proofs.accepted.accepted.Goals as goal

pub returns : goal.returns
returns c = accepted
