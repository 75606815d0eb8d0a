use Rattle.dexinsn.proofs.Meanings.{uses_encoded}
use Rattle.dexinsn.proofs.laws.uses_law.Goals as goal

pub returns : goal.returns
returns c = uses_encoded
