use Rattle.dexinsn.proofs.Meanings.{marks_there}
use Rattle.dexinsn.proofs.laws.marks_law.Goals as goal

pub returns : goal.returns
returns c = marks_there
