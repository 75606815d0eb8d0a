use Rattle.dexinsn.proofs.Meanings.{units_are}
use Rattle.dexinsn.proofs.laws.units_law.Goals as goal

pub returns : goal.returns
returns c = units_are
