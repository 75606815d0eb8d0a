use Rattle.dexinsn.proofs.Fits.{places_after_cut}
use Rattle.dexinsn.proofs.laws.cut_places_law.Goals as goal

pub returns : goal.returns
returns c = places_after_cut
