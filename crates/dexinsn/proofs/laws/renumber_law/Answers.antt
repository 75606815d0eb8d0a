use Rattle.dexinsn.proofs.Meanings.{renumbered_denote, images_of_places}
use Rattle.dexinsn.proofs.laws.renumber_law.Goals as goal

pub returns : goal.returns
returns c = record { keeps = renumbered_denote; places = images_of_places }
