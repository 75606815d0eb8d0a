use Rattle.dexdebug.proofs.DebugMeanings.{renumbered_denotes, images_of_places}
use Rattle.dexdebug.proofs.debug_laws.debug_renumber_law.Goals as goal

pub returns : goal.returns
returns c = record { keeps = renumbered_denotes; places = images_of_places }
