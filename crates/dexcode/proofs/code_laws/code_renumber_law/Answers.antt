use Rattle.dexcode.proofs.CodeMeanings.{renumbered_denotes, images_of_places}
use Rattle.dexcode.proofs.code_laws.code_renumber_law.Goals as goal

pub returns : goal.returns
returns c = record { keeps = renumbered_denotes; places = images_of_places }
