use Rattle.dexcode.proofs.CodePlaces.{images_there, places_there}
use Rattle.dexcode.proofs.code_laws.code_places_law.Goals as goal

pub returns : goal.returns
returns c = record { images = images_there; places = places_there }
