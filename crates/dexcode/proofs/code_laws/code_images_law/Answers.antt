use Rattle.dexcode.proofs.CodePlaces.{uses_of_images, images_of_uses}
use Rattle.dexcode.proofs.code_laws.code_images_law.Goals as goal

pub returns : goal.returns
returns c = λ r item. (uses_of_images r item, images_of_uses r item)
