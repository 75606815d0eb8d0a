use Rattle.dexinsn.proofs.Fits.{uses_of_images, images_of_uses}
use Rattle.dexinsn.proofs.laws.images_law.Goals as goal

pub returns : goal.returns
returns c = λ r ps. (uses_of_images r ps, images_of_uses r ps)
