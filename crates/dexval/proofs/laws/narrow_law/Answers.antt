use Rattle.dexval.proofs.Common.{annotation_uses}
use Rattle.dexval.proofs.Images.{uses_placed, sets_placed}
use Rattle.dexval.proofs.laws.narrow_law.Goals as goal

pub returns-clause-annotation : goal.returns-clause-annotation
returns-clause-annotation c = λ r a within images. uses_placed r within (annotation_uses a) images

pub returns-clause-sets : goal.returns-clause-sets
returns-clause-sets c = λ r ss within images. sets_placed r within ss images
