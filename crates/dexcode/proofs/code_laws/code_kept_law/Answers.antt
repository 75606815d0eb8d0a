use Rattle.dexcode.proofs.Common.{are_marked}
use Rattle.dexcode.proofs.CodePlaces.{images_of_uses}
use Rattle.dexcode.proofs.KeptUses.{uses_kept}
use Rattle.dexcode.proofs.code_laws.code_kept_law.Goals as goal

pub returns : goal.returns
returns c = record { marked = are_marked; images = λ m marks r us are l all. uses_kept m marks r are l us all; code = images_of_uses }
