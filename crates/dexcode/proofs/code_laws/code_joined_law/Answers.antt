use Rattle.dexcode.proofs.CodePlaces.{code_joined}
use Rattle.dexcode.proofs.code_laws.code_joined_law.Goals as goal

pub returns : goal.returns
returns c = code_joined
