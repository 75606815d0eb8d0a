use Rattle.dexcode.proofs.CodePlaces.{code_cut}
use Rattle.dexcode.proofs.code_laws.code_cut_law.Goals as goal

pub returns : goal.returns
returns c = code_cut
