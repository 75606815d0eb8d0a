use Rattle.dexcode.proofs.CodeSpellings.{code_weighs}
use Rattle.dexcode.proofs.code_laws.code_weight_law.Goals as goal

pub returns : goal.returns
returns c = code_weighs c.units_law.ensures
