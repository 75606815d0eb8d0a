use Rattle.dexcode.proofs.CodeSpellings.{code_bytes_are}
use Rattle.dexcode.proofs.CodeSizes.{code_length}
use Rattle.dexcode.proofs.code_laws.code_bytes_law.Goals as goal

pub returns : goal.returns
returns c = record { bytes = code_bytes_are c.units_law.ensures; few = code_length }
