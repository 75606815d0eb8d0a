use Rattle.dexspec.specs.Rows.{SymbolRow}
use Rattle.dexspec.specs.Code.{code_units}
use Rattle.dexspec.proofs.wellformed.BlankedCode.{blanked_code}
use Rattle.dexlaws.proofs.denotes.code.code_without_indices.Goals as goal

pub returns : goal.returns
returns c = record { code = λ b o cuts ps h. (blanked_code (SymbolRow b) (code_units b o) cuts ps h.code h.pieces).code; size = λ b o cuts ps h. (blanked_code (SymbolRow b) (code_units b o) cuts ps h.code h.pieces).size }
