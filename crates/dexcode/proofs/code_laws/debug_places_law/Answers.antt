use Rattle.dexcode.proofs.Common.{debug_uses}
use Rattle.dexcode.proofs.CodePlaces.{debug_cut, uses_joined}
use Rattle.dexcode.proofs.code_laws.debug_places_law.Goals as goal

pub returns : goal.returns
returns c = record { cut = debug_cut; joined = λ r d. uses_joined r (debug_uses d) }
