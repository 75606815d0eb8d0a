use Rattle.dexcode.proofs.CodeMeanings.{uses_encoded, marks_there}
use Rattle.dexcode.proofs.code_laws.code_uses_law.Goals as goal

pub returns : goal.returns
returns c = record { uses = uses_encoded; marks = marks_there }
