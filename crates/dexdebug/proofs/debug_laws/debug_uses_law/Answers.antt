use Rattle.dexdebug.proofs.DebugMeanings.{uses_encoded, marks_there}
use Rattle.dexdebug.proofs.debug_laws.debug_uses_law.Goals as goal

pub returns : goal.returns
returns c = record { uses = uses_encoded; marks = marks_there }
