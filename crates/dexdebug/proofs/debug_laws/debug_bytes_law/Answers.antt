use Rattle.dexdebug.proofs.DebugMeanings.{bytes_are, bytes_few}
use Rattle.dexdebug.proofs.debug_laws.debug_bytes_law.Goals as goal

pub returns : goal.returns
returns c = record { bytes = bytes_are; few = bytes_few }
