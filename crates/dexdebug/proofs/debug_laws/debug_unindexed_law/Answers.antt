use Rattle.dexdebug.proofs.DebugMeanings.{weights_are, positions_are}
use Rattle.dexdebug.proofs.debug_laws.debug_unindexed_law.Goals as goal

pub returns : goal.returns
returns c = record { weight = weights_are; positions = positions_are }
