use Rattle.dexruns.proofs.Common.{refl}
use Rattle.dexruns.proofs.Moved.{accepted_is}
use Rattle.dexruns.proofs.checking.check_file.Goals as goal

pub returns-in-Ok-clause-verdict : goal.returns-in-Ok-clause-verdict
returns-in-Ok-clause-verdict c = accepted_is c.args.bytes.now c.in-Ok.classes c.in-Ok.ensures.accepted

pub returns-in-Err-Memory-clause-memory : goal.returns-in-Err-Memory-clause-memory
returns-in-Err-Memory-clause-memory c = (refl, c.in-Err-Memory.ensures.memory c.in-Err-Memory.field-0-is)
