use Rattle.dexspec.proofs.written.HandlersWritten.{handler_written}
use Rattle.dexlaws.proofs.written.handler_written.Goals as goal

pub returns : goal.returns
returns c = handler_written
