use Rattle.dexspec.proofs.written.DebugWritten.{operation_written, debug_written}
use Rattle.dexlaws.proofs.written.debug_written.Goals as goal

pub returns : goal.returns
returns c = record { operation = operation_written; program = debug_written }
