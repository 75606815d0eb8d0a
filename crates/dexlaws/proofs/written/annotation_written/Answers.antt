use Rattle.dexspec.proofs.written.ValuesWritten.{annotation_written}
use Rattle.dexlaws.proofs.written.annotation_written.Goals as goal

pub returns : goal.returns
returns c = annotation_written
