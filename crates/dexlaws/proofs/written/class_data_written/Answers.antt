use Rattle.dexspec.proofs.written.ClassDataWritten.{class_data_written}
use Rattle.dexlaws.proofs.written.class_data_written.Goals as goal

pub returns : goal.returns
returns c = class_data_written
