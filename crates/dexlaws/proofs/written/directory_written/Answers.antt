use Rattle.dexspec.proofs.written.DirectoriesWritten.{directory_written}
use Rattle.dexlaws.proofs.written.directory_written.Goals as goal

pub returns : goal.returns
returns c = directory_written
