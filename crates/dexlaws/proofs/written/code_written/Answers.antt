use Rattle.dexspec.proofs.written.CodeWritten as code
use Rattle.dexlaws.proofs.written.code_written.Goals as goal

pub returns : goal.returns
returns c = code.code_written
