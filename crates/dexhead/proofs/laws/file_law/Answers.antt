use Rattle.dexhead.proofs.LaidOut.{whole_file, stated_file}
use Rattle.dexhead.proofs.laws.file_law.Goals as goal

pub returns-clause-set : goal.returns-clause-set
returns-clause-set c = whole_file

pub returns-clause-reported : goal.returns-clause-reported
returns-clause-reported c = stated_file
