use Rattle.dexclass.proofs.StrippedPrograms.{stays_good}
use Rattle.dexclass.proofs.stripping.strip.Goals as goal

pub returns-in_err-copy-clause-good : goal.returns-in_err-copy-clause-good
returns-in_err-copy-clause-good c = stays_good c.args.program.now

pub returns-clause-good : goal.returns-clause-good
returns-clause-good c = stays_good c.args.program.now
