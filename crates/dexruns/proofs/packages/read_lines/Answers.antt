use Rattle.dexruns.proofs.Moved.{none_moved}
use Rattle.dexruns.proofs.packages.read_lines.Goals as goal

pub returns-in_err-files-clause-no_further : goal.returns-in_err-files-clause-no_further
returns-in_err-files-clause-no_further g c = none_moved _ _ _ c.args.inputs.now
