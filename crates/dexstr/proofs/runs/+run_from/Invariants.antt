use Rattle.dexstr.proofs.runs.+run_from.Given as goal

abbrev pub decreases-run_from : goal.decreases-run_from
decreases-run_from l = l.left
