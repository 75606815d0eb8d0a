use Rattle.dexexamples.proofs.WholeRefused.{changed_refused, cut_refused, later_refused}
use Rattle.dexexamples.proofs.accepted.refused.Goals as goal

pub returns-clause-changed : goal.returns-clause-changed
returns-clause-changed c = changed_refused

pub returns-clause-cut : goal.returns-clause-cut
returns-clause-cut c = cut_refused

pub returns-clause-later : goal.returns-clause-later
returns-clause-later c = later_refused
