use Rattle.dexstr.proofs.Common.{drop}
use Rattle.dexstr.proofs.Outcomes.{from_place, exact}
use Rattle.dexstr.proofs.texts.Text.read.Goals as goal

pub returns-clause-only : goal.returns-clause-only
returns-clause-only c = (exact (drop c.args.at c.args.b.now) c.read_first.result (rw from_place at c.read_first.ensures.found) (rw from_place at c.read_first.ensures.fault)).only

pub returns-clause-fault : goal.returns-clause-fault
returns-clause-fault c = (exact (drop c.args.at c.args.b.now) c.read_first.result (rw from_place at c.read_first.ensures.found) (rw from_place at c.read_first.ensures.fault)).fault

pub returns-clause-none : goal.returns-clause-none
returns-clause-none c = (exact (drop c.args.at c.args.b.now) c.read_first.result (rw from_place at c.read_first.ensures.found) (rw from_place at c.read_first.ensures.fault)).none
