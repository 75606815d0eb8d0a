use Rattle.dexstr.proofs.Outcomes.{from_place}
use Rattle.dexstr.proofs.UnitRuns.{run_more, run_none}
use Rattle.dexstr.proofs.runs.+run_from.Goals as goal

pub returns-in-Some-first_unit : goal.returns-in-Some-first_unit
returns-in-Some-first_unit t c = rw c.after_unit.ensures (run_more c.args.bytes.now c.args.left c.in-Some-first_unit.field-0-0 c.in-Some-first_unit.rest.now c.requires.left (rw from_place at c.in-Some-first_unit.ensures.found) c.run_from.result c.run_from.ensures)

pub returns-in-None : goal.returns-in-None
returns-in-None t c = run_none c.args.bytes.now c.args.left (rw from_place at c.in-None.ensures.none)
