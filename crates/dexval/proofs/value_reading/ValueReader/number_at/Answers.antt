use Rattle.dexval.proofs.Refusals.{found_or, held_or, refused_or}
use Rattle.dexval.proofs.value_reading.ValueReader.number_at.Goals as goal

pub returns-clause-found : goal.returns-clause-found
returns-clause-found c = rw c.ok_or.ensures.value (found_or _ _ c.number_at.result _ c.number_at.ensures.found)

pub returns-clause-within : goal.returns-clause-within
returns-clause-within c = rw c.ok_or.ensures.value (held_or _ c.number_at.result _ c.number_at.ensures.within)

pub returns-clause-refused : goal.returns-clause-refused
returns-clause-refused c = rw (c.ok_or.ensures.value, c.refusal.ensures) (refused_or _ _ c.number_at.result c.args.self.now.number c.number_at.ensures.found)
