use Rattle.dexinsn.proofs.Common.{Ok, rules, nil_from_length, Empty}
use Rattle.dexinsn.proofs.Once.{reported, only_fault, returned_all}
use Rattle.dexinsn.proofs.code.split.Goals as goal

pub returns-then-is_empty-clause-only : goal.returns-then-is_empty-clause-only
returns-then-is_empty-clause-only c = λ answer. only_fault c.args.units.now c.into.result answer (reported c.args.units.now Empty c.into.result (nil_from_length c.args.units.now (search rules)) c.into.ensures)

pub returns-in_err-split_units-clause-only : goal.returns-in_err-split_units-clause-only
returns-in_err-split_units-clause-only c = λ answer. returned_all c.args.units.now c.from_residual.result answer (search rules) (search rules)

pub returns-clause-only : goal.returns-clause-only
returns-clause-only c = λ answer. returned_all c.args.units.now (Ok c.in_ok-split_units.field-0) answer (rw c.of_numbers.ensures at c.in_ok-split_units.ensures.code) tt
