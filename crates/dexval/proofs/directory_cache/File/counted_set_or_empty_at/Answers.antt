use Rattle.dexval.proofs.Common.{Some, [], arith, SetAt, OrNone, set_weight, set_at}
use Rattle.dexval.proofs.DirectoryRead.{empty_set, some_set, set_or_empty_part}
use Rattle.dexval.proofs.Refusals.{err_is, none_counted, part_refused}
use Rattle.dexval.proofs.directory_cache.File.counted_set_or_empty_at.Goals as goal

pub returns-then-off-eq0-clause-read : goal.returns-then-off-eq0-clause-read
returns-then-off-eq0-clause-read c = λ p. record { is_read = empty_set c.args.self.now.frame.now c.args.off c.args.self.now.pools.now c.if-off-eq0.true; counted = none_counted c.args.kept.now.budget }

pub returns-in_err-counted_set_at-clause-refused : goal.returns-in_err-counted_set_at-clause-refused
returns-in_err-counted_set_at-clause-refused c = λ p.
    let b = c.args.self.now.frame.now in
    let off = c.args.off in
    let budget = c.args.kept.now.budget in
    rw (err_is c.from_residual.result c.from_residual.ensures.1) (part_refused (OrNone SetAt [] b off) (SetAt b off) set_weight set_weight budget budget 0 (none_counted budget) (set_or_empty_part b off (omega arith)) c.in_err-counted_set_at.field-0.0 (c.in_err-counted_set_at.ensures.refused p))

pub returns-clause-read : goal.returns-clause-read
returns-clause-read c = λ p.
    let h = c.in_ok-counted_set_at.ensures.read p in
    record { is_read = some_set c.args.self.now.frame.now c.args.off c.args.self.now.pools.now (set_at c.counted_set_at.new.kept.cache.table.sets (Some c.in_ok-counted_set_at.field-0)) (omega arith) h.is_read; counted = h.counted }
