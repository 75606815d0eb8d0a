use Rattle.dexval.proofs.Common.{Some, arith, SetAt, set_weight, one_set, set_in, set_at}
use Rattle.dexval.proofs.Keeping.{counts_as}
use Rattle.dexval.proofs.Refusals.{err_is, refuses_so, refused_within, item_refused}
use Rattle.dexval.proofs.directory_cache.File.counted_set_at.Goals as goal

pub returns-in_err-place-clause-refused : goal.returns-in_err-place-clause-refused
returns-in_err-place-clause-refused c = λ p.
    let b = c.args.self.now.frame.now in
    let fault = c.in_err-place.field-0.0 in
    rw (err_is c.from_residual.result c.from_residual.ensures.1) (refused_within (SetAt b c.args.off) set_weight c.args.kept.now.budget.weight c.args.kept.now.budget.most (λ none. none) fault (refuses_so 22 (λ none. none) fault (c.in_err-place.ensures.refused p)))

pub returns-in_err-add-clause-refused : goal.returns-in_err-add-clause-refused
returns-in_err-add-clause-refused c = λ p.
    let b = c.args.self.now.frame.now in
    let m = c.args.self.now.pools.now in
    let off = c.args.off in
    let set = set_at c.cached_set_at.new.cache.table.sets (Some c.in_ok-place.place) in
    rw (err_is c.from_residual-in_err-add.result c.from_residual-in_err-add.ensures.1) (item_refused (SetAt b off) set_weight c.args.kept.now.budget (set_in m set) c.set_weight.result (one_set b off) (c.in_ok-place.ensures.read p).at (c.set_weight.ensures m) c.in_err-add.field-0.0 c.in_err-add.ensures.refused)

pub returns-clause-read : goal.returns-clause-read
returns-clause-read c = λ p.
    record { is_read = c.in_ok-place.ensures.read p; counted = counts_as (omega (arith, c.set_weight.ensures c.args.self.now.pools.now)) c.in_ok-add.ensures.counted }
