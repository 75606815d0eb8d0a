use Rattle.dexval.proofs.Common.{[], refl, sym, arith, CheckedSets, IsSetOrEmptyAt, set_weight_in, IsSetAt}
use Rattle.dexval.proofs.DirectoryRead.{empty_set, some_set, no_set}
use Rattle.dexval.proofs.DirectoryChecked.{weighed_as, set_weighed, set_added}
use Rattle.dexval.proofs.Refusals.{err_is, refuses_so}
use Rattle.dexval.proofs.directory_cache.File.weigh_set.Goals as goal

pub returns-then-off-eq0-clause-weight : goal.returns-then-off-eq0-clause-weight
returns-then-off-eq0-clause-weight c = λ p. record { item = []; is_read = empty_set c.args.self.now.frame.now c.args.off c.args.self.now.pools.now c.if-off-eq0.true; weight_is = omega arith }

pub returns-in-Some-clause-weight : goal.returns-in-Some-clause-weight
returns-in-Some-clause-weight c = λ p.
    let m = c.args.self.now.pools.now in
    let off = c.args.off in
    weighed_as (IsSetAt c.args.self.now.frame.now off m) (IsSetOrEmptyAt c.args.self.now.frame.now off m) (set_weight_in m) (set_weight_in m) (λ s h. some_set c.args.self.now.frame.now off m s (omega arith) h) (λ s h. refl) ((c.requires p).sets_checked off c.in-Some.weight.now (sym c.in-Some.ensures.value))

pub returns-in_err-shape-clause-refused : goal.returns-in_err-shape-clause-refused
returns-in_err-shape-clause-refused c = λ p.
    rw (err_is c.from_residual.result c.from_residual.ensures.1) (refuses_so 22 (no_set c.args.self.now.frame.now c.args.off (omega arith)) c.in_err-shape.field-0.0 (c.in_err-shape.ensures.refused p.pools))

pub returns-clause-checked : goal.returns-clause-checked
returns-clause-checked c = λ p.
    let new : CheckedSets = record { sets = c.insert.new.self; lists = c.args.checked.now.lists } in
    set_added c.args.self.now.frame.now c.args.self.now.pools.now c.args.checked.now new c.args.off c.in_ok-shape.shape.weight (c.requires p) (set_weighed c.args.self.now.frame.now c.args.off c.args.self.now.pools.now c.in_ok-shape.shape.count c.in_ok-shape.shape.weight (omega arith) (c.in_ok-shape.ensures.set p.pools)) c.in_ok-insert.ensures.updates.1 c.in_ok-insert.ensures.updates.2 refl

pub returns-clause-weight : goal.returns-clause-weight
returns-clause-weight c = λ p.
    let b = c.args.self.now.frame.now in
    let m = c.args.self.now.pools.now in
    let off = c.args.off in
    weighed_as (IsSetAt b off m) (IsSetOrEmptyAt b off m) (set_weight_in m) (set_weight_in m) (λ s h. some_set b off m s (omega arith) h) (λ s h. refl) (set_weighed b off m c.in_ok-shape.shape.count c.in_ok-shape.shape.weight (omega arith) (c.in_ok-shape.ensures.set p.pools))
