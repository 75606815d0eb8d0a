use Rattle.dexclass.proofs.Common.{refl, subst, List, ℕ, err_from_is_err_and}
use Rattle.std.proofs.lemmas.Result.{IfErr-weaker}
use Rattle.dexclass.specs.{IsFaultOf}
use Rattle.dexclass.proofs.RowFaults.{class_fault}
use Rattle.dexclass.proofs.reading.read.Goals as goal

pub returns-in_err-check_classes-clause-refused : goal.returns-in_err-check_classes-clause-refused
returns-in_err-check_classes-clause-refused c =
    let p = err_from_is_err_and c.from_residual-in_err-check_classes.result c.from_residual-in_err-check_classes.ensures.1 in
    rw (p.1, p.2) (subst (λ (b : List ℕ). IsFaultOf b c.in_err-check_classes.field-0.0) c.in_ok-frame.ensures.whole (class_fault c.in_ok-frame.frame c.in_err-check_classes.field-0.0 c.in_err-check_classes.ensures.refused))

pub returns-in_err-frame-clause-memory : goal.returns-in_err-frame-clause-memory
returns-in_err-frame-clause-memory c =
    let p = err_from_is_err_and c.from_residual.result c.from_residual.ensures.1 in
    rw (p.1, p.2) (λ is. absurd cc)

pub returns-in_err-pools-clause-memory : goal.returns-in_err-pools-clause-memory
returns-in_err-pools-clause-memory c =
    let p = err_from_is_err_and c.from_residual-in_err-pools.result c.from_residual-in_err-pools.ensures.1 in
    rw (p.1, p.2) (λ is. c.in_ok-frame.ensures.accepted.0 refl)

pub returns-in_err-check_classes-clause-memory : goal.returns-in_err-check_classes-clause-memory
returns-in_err-check_classes-clause-memory c =
    let p = err_from_is_err_and c.from_residual-in_err-check_classes.result c.from_residual-in_err-check_classes.ensures.1 in
    rw (p.1, p.2) (λ is. c.in_ok-frame.ensures.accepted.0 refl)

pub returns-clause-memory : goal.returns-clause-memory
returns-clause-memory c = IfErr-weaker c.read_rows.result _ _ (λ fault refused memory. c.in_ok-frame.ensures.accepted.0 refl) c.read_rows.ensures.refused
