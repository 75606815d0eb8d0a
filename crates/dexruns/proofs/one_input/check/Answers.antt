use Rattle.dexruns.proofs.Common.{refl, err_from_is_err_and}
use Rattle.dexruns.proofs.one_input.check.Goals as goal

pub returns-in_err-frame-clause-memory : goal.returns-in_err-frame-clause-memory
returns-in_err-frame-clause-memory c =
    let p = err_from_is_err_and c.from_residual.result c.from_residual.ensures.1 in
    rw (p.1, p.2) (λ is. absurd cc)

pub returns-in_err-check_frame-clause-memory : goal.returns-in_err-check_frame-clause-memory
returns-in_err-check_frame-clause-memory c =
    let p = err_from_is_err_and c.from_residual-in_err-check_frame.result c.from_residual-in_err-check_frame.ensures.1 in
    rw (p.1, p.2) (λ is. c.in_ok-frame.ensures.accepted.0 refl)
