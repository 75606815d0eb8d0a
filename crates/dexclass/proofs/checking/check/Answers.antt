use Rattle.dexclass.proofs.Common.{refl, err_from_is_err_and}
use Rattle.std.proofs.lemmas.Result.{IfErr-weaker}
use Rattle.dexclass.proofs.checking.check.Goals as goal

pub returns-in_err-frame-clause-memory : goal.returns-in_err-frame-clause-memory
returns-in_err-frame-clause-memory c =
    let p = err_from_is_err_and c.from_residual.result c.from_residual.ensures.1 in
    rw (p.1, p.2) (λ is. absurd cc)

pub returns-clause-memory : goal.returns-clause-memory
returns-clause-memory c = IfErr-weaker c.check_frame.result _ _ (λ fault refused memory. c.in_ok-frame.ensures.accepted.0 refl) c.check_frame.ensures.refused
