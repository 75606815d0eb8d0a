use Rattle.std.proofs.lemmas.Result.{err_from_is_err_and}
use Rattle.dexhead.proofs.Common.{Condition, arith, refl, sym, ◌∙◌}
use Rattle.dexhead.proofs.Entries.{never}
use Rattle.dexhead.proofs.Frames.{early, then_holds, if_accepted, if_refused}
use Rattle.dexhead.proofs.HeaderChecks.{has_signature-Decides}
use Rattle.dexhead.proofs.frame.check_sums.Goals as goal

pub returns-in_err-require-clause-refused : goal.returns-in_err-require-clause-refused
returns-in_err-require-clause-refused c =
    let p = err_from_is_err_and c.from_residual.result c.from_residual.ensures.1 in
    rw (p.1, p.2) (λ before. early Condition.Checksum c.in_err-require.ensures.refused (omega arith) refl before (λ h. never (c.in_err-require.ensures.accepted.1 (c.has_checksum.ensures.1 h))))

pub returns-clause-refused : goal.returns-clause-refused
returns-clause-refused c =
    if_refused _ _ c.require-2.ensures.accepted c.require-2.ensures.refused (λ x is no before. early Condition.Signature is (omega arith) refl (then_holds Condition.Checksum (omega arith) refl before (c.has_checksum.ensures.0 (c.in_ok-require.ensures.accepted.0 refl))) (λ h. no (c.has_signature.ensures ∙ (has_signature-Decides c.args.bytes.now).1 h)))

pub returns-clause-accepted : goal.returns-clause-accepted
returns-clause-accepted c = if_accepted _ c.require-2.ensures.accepted (λ h before. then_holds Condition.Signature (omega arith) refl (then_holds Condition.Checksum (omega arith) refl before (c.has_checksum.ensures.0 (c.in_ok-require.ensures.accepted.0 refl))) ((has_signature-Decides c.args.bytes.now).0 (sym c.has_signature.ensures ∙ h)))
