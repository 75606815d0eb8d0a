use Rattle.std.proofs.lemmas.Result.{err_from_is_err_and}
use Rattle.dexhead.proofs.Common.{Condition, arith, refl}
use Rattle.dexhead.proofs.Entries.{never}
use Rattle.dexhead.proofs.Frames.{early, then_holds, if_accepted, if_refused}
use Rattle.dexhead.proofs.frame.check_fields.Goals as goal

pub returns-in_err-require-clause-refused : goal.returns-in_err-require-clause-refused
returns-in_err-require-clause-refused c =
    let p = err_from_is_err_and c.from_residual.result c.from_residual.ensures.1 in
    rw (p.1, p.2) (early Condition.Lengths c.in_err-require.ensures.refused (omega arith) refl c.requires (λ h. never (c.in_err-require.ensures.accepted.1 (c.has_lengths.ensures.1 h))))

pub returns-in_err-require-2-clause-refused : goal.returns-in_err-require-2-clause-refused
returns-in_err-require-2-clause-refused c =
    let p = err_from_is_err_and c.from_residual-in_err-require-2.result c.from_residual-in_err-require-2.ensures.1 in
    rw (p.1, p.2) (early Condition.Endian c.in_err-require-2.ensures.refused (omega arith) refl (then_holds Condition.Lengths (omega arith) refl c.requires (c.has_lengths.ensures.0 (c.in_ok-require.ensures.accepted.0 refl))) (λ h. never (c.in_err-require-2.ensures.accepted.1 (c.has_endian.ensures.1 h))))

pub returns-clause-refused : goal.returns-clause-refused
returns-clause-refused c = if_refused _ _ c.require-3.ensures.accepted c.require-3.ensures.refused (λ x is no. early Condition.Link is (omega arith) refl (then_holds Condition.Endian (omega arith) refl (then_holds Condition.Lengths (omega arith) refl c.requires (c.has_lengths.ensures.0 (c.in_ok-require.ensures.accepted.0 refl))) (c.has_endian.ensures.0 (c.in_ok-require-2.ensures.accepted.0 refl))) (λ h. no (c.has_no_link.ensures.1 h)))

pub returns-clause-accepted : goal.returns-clause-accepted
returns-clause-accepted c = if_accepted _ c.require-3.ensures.accepted (λ h. then_holds Condition.Link (omega arith) refl (then_holds Condition.Endian (omega arith) refl (then_holds Condition.Lengths (omega arith) refl c.requires (c.has_lengths.ensures.0 (c.in_ok-require.ensures.accepted.0 refl))) (c.has_endian.ensures.0 (c.in_ok-require-2.ensures.accepted.0 refl))) (c.has_no_link.ensures.0 h))
