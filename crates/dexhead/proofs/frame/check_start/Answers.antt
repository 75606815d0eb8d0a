use Rattle.std.proofs.lemmas.Result.{err_from_is_err_and}
use Rattle.dexhead.proofs.Common.{ℕ, Condition, arith, refl, sym, ap, ◌∙◌}
use Rattle.std.specs.Cmp.{unsigned_Decides}
use Rattle.dexhead.specs.declared.refusal.Refusal.{Refusal}
use Rattle.dexhead.proofs.Entries.{never}
use Rattle.dexhead.proofs.Frames.{early, then_holds, none_below, if_accepted, if_refused}
use Rattle.dexhead.proofs.frame.check_start.Goals as goal

abbrev refusal_at : ℕ → ℕ → Refusal
refusal_at number place = record { number = number; place = place }

pub returns-in_err-require-clause-refused : goal.returns-in_err-require-clause-refused
returns-in_err-require-clause-refused c =
    let p = err_from_is_err_and c.from_residual.result c.from_residual.ensures.1 in
    rw (p.1, p.2) (early Condition.Size c.in_err-require.ensures.refused (omega arith) refl (none_below _) (λ h. never (c.in_err-require.ensures.accepted.1 (c.has_size.ensures.1 h))))

pub returns-in_err-require-2-clause-refused : goal.returns-in_err-require-2-clause-refused
returns-in_err-require-2-clause-refused c =
    let p = err_from_is_err_and c.from_residual-in_err-require-2.result c.from_residual-in_err-require-2.ensures.1 in
    rw (p.1, p.2) (early Condition.Magic c.in_err-require-2.ensures.refused (omega arith) refl (then_holds Condition.Size (omega arith) refl (none_below _) (c.has_size.ensures.0 (c.in_ok-require.ensures.accepted.0 refl))) (λ h. never (c.in_err-require-2.ensures.accepted.1 (c.has_magic.ensures.1 h))))

pub returns-clause-refused : goal.returns-clause-refused
returns-clause-refused c =
    if_refused _ _ c.require-3.ensures.accepted c.require-3.ensures.refused (λ x is no. early Condition.Version (is ∙ ap (refusal_at 3) c.version-version.ensures) (omega arith) refl (then_holds Condition.Magic (omega arith) refl (then_holds Condition.Size (omega arith) refl (none_below _) (c.has_size.ensures.0 (c.in_ok-require.ensures.accepted.0 refl))) (c.has_magic.ensures.0 (c.in_ok-require-2.ensures.accepted.0 refl))) (λ h. no ((unsigned_Decides _ _).1 (c.version-version.ensures ∙ h))))

pub returns-clause-accepted : goal.returns-clause-accepted
returns-clause-accepted c = if_accepted _ c.require-3.ensures.accepted (λ h. then_holds Condition.Version (omega arith) refl (then_holds Condition.Magic (omega arith) refl (then_holds Condition.Size (omega arith) refl (none_below _) (c.has_size.ensures.0 (c.in_ok-require.ensures.accepted.0 refl))) (c.has_magic.ensures.0 (c.in_ok-require-2.ensures.accepted.0 refl))) (sym c.version-version.ensures ∙ (unsigned_Decides _ _).0 h))
