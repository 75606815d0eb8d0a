use Rattle.dexmembers.proofs.Common.{arith, subst, err_from_is_err_and}
use Rattle.dexval.specs.CheckedStatics.{AreCheckedStatics}
use Rattle.dexmembers.specs.{AreChecks}
use Rattle.dexmembers.specs.TooHeavy.{IfTooHeavy}
use Rattle.dexmembers.specs.internal.RowParts.{IsPartFault}
use Rattle.dexmembers.proofs.AfterFaults.{not_heavy}
use Rattle.dexmembers.proofs.RowRead.{fault_within}
use Rattle.dexmembers.proofs.reading.read_shared_members.Goals as goal

pub returns-in-Ok-clause-checks : goal.returns-in-Ok-clause-checks
returns-in-Ok-clause-checks c = λ pools. record {
  sets_checked = (c.requires.checks pools).sets_checked;
  codes_checked = (c.requires.checks pools).codes_checked;
  statics_checked = c.in-Ok.ensures.checked pools;
}

pub check_members-requires : goal.check_members-requires
check_members-requires c = λ pools. record {
  sets_checked = (c.requires.checks pools).sets_checked;
  codes_checked = (c.requires.checks pools).codes_checked;
  statics_checked = subst (IfTooHeavy (AreCheckedStatics c.args.frame.now c.args.pools.now c.read_row.new.checked)) c.in-Err-Refused.field-0-is (c.in-Err-Refused.ensures.heavy pools) (omega (arith, c.if-number.false));
}

pub returns-in_err-check_members-clause-heavy : goal.returns-in_err-check_members-clause-heavy
returns-in_err-check_members-clause-heavy c = λ r row pools class.
    let p = err_from_is_err_and c.from_residual.result c.from_residual.ensures.1 in
    rw (p.1, p.2) (not_heavy (AreChecks c.args.frame.now c.args.pools.now c.check_members.new.checks) c.args.frame.now r c.in_err-check_members.field-0.0 (c.in_err-check_members.ensures.refused r row pools class))

pub returns-then-number-clause-refused : goal.returns-then-number-clause-refused
returns-then-number-clause-refused c = λ r row pools class.
    fault_within c.args.frame.now r c.args.most c.in-Err-Refused.number (subst (IsPartFault c.args.frame.now r c.args.most) c.in-Err-Refused.field-0-is (c.in-Err-Refused.ensures.refused r row pools class))
    (λ heavy. absurd (omega (arith, heavy, c.if-number.true)))

pub returns-clause-heavy : goal.returns-clause-heavy
returns-clause-heavy c = λ r row pools class heavy. c.in_ok-check_members.ensures.checks pools

pub returns-clause-refused : goal.returns-clause-refused
returns-clause-refused c = λ r row pools class.
    fault_within c.args.frame.now r c.args.most c.in-Err-Refused.number (subst (IsPartFault c.args.frame.now r c.args.most) c.in-Err-Refused.field-0-is (c.in-Err-Refused.ensures.refused r row pools class))
    (λ heavy. (c.in_ok-check_members.ensures.checked r row pools class).readable)
