use Rattle.dexclass.proofs.Common.{arith, subst, Refused}
use Rattle.dexmembers.specs.Checking.{AreChecks}
use Rattle.dexclass.specs.internal.ReadWithin.{IsFaultWithin, IfTooHeavy}
use Rattle.dexclass.proofs.AfterFaults.{file_refused}
use Rattle.dexclass.proofs.reading.read_bodies.Goals as goal

pub read_bodies_within-requires-clause-shared : goal.read_bodies_within-requires-clause-shared
read_bodies_within-requires-clause-shared c = c.none-unshared.ensures c.args.frame.now c.args.pools.now

pub read_bodies_within-requires-clause-checks : goal.read_bodies_within-requires-clause-checks
read_bodies_within-requires-clause-checks c = c.none-checks.ensures c.args.frame.now c.args.pools.now

pub returns-then-refusal-clause-refused : goal.returns-then-refusal-clause-refused
returns-then-refusal-clause-refused c =
    file_refused c.args.frame.now c.most_unchecked-most.result (Refused c.in-Err-Refused.refusal) (λ heavy. absurd (omega (arith, heavy, c.if-refusal.true)))
    (subst (IsFaultWithin c.most_unchecked-most.result c.args.frame.now) c.in-Err-Refused.field-0-is c.in-Err-Refused.ensures.refused)

pub check_rows_with-requires-clause-checks : goal.check_rows_with-requires-clause-checks
check_rows_with-requires-clause-checks c =
    subst (IfTooHeavy (AreChecks c.args.frame.now c.args.pools.now c.read_bodies_within.new.checks)) c.in-Err-Refused.field-0-is c.in-Err-Refused.ensures.checks (omega (arith, c.if-refusal.false))

pub read_bodies_within-requires-2-clause-shared : goal.read_bodies_within-requires-2-clause-shared
read_bodies_within-requires-2-clause-shared c = c.shared_members-shared.ensures c.args.frame.now c.args.pools.now

pub read_bodies_within-requires-2-clause-checks : goal.read_bodies_within-requires-2-clause-checks
read_bodies_within-requires-2-clause-checks c = c.only_statics-checks.ensures c.args.frame.now c.args.pools.now c.in_ok-check_rows_with.ensures.checks
