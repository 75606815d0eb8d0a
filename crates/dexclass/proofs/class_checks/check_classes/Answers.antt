use Rattle.dexclass.proofs.Common.{sym, subst, arith, Condition, HasClass, below_more}
use Rattle.dexids.proofs.Refusing.{hold_next}
use Rattle.dexclass.specs.internal.Rows.{AreDefinedMarks}
use Rattle.dexclass.proofs.CheckedParts.{part_later}
use Rattle.dexclass.proofs.class_checks.check_classes.Goals as goal

pub loop-r-preserved : goal.loop-r-preserved
loop-r-preserved c =
    let r = c.loop-r.r in
    let b = c.args.frame.now in
    let seen = subst (AreDefinedMarks b r) (sym c.deref-in-loop-r.ensures.value) c.loop-r.invariant.marks in
    record {
      marks = c.mark.ensures b r c.at-row.ensures.class_is c.loop-r.invariant.marks;
      checked = λ k d lt. part_later b r _ _ (c.in_ok-holds.ensures.checked r seen c.loop-r.invariant.checked k d lt);
      rows = below_more (HasClass b) r c.loop-r.invariant.rows ((c.in_ok-holds.ensures.holds r seen c.loop-r.invariant.checked c.at-row.ensures).0 c.if-not-branch.false);
    }

pub returns-clause-accepted : goal.returns-clause-accepted
returns-clause-accepted c = hold_next c.args.frame.now Condition.Classes c.requires.before (λ k lt. c.loop-r.invariant.rows k (omega (arith, lt, c.loop-r-test.false, c.size-r-end.ensures)))

pub loop-r-init : goal.loop-r-init
loop-r-init c = record { marks = c.in_ok-seen.ensures; checked = c.none-checked.ensures c.args.frame.now 0; rows = λ k lt. absurd (omega (arith, lt)) }
