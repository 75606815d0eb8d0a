use Rattle.dexmerge.proofs.Common.{List, length, subst, err_from_is_err_and, Collection, IsPlanFor}
use Rattle.dexmerge.specs.{plan_of, IsPlannedCause, Reports}
use Rattle.dexmerge.specs.internal.Parts.{IsCauseOf}
use Rattle.dexmerge.proofs.PlannedLaws.{reports_other}
use Rattle.dexmerge.proofs.plan_union.merge_plan.Goals as goal

pub returns-in_err-merge_parts-clause-fault : goal.returns-in_err-merge_parts-clause-fault
returns-in_err-merge_parts-clause-fault c =
    let files = c.args.files.now in
    let caps = c.args.caps.now in
    let p = plan_of c.args.plan.now in
    let is : IsPlanFor (length files) p = rw c.if-not-branch.false at c.in_ok-is_plan_for.ensures in
    let from = err_from_is_err_and c.from_residual-in_err-merge_parts.result c.from_residual-in_err-merge_parts.ensures.1 in
    rw (from.1, from.2) (reports_other (IsCauseOf caps files p) (IsPlannedCause caps files p) (λ cause x. record {
      plan_is = is;
      holds = x.holds;
      first = x.first;
    }) c.in_err-merge_parts.field-0.0
    (subst (λ (l : List Collection). Reports (IsCauseOf caps l p) c.in_err-merge_parts.field-0.0) c.in_ok-copies.ensures c.in_err-merge_parts.ensures.fault))
