use Rattle.std.proofs.Common.{rules}
use Rattle.dexmerge.proofs.Common.{◌≡◌, ◌∙◌, List, Bool, length, false, ap, subst, replicate, ℕ, ◌<◌, MatchBool}
use Rattle.dexmerge.specs.{plan_of}
use Rattle.dexmerge.specs.internal.UnionChecks.{AreAllNamed, IsMarkedBy, IsNamed, HasUnnamed}
use Rattle.dexmerge.proofs.PlanChecked.{checked_by}
use Rattle.dexmerge.proofs.plan.is_plan_for.Goals as goal
use Rattle.dexmerge.proofs.plan.is_plan_for.Goals.{After-all}

-- whether each mark is set
all_named : (c : After-all) → MatchBool c.all.result (AreAllNamed c.deref.result.now) (HasUnnamed c.deref.result.now)
all_named c = search rules

pub returns : goal.returns
returns c =
    let p = plan_of c.args.plan.now in
    let old : c.in_ok-is_named.is_named.items ≡ replicate c.args.files false = c.in_ok-is_named.ensures.items_if_clones_equal (λ y e. e) in
    checked_by p c.args.files c.mark_files.new.is_named.items (subst (λ (l : List Bool). IsMarkedBy p 64 l c.mark_files.new.is_named.items) old c.if-not-mark_files.ensures.checked) (c.mark_files.ensures.count ∙ ap length old) c.all.result
    (subst (λ (l : List Bool). MatchBool c.all.result ((i : ℕ) → i < length l → IsNamed l i) (HasUnnamed l)) c.deref.ensures.value (all_named (goal.at.returns c).After-all))
