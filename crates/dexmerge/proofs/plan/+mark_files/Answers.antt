use Rattle.dexmerge.proofs.Common.{◌-◌, List, length, take, map, sym, subst, arith, take_all}
use Rattle.dexspec.specs.Merging as merging
use Rattle.dexmerge.specs.declared.plan.Plan.{Plan}
use Rattle.dexmerge.specs.{plan_of}
use Rattle.dexmerge.specs.internal.UnionChecks.{IsMarkedBy, IsNoPlan}
use Rattle.dexmerge.proofs.Marked.{ArePartsMarked, one_more_marked, all_marked, no_part}
use Rattle.dexmerge.proofs.PlanForms.{node_with, part_member, parts_more}
use Rattle.dexmerge.proofs.plan.+mark_files.Goals as goal

pub returns-then-not-mark_files-clause-checked : goal.returns-then-not-mark_files-clause-checked
returns-then-not-mark_files-clause-checked t c =
    subst (λ (p : merging.Plan). IsNoPlan p c.args.depth (length c.args.is_named.now.items)) (sym (node_with c.args.plan.now c.in-Node.parts c.deref-part-items.result.now c.in-Node.is c.deref-part-items.ensures.value))
    (no_part (map plan_of c.deref-part-items.result.now) (plan_of c.part-item.result) c.args.depth (length c.args.is_named.now.items) (part_member c.deref-part-items.result.now c.loop-part.part-index c.part-item.result c.loop-part-test.true c.part-item.is) (omega arith)
    (subst (IsNoPlan (plan_of c.part-item.result) (c.args.depth - 1)) c.loop-part.invariant.count c.if-not-mark_files.ensures.checked))

pub loop-part-preserved : goal.loop-part-preserved
loop-part-preserved t c =
    subst (λ (l : List merging.Plan). ArePartsMarked l c.args.depth c.args.is_named.now.items c.mark_files.new.is_named.items) (sym (parts_more c.deref-part-items.result.now c.loop-part.part-index c.part-item.result c.loop-part-test.true c.part-item.is))
    (one_more_marked (map plan_of (take c.loop-part.part-index c.deref-part-items.result.now)) (plan_of c.part-item.result) c.args.depth c.args.is_named.now.items c.loop-part.is_named.items c.mark_files.new.is_named.items c.loop-part.invariant (omega arith)
    c.mark_files.ensures.count c.if-not-mark_files.ensures.checked)

pub returns-after-loop-part-clause-checked : goal.returns-after-loop-part-clause-checked
returns-after-loop-part-clause-checked t c =
    subst (λ (p : merging.Plan). IsMarkedBy p c.args.depth c.args.is_named.now.items c.loop-part.is_named.items) (sym (node_with c.args.plan.now c.in-Node.parts c.deref-part-items.result.now c.in-Node.is c.deref-part-items.ensures.value))
    (all_marked (map plan_of c.deref-part-items.result.now) c.args.depth c.args.is_named.now.items c.loop-part.is_named.items
    (subst (λ (l : List Plan). ArePartsMarked (map plan_of l) c.args.depth c.args.is_named.now.items c.loop-part.is_named.items) (take_all c.loop-part.part-index c.deref-part-items.result.now (omega arith)) c.loop-part.invariant))
