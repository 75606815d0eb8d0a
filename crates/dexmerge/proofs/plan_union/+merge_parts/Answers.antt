use Rattle.dexmerge.proofs.Common.{◌≡◌, ◌∙◌, ◌+◌, ◌++◌, ◌∷◌, List, [], map, take, sym, ap, subst, arith, rules, Result, Err, IfErr, flat_map, Contains, take_all, append-nil, err_from_is_err_and, IfOk-weaker, IfErr-weaker, Definition, Collection, definitions, AreSame}
use Rattle.std.specs.Prelude.{OnOk, Ok}
use Rattle.dexspec.specs.Merging as merging
use Rattle.dexspec.proofs.merge.Collections.{definitions-same}
use Rattle.dexmerge.specs.declared.plan.Plan.TheViews.{the_lemmas}
use Rattle.dexmerge.specs.declared.faults.MergeFault.{MergeFault}
use Rattle.dexmerge.specs.{plan_of, plans_of, Reports, planned}
use Rattle.dexmerge.specs.internal.Parts.{AreKnown, AreLeft, IsCauseOf, of_plans}
use Rattle.dexmerge.proofs.PlanForms.{leaf_is, node_is, node_with, part_member, parts_more}
use Rattle.dexmerge.proofs.PlannedLaws.{HaveTaken, IsTaken, one_more_taken, leaf_taken, leaf_alone, parts_are, first_reports, part_reports, part_known, merged_same, reports_same}
use Rattle.dexmerge.proofs.plan_union.+merge_parts.Goals as goal
use Rattle.dexmerge.proofs.plan_union.+merge_parts.Goals.{After-merge_all, in-Leaf-part+in_ok-program-in-Leaf-part, in-Node-part+in_ok-program-in-Node-part, in-Leaf+in_ok-file-in-Leaf+in_ok-push-in-Leaf, in-Node+else-loop-part-test}

pub file-requires : goal.file-requires
file-requires t c = (subst (AreKnown c.args.files.now.items) (leaf_is c.args.plan.now c.in-Leaf.number c.in-Leaf.is) c.requires) 0 0 (omega arith)

pub file-requires-in-Leaf-part : goal.file-requires-in-Leaf-part
file-requires-in-Leaf-part t c =
    let files = c.args.files.now.items in
    let parts = c.deref-part-items.result.now in
    let known : AreKnown files (plan_of c.part-item.result) =
    part_known files (map plan_of parts) (plan_of c.part-item.result) (part_member parts c.loop-part.part-index c.part-item.result c.loop-part-test.true c.part-item.is) (subst (AreKnown files) (node_with c.args.plan.now c.in-Node.parts parts c.in-Node.is c.deref-part-items.ensures.value) c.requires) in
    omega (arith, (subst (AreKnown files) (leaf_is c.part-item.result c.in-Leaf-part.number c.in-Leaf-part.is) known) 0 0 (omega arith), c.loop-part.invariant.left.count)

pub merge_parts-requires : goal.merge_parts-requires
merge_parts-requires t c =
    let files = c.args.files.now.items in
    let parts = c.deref-part-items.result.now in
    let known : AreKnown files (plan_of c.part-item.result) =
    part_known files (map plan_of parts) (plan_of c.part-item.result) (part_member parts c.loop-part.part-index c.part-item.result c.loop-part-test.true c.part-item.is) (subst (AreKnown files) (node_with c.args.plan.now c.in-Node.parts parts c.in-Node.is c.deref-part-items.ensures.value) c.requires) in
    (search (rules, the_lemmas), λ k d lt. omega (arith, known k d lt, c.loop-part.invariant.left.count))

pub returns-in_err-program-in-Node-part-clause-fault : goal.returns-in_err-program-in-Node-part-clause-fault
returns-in_err-program-in-Node-part-clause-fault t c =
    let files = c.args.files.now.items in
    let caps = c.args.caps.now in
    let parts = c.deref-part-items.result.now in
    let taken = map plan_of (take c.loop-part.part-index parts) in
    let own = node_is c.part-item.result c.in-Node-part.field-0 c.in-Node-part.is in
    let whole : (f : MergeFault) → Reports (IsCauseOf caps c.loop-part.files.items (plan_of c.part-item.result)) f → Reports (IsCauseOf caps files (plan_of c.args.plan.now)) f = λ f x.
    subst (λ (p : merging.Plan). Reports (IsCauseOf caps files p) f) (sym (node_with c.args.plan.now c.in-Node.parts parts c.in-Node.is c.deref-part-items.ensures.value))
    (part_reports files c.loop-part.files.items (of_plans files taken) c.loop-part.invariant.left caps (map plan_of parts) (plans_of (map plan_of c.in-Node-part.field-0.items)) f (subst (Contains (map plan_of parts)) own (part_member parts c.loop-part.part-index c.part-item.result c.loop-part-test.true c.part-item.is))
    (subst (λ (p : merging.Plan). Reports (IsCauseOf caps c.loop-part.files.items p) f) own x)) in
    let out : (x : MergeFault) × (c.from_residual-in_err-program-in-Node-part.result ≡ Err x) × (x ≡ c.in_err-program-in-Node-part.field-0.0) = err_from_is_err_and c.from_residual-in_err-program-in-Node-part.result c.from_residual-in_err-program-in-Node-part.ensures.1 in
    subst (λ (r : Result Collection MergeFault). IfErr r (Reports (IsCauseOf caps files (plan_of c.args.plan.now)))) (sym out.1)
    (whole out.0 (subst (Reports (IsCauseOf caps c.loop-part.files.items (plan_of c.part-item.result))) (sym out.2) c.in_err-program-in-Node-part.ensures.fault))

pub loop-part-preserved : goal.loop-part-preserved
loop-part-preserved t c =
    let files = c.args.files.now.items in
    let now = c.loop-part.files.items in
    let parts = c.deref-part-items.result.now in
    let ps = map plan_of (take c.loop-part.part-index parts) in
    let part = plan_of c.part-item.result in
    let K = c.match-part.program in
    let more : map plan_of (take (c.loop-part.part-index + 1) parts) ≡ ps ++ part ∷ [] = parts_more parts c.loop-part.part-index c.part-item.result c.loop-part-test.true c.part-item.is in
    let own : IsTaken part K now c.match-part.files.items = elim c.match-part.branch [
      | in-Leaf-part+in_ok-program-in-Leaf-part w ↦
          let x = w.in_ok-program-in-Leaf-part.program in
          let one = leaf_taken now w.file-in-Leaf-part.new.files.items w.in-Leaf-part.number x w.in_ok-program-in-Leaf-part.ensures.same w.in_ok-program-in-Leaf-part.ensures.left in
          let files_are : c.match-part.files.items ≡ w.file-in-Leaf-part.new.files.items = λ i. (w.files-is i).items in
          subst (λ (p : merging.Plan). IsTaken p K now c.match-part.files.items) (sym (leaf_is c.part-item.result w.in-Leaf-part.number w.in-Leaf-part.is))
          (subst (λ (y : Collection). IsTaken (merging.Leaf w.in-Leaf-part.number) y now c.match-part.files.items) (sym w.program-is)
          (subst (IsTaken (merging.Leaf w.in-Leaf-part.number) x now) (sym files_are) one))
      | in-Node-part+in_ok-program-in-Node-part w ↦
          let x = w.in_ok-program-in-Node-part.program in
          let files_are : c.match-part.files.items ≡ w.merge_parts.new.files.items = λ i. (w.files-is i).items in
          subst (λ (x : Collection). IsTaken part x now c.match-part.files.items) (sym w.program-is)
          (subst (IsTaken part x now) (sym files_are) (record { same = definitions-same (planned now part) x w.in_ok-program-in-Node-part.ensures.merged.collection; left = w.in_ok-program-in-Node-part.ensures.left }))
    ] in
    subst (λ (l : List merging.Plan). HaveTaken l c.push-in-loop-part.new.self.items files c.match-part.files.items) (sym more)
    (subst (λ (l : List Collection). HaveTaken (ps ++ part ∷ []) l files c.match-part.files.items) (sym c.in_ok-push-in-Node.ensures.items) (one_more_taken ps part c.loop-part.programs.items K files now c.match-part.files.items c.loop-part.invariant own))

-- what holds holds where a call succeeds
OnOk-of : {T E : Type 0} (P : Type 0) (r : Result T E) → P → OnOk r P
OnOk-of P (Ok x) p = p
OnOk-of P (Err e) p = tt

-- the files of the plan were taken
pub record AllTaken (p : merging.Plan) (programs old new : List Collection) : Type 0 where
  pub same : AreSame (flat_map definitions (programs ++ [])) (planned old p)
  pub left : AreLeft (planned old p) old new

all_taken : (p : merging.Plan) (ps : List merging.Plan) (programs old new : List Collection) → of_plans old ps ≡ planned old p → HaveTaken ps programs old new → AllTaken p programs old new
all_taken p ps programs old new is h = record {
  same = subst (λ (l : List Collection). AreSame (flat_map definitions l) (planned old p)) (sym (append-nil programs)) (subst (AreSame (flat_map definitions programs)) is h.same);
  left = subst (λ (D : List Definition). AreLeft D old new) is h.left;
}

taken : (t : _) (c : After-merge_all t) → AllTaken (plan_of c.args.plan.now) c.match-plan.programs.items c.args.files.now.items c.match-plan.files.items
taken t c =
    let files = c.args.files.now.items in
    let p = plan_of c.args.plan.now in
    elim c.match-plan.branch [
      | in-Leaf+in_ok-file-in-Leaf+in_ok-push-in-Leaf w ↦
          let number = w.in-Leaf.number in
          let x = w.in_ok-file-in-Leaf.field-0 in
          let is = leaf_is c.args.plan.now number w.in-Leaf.is in
          let files_are : c.match-plan.files.items ≡ w.file.new.files.items = λ i. (w.files-is i).items in
          let programs_are : c.match-plan.programs.items ≡ x ∷ [] = (λ i. (w.programs-is i).items) ∙ w.in_ok-push-in-Leaf.ensures.items ∙ ap (λ (l : List Collection). l ++ x ∷ []) c.new-programs.ensures.items in
          subst (λ (l : List Collection). AllTaken p l files c.match-plan.files.items) (sym programs_are)
          (subst (AllTaken p (x ∷ []) files) (sym files_are)
          (all_taken p (merging.Leaf number ∷ []) (x ∷ []) files w.file.new.files.items (append-nil (planned files (merging.Leaf number)) ∙ ap (planned files) (sym is))
          (leaf_alone files w.file.new.files.items number x (leaf_taken files w.file.new.files.items number x w.in_ok-file-in-Leaf.ensures.same w.in_ok-file-in-Leaf.ensures.left))))
      | in-Node+else-loop-part-test w ↦
          let parts = w.deref-part-items.result.now in
          let files_are : c.match-plan.files.items ≡ w.loop-part.files.items = λ i. (w.files-is i).items in
          let programs_are : c.match-plan.programs.items ≡ w.loop-part.programs.items = λ i. (w.programs-is i).items in
          let all : map plan_of (take w.loop-part.part-index parts) ≡ map plan_of parts = ap (map plan_of) (take_all w.loop-part.part-index parts (omega arith)) in
          subst (λ (l : List Collection). AllTaken p l files c.match-plan.files.items) (sym programs_are)
          (subst (AllTaken p w.loop-part.programs.items files) (sym files_are)
          (all_taken p (map plan_of parts) w.loop-part.programs.items files w.loop-part.files.items (parts_are files (map plan_of parts) ∙ ap (planned files) (sym (node_with c.args.plan.now w.in-Node.parts parts w.in-Node.is w.deref-part-items.ensures.value)))
          (subst (λ (l : List merging.Plan). HaveTaken l w.loop-part.programs.items files w.loop-part.files.items) all w.loop-part.invariant)))
    ]

pub returns-clause-merged : goal.returns-clause-merged
returns-clause-merged t c =
    IfOk-weaker c.merge_all.result _ _ (λ K h. merged_same c.args.caps.now _ (planned c.args.files.now.items (plan_of c.args.plan.now)) K (taken t ((goal.at.returns-clause-merged t c).After-merge_all)).same h) c.merge_all.ensures.merged

pub returns-clause-left : goal.returns-clause-left
returns-clause-left t c = OnOk-of (AreLeft (planned c.args.files.now.items (plan_of c.args.plan.now)) c.args.files.now.items c.match-plan.files.items) c.merge_all.result (taken t ((goal.at.returns-clause-left t c).After-merge_all)).left

pub returns-clause-fault : goal.returns-clause-fault
returns-clause-fault t c =
    IfErr-weaker c.merge_all.result _ _ (λ f h. first_reports c.args.files.now.items c.args.caps.now (plan_of c.args.plan.now) f
    (reports_same c.args.caps.now _ (planned c.args.files.now.items (plan_of c.args.plan.now)) f (taken t ((goal.at.returns-clause-fault t c).After-merge_all)).same h)) c.merge_all.ensures.fault
