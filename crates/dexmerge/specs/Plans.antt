-- Plans as the definitions see them.
use Rattle.std.specs.Prelude.{ℕ, Bool, List, [], ◌∷◌, map, MatchBool}
use Rattle.dexspec.specs.Merging as merging
use Rattle.dexmerge.specs.declared.plan.Plan.{Plan}
use Rattle.dexmerge.specs.declared.plan.Plan.TheOpen.{Plan-F, Leaf, Node}
use Rattle.dexmerge.specs.declared.plan.Plan.TheFolds.{fold-Plan}

-- the plans of a list
abbrev pub plans_of : List merging.Plan → merging.Plans
plans_of [] = merging.NoPlans
plans_of (p ∷ ps) = merging.ThenPlan p (plans_of ps)

-- one plan, with that of each part in its place
abbrev pub plan_step : Plan-F merging.Plan → merging.Plan
plan_step (Leaf file) = merging.Leaf file
plan_step (Node parts) = merging.Node (plans_of parts.items)

-- the plan
abbrev pub plan_of : Plan → merging.Plan
plan_of = fold-Plan merging.Plan plan_step

-- the node of these parts
abbrev pub node_of : List Plan → merging.Plan
node_of parts = merging.Node (plans_of (map plan_of parts))

-- whether the plan is one for this number of files
abbrev pub ReportsPlanFor : ℕ → merging.Plan → Bool → Type 0
ReportsPlanFor files plan is_plan = MatchBool is_plan (merging.IsPlanFor files plan) (merging.IsPlanFor files plan → ⊥)
