-- Which files a plan names, by marks.
use Rattle.std.specs.Prelude.{◌≡◌, ◌⊎◌, ◌↔◌, ℕ, ◌<◌, ◌≤◌, Bool, true, false, List, length, All, slice_index_or}
use Rattle.std.specs.Prelude.{MatchBool}
use Rattle.std.specs.List.{Contains}
use Rattle.dexspec.specs.Merging.{Plan, leaves, plan_depth}

-- the file is marked
abbrev pub IsNamed : List Bool → ℕ → Type 0
IsNamed marks i = slice_index_or marks i false ≡ true

-- the files are known, and just they are marked beside those that were
pub record AreMarkedBy (files : List ℕ) (old new : List Bool) : Type 0 where
  pub known : All (λ i. i < length old) files
  pub marked : (i : ℕ) → IsNamed new i ↔ (IsNamed old i ⊎ Contains files i)

-- the plan is at most so deep, names only files that there are, and just these are marked beside those that were
pub record IsMarkedBy (plan : Plan) (depth : ℕ) (old new : List Bool) : Type 0 where
  pub shallow : plan_depth plan ≤ depth
  pub files : AreMarkedBy (leaves plan) old new

-- the plan is deeper, or names a file that there is not
pub record IsNoPlan (plan : Plan) (depth files : ℕ) : Type 0 where
  pub not : plan_depth plan ≤ depth → All (λ i. i < files) (leaves plan) → ⊥

-- the marks are those of the plan if it is one, and otherwise it is none
abbrev pub IsMarkedIfPlan : Plan → ℕ → List Bool → List Bool → Bool → Type 0
IsMarkedIfPlan plan depth old new is_plan =
    MatchBool is_plan (IsMarkedBy plan depth old new) (IsNoPlan plan depth (length old))

-- each file is marked
abbrev pub AreAllNamed : List Bool → Type 0
AreAllNamed marks = (i : ℕ) → i < length marks → IsNamed marks i

-- some file is not marked
pub record HasUnnamed (marks : List Bool) : Type 0 where
  pub file : ℕ
  pub within : file < length marks
  pub not : slice_index_or marks file false ≡ false
