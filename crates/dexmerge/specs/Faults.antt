-- What merges return, and what their faults say.
use Rattle.std.specs.Prelude.{◌≡◌, ℕ, List, map, length}
use Rattle.dexspec.specs.Classes.{Definition}
use Rattle.dexspec.specs.Files.{Collection, definitions, IsCollectionOf}
use Rattle.dexspec.specs.Merging as merging
use Rattle.dexspec.specs.Merging.{Caps, Cap, cap_number, Cause, IsCause, IsFirstCause, IsGood, IsPlanFor, IsFlat, union}
use Rattle.dexmerge.specs.declared.faults.MergeFault.{MergeFault}
use Rattle.dexmerge.specs.declared.faults.MergeFault.TheVariants as merge
use Rattle.dexmerge.specs.declared.faults.PlanFault.{PlanFault}
use Rattle.dexmerge.specs.declared.faults.PlanFault.TheVariants as plan

-- the number is that of a cap of which this holds
pub record IsOfCap (P : Cause → Type 0) (number : ℕ) : Type 0 where
  pub cap : Cap
  pub number_is : cap_number cap ≡ number
  pub holds : P (merging.Exceeded cap)

-- this holds of the cause that the fault reports; out of memory reports none
abbrev pub Reports : (Cause → Type 0) → MergeFault → Type 0
Reports P (merge.Conflict name) = P (merging.Conflict name)
Reports P (merge.Cycle name) = P (merging.Cycle name)
Reports P (merge.Cap number) = IsOfCap P number
Reports P merge.Memory = Unit {0}

-- under any caps the fault reports the first cause against the definitions
abbrev pub ReportsUnderAnyCaps : List Definition → MergeFault → Type 0
ReportsUnderAnyCaps D fault = (caps : Caps) → Reports (IsFirstCause caps D) fault

-- the definitions can be merged under the caps, and are the collection
pub record IsMerged (caps : Caps) (D : List Definition) (K : Collection) : Type 0 where
  pub good : IsGood caps D
  pub collection : IsCollectionOf D K

-- the definitions of the files that a plan names
abbrev pub planned : List Collection → merging.Plan → List Definition
planned files p = union (map definitions files) p

-- the plan is one for the files, and their definitions can be merged and are the collection
pub record IsPlanned (caps : Caps) (files : List Collection) (p : merging.Plan) (K : Collection) : Type 0 where
  pub plan_is : IsPlanFor (length files) p
  pub merged : IsMerged caps (planned files p) K

-- the plan is one for the files; the cause is true of them, and the first one where the plan is flat
pub record IsPlannedCause (caps : Caps) (files : List Collection) (p : merging.Plan) (cause : Cause) : Type 0 where
  pub plan_is : IsPlanFor (length files) p
  pub holds : IsCause caps (planned files p) cause
  pub first : IsFlat p → IsFirstCause caps (planned files p) cause

-- a bad plan is none for the files; another fault reports a cause
abbrev pub IsPlanFault : Caps → List Collection → merging.Plan → PlanFault → Type 0
IsPlanFault caps files p plan.BadPlan = IsPlanFor (length files) p → ⊥
IsPlanFault caps files p (plan.Merge fault) = Reports (IsPlannedCause caps files p) fault
