-- Faults of unions, as those of files.
use Rattle.std.proofs.Common.{◌≡◌, ℕ, Option, List, length, sym, subst}
use Rattle.std.proofs.lemmas.Slice.Zip.{AllZip-long}
use Rattle.dexspec.specs.Files.{Collection}
use Rattle.dexspec.specs.Merging.{Caps, Plan, IsPlanFor}
use Rattle.dexlaws.specs.Causes.{GoodHasNoCause}
use Rattle.dexclass.specs.Programs.{IsReadAs}
use Rattle.dexmerge.specs.Faults.{IsPlanFault}
use Rattle.dexmerge.specs.declared.faults.PlanFault.{PlanFault}
use Rattle.dexruns.specs.Fans.{IsFanPlan}
use Rattle.dexruns.specs.Merges.{IsUnionFault}
use Rattle.dexruns.specs.Faults.{fault_of_plan}
use Rattle.dexruns.proofs.Merged.{fault_of_union}
use Rattle.dexruns.specs.declared.faults.RunFault.{RunFault}
use Rattle.dexruns.specs.declared.faults.RunFault.TheVariants as run
use Rattle.dexkit_c.specs.Calls.{AreReadAs}
use Rattle.dexkit_c.specs.Faults.{IsFaultOfFiles, IsUnmergedBy}

-- a plan for as many files as collections is one for the collections
plan_for_collections : (files : List (List ℕ)) (collections : List Collection) (plan : Plan) → AreReadAs files collections → IsPlanFor (length files) plan → IsPlanFor (length collections) plan
plan_for_collections files collections plan all is = subst (λ n. IsPlanFor n plan) (sym (AllZip-long IsReadAs files collections all)) is

of_union : (caps : Caps) (fan : Option ℕ) (files : List (List ℕ)) (collections : List Collection) (plan : Plan) (why : RunFault) → IsFanPlan (length files) fan plan → IsPlanFor (length files) plan → AreReadAs files collections → IsUnionFault caps collections plan why →
    IsFaultOfFiles (IsUnmergedBy caps fan files) files why
of_union caps fan files collections plan run.Plan fanned is read fault = fault (plan_for_collections files collections plan read is)
of_union caps fan files collections plan (run.Merge reported) fanned is read fault = record { collections = collections; read = read; plan = plan; fanned = fanned; cause = fault }
of_union caps fan files collections plan run.Memory fanned is read fault = tt
of_union caps fan files collections plan _ fanned is read fault = absurd fault

-- a fault of a plan is one of the files
pub fault_of_planned : (caps : Caps) (apart : GoodHasNoCause caps) (fan : Option ℕ) (files : List (List ℕ)) (collections : List Collection) (plan : Plan) (why : PlanFault) (n : ℕ) → n ≡ length files → IsFanPlan n fan plan → IsPlanFor n plan → AreReadAs files collections → IsPlanFault caps collections plan why →
    IsFaultOfFiles (IsUnmergedBy caps fan files) files (fault_of_plan why)
fault_of_planned caps apart fan files collections plan why n count fanned is read fault =
    of_union caps fan files collections plan (fault_of_plan why) (subst (λ m. IsFanPlan m fan plan) count fanned) (subst (λ m. IsPlanFor m plan) count is) read (fault_of_union caps apart collections plan why fault)
