-- Outputs of jobs.
use Rattle.std.proofs.Common.{◌≡◌, ℕ, List, Option, Some, None, false, ap}
use Rattle.dexargs.specs.declared.words.Placing.{Placing}
use Rattle.dexargs.specs.declared.words.Placing.TheVariants.{InPlace, Atomic}
use Rattle.dexcmd.specs.declared.system.NamedOutput.{NamedOutput}
use Rattle.dexcmd.specs.System.{IsOutputOf, has_failed}

-- the output of a job has not failed
pub output_works : {R F D : Type 0} (name : Option (List ℕ)) (placing : Placing) (out : NamedOutput R F D) → IsOutputOf name placing out → has_failed out.state ≡ false
output_works None placing out h = ap has_failed h.1
output_works (Some name) InPlace out h = ap has_failed h.1
output_works (Some name) Atomic out h = ap has_failed h.1
