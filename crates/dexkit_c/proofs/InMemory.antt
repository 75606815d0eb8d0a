-- Faults of runs over one file in memory.
use Rattle.std.proofs.Common.{◌≡◌, ℕ, List, subst}
use Rattle.dexspec.specs.Accepted.{IsRefused}
use Rattle.dexruns.specs.Runs.{IsOfInput}
use Rattle.dexruns.specs.declared.faults.RunFault.{RunFault}
use Rattle.dexruns.specs.declared.faults.RunFault.TheVariants as run
use Rattle.dexkit_c.specs.Faults.{IsOfFile}

-- a fault of a run over a device that shows its bytes is one of the file in it
pub of_file : (P : Type 0) → P → (b file : List ℕ) (why : RunFault) → b ≡ file → IsOfInput P b why → IsOfFile file why
of_file P shows b file (run.Input i refusal) same fault = subst (λ x. IsRefused x refusal.number refusal.place) same (fault.1 shows)
of_file P shows b file run.Plan same fault = fault
of_file P shows b file (run.Merge reported) same fault = fault
of_file P shows b file (run.Read i) same fault = tt
of_file P shows b file run.Write same fault = tt
of_file P shows b file run.Memory same fault = tt
