-- Outcomes of lines.
use Rattle.std.specs.Prelude.{Bool, true, false}
use Rattle.dexcases.specs.declared.outcome.Outcome.{Outcome}
use Rattle.dexcases.specs.declared.outcome.Outcome.TheVariants.{Passed, Failed}

-- the calls returned something else than the line says
abbrev pub is_failed : Outcome → Bool
is_failed Passed = false
is_failed (Failed _) = true
