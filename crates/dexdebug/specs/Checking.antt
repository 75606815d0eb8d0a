-- Debug programs as they are checked: what they weigh, and nothing else is kept of them.
use Rattle.std.specs.Prelude.{◌≡◌, ℕ, ◌^◌, ◌<◌, List, Some, nat_eq}
use Rattle.std.specs.HashMap.{get}
use Rattle.dexspec.specs.Debug.{Debug, DebugAt}
use Rattle.dexspec.specs.Weight.{debug_weight}
use Rattle.dexdebug.specs.declared.checked_debugs.CheckedDebugs.{CheckedDebugs}

-- there is a debug program at the offset, and it weighs this much, which is less than 2^36 by its size
pub record HasDebugAt (b : List ℕ) (off weight : ℕ) : Type 0 where
  pub program : Debug
  pub at : DebugAt b off program
  pub weighs : debug_weight program ≡ weight
  pub light : weight < 2 ^ 36

-- there is a debug program at the offset of each that was checked, and it has that weight
abbrev pub AreCheckedDebugs : List ℕ → CheckedDebugs → Type 0
AreCheckedDebugs b checked = (off weight : ℕ) → get nat_eq checked.weights off ≡ Some weight → HasDebugAt b off weight
