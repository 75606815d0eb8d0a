-- Code items as they are checked: what they weigh, and nothing else is kept of them.
use Rattle.std.specs.Prelude.{◌≡◌, ◌≢◌, ℕ, ◌+◌, ◌^◌, ◌<◌, List, Bool, Option, None, sum_by, option_to_list}
use Rattle.dexspec.specs.Bytes.{uint_at}
use Rattle.dexspec.specs.Code.{Code, CodeAt}
use Rattle.dexspec.specs.Debug.{Debug, DebugAt}
use Rattle.dexspec.specs.Lists.{OrNone, SomeAt}
use Rattle.dexspec.specs.Weight.{code_weight, debug_weight}
use Rattle.dexpool.specs.declared.faults.ItemFault.{ItemFault}
use Rattle.dexpool.specs.declared.faults.ItemFault.TheVariants.{Refused, Memory}
use Rattle.dexcode.specs.CodePut.{numbered_tries_weight}
use Rattle.dexcode.specs.Numbered.{NumberedTry}
use Rattle.dexcode.specs.Reading.{TriesAt}

-- what code weighs, with its debug program
abbrev pub one_code_weight : Code → ℕ
one_code_weight c = code_weight c + sum_by debug_weight (option_to_list c.debug)

-- there is code at the offset, and it weighs this much with its debug program
pub record HasCodeOf (b : List ℕ) (off weight : ℕ) : Type 0 where
  pub code : Code
  pub at : CodeAt b off code
  pub weighs : one_code_weight code ≡ weight

-- the tries of the code_item at an offset are these, and weigh this much
pub record HaveTriesOf (starts : List Bool) (types : ℕ) (b : List ℕ) (off weight : ℕ) : Type 0 where
  pub tries : List NumberedTry
  pub at : TriesAt starts types b off tries
  pub weighs : numbered_tries_weight tries ≡ weight

-- the debug program of the code_item at an offset weighs this much; without one the weight is 0
pub record HasProgramOf (b : List ℕ) (off weight : ℕ) : Type 0 where
  pub program : Option Debug
  pub at : OrNone (SomeAt DebugAt) None b (uint_at b (off + 8)) program
  pub weighs : sum_by debug_weight (option_to_list program) ≡ weight
  pub light : weight < 2 ^ 36

-- the code_item at an offset has the offset of a debug program, where there is none; a failed allocation says nothing
abbrev pub IsProgramFault : List ℕ → ℕ → ItemFault → Type 0
IsProgramFault b off (Refused number) =
    (number ≡ 20) × (uint_at b (off + 8) ≢ 0) × ((d : Debug) → DebugAt b (uint_at b (off + 8)) d → ⊥)
IsProgramFault b off Memory = Unit {0}
