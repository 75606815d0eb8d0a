-- What a fault says of the file.
use Rattle.std.specs.Prelude.{ℕ, ◌≤◌, List}
use Rattle.dexspec.specs.Accepted.{IsRefused}
use Rattle.dexhead.specs.declared.refusal.Refusal.{Refusal}
use Rattle.dexids.specs.declared.faults.ReadFault.{ReadFault}
use Rattle.dexids.specs.declared.faults.ReadFault.TheVariants.{Refused, Memory}

-- one of the conditions 11 to 15 is the first that fails, at its least row
pub record IsPoolRefusal (b : List ℕ) (r : Refusal) : Type 0 where
  pub refused : IsRefused b r.number r.place
  pub least : 11 ≤ r.number
  pub most : r.number ≤ 15

-- a failed allocation says nothing
abbrev pub IsFault : List ℕ → ReadFault → Type 0
IsFault b Memory = Unit {0}
IsFault b (Refused r) = IsPoolRefusal b r
