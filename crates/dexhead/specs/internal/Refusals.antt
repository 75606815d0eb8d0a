-- what a refusal says
use Rattle.std.specs.Prelude.{ℕ, ◌≤◌, List}
use Rattle.dexspec.specs.Accepted.{IsRefused}
use Rattle.dexhead.specs.declared.refusal.Refusal.{Refusal}

-- one of the first ten conditions is the first that fails
pub record IsEarly (b : List ℕ) (r : Refusal) : Type 0 where
  pub refused : IsRefused b r.number r.place
  pub early : r.number ≤ 10
