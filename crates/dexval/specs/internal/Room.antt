-- The memory that is reserved for items before they are read.
use Rattle.std.specs.Prelude.{◌≡◌, ℕ, ◌≤◌, [], vec_capacity}
use Rattle.std.specs.Global.{Vec}

-- an empty vector with room for at most `left` items, and for no more than 4,096
pub record IsEmptyWithin {X : Type 0} (left : ℕ) (items : Vec X) : Type 0 where
  pub empty : items.items ≡ []
  pub within : vec_capacity items ≤ left
  pub few : vec_capacity items ≤ 4096
