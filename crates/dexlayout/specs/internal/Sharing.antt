-- Items that equal uses share, as they are found use by use.
use Rattle.std.specs.Prelude.{◌≡◌, ℕ, Bool, List, Option, map, All}
use Rattle.std.specs.Option.{option_map}
use Rattle.dexspec.specs.Lists.{present}
use Rattle.dexspec.specs.Placing.{shared_items}

-- the uses have these items, and these are the numbers of each
pub record HaveItems {X : Type 0} (same : X → X → Bool) (uses : List (Option X)) (written : List X)
    (numbers : List (Option ℕ)) : Type 0 where
  pub written_are : written ≡ (shared_items same uses).written
  pub numbers_are : numbers ≡ (shared_items same uses).numbers

-- The same of uses that denote others: what is used is known, and denotes what the uses are.
pub record SharedTo {X Y : Type 0} (same : X → X → Bool) (meant : X → Y) (IsKnown : X → Type 0) (uses : List (Option Y))
    (written : List X) (numbers : List (Option ℕ)) : Type 0 where
  pub used : List (Option X)
  pub items : HaveItems same used written numbers
  pub known : All IsKnown (present used)
  pub mean : map (option_map meant) used ≡ uses
