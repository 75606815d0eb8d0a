-- Members of a list that are equal in what a function gives for them.
use Rattle.std.specs.Prelude.{◌≡◌, ℕ, ◌<◌, ◌≤◌, List, length, slice_index_or}

-- for each member the place of one for which the function gives the same: its own, or one before it
pub record AreFirstEqual {X Y : Type 0} (f : X → Y) (xs : List X) (firsts : List ℕ) : Type 0 where
  pub count : length firsts ≡ length xs
  pub before : (i : ℕ) → i < length xs → slice_index_or firsts i 0 ≤ i
  pub equal : (i : ℕ) (d : X) → i < length xs
      → f (slice_index_or xs (slice_index_or firsts i 0) d) ≡ f (slice_index_or xs i d)
