-- The result of a call that appends to a vector of bytes. This project's rule.
use Rattle.std.specs.Prelude.{◌≡◌, ℕ, ◌+◌, ◌≤◌, List, ◌++◌, length, Result, OnOk, OnErr, IsOk, vec_len, vec_capacity}
use Rattle.std.specs.Global.{Vec}

-- On success the item is appended; on failure the old contents are kept. The call succeeds if the spare capacity is
-- enough for the item.
pub record Puts {T E : Type 0} (item : List ℕ) (old new : Vec ℕ) (r : Result T E) : Type 0 where
  pub ok : OnOk r (new.items ≡ old.items ++ item)
  pub len : OnOk r (vec_len new ≡ vec_len old + length item)
  pub err : OnErr r (new.items ≡ old.items)
  pub room : vec_len old + length item ≤ vec_capacity old → IsOk r
  pub capacity : vec_capacity old ≤ vec_capacity new
