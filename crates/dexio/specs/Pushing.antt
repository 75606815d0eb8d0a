-- A vector of bytes after bytes were appended to it, where it had room for them.
use Rattle.std.specs.Prelude.{◌≡◌, ℕ, ◌+◌, ◌≤◌, List, ◌++◌, length, vec_len, vec_capacity}
use Rattle.std.specs.Global.{Vec}

-- the item is at the end
pub record Pushes (item : List ℕ) (old new : Vec ℕ) : Type 0 where
  pub items : new.items ≡ old.items ++ item
  pub len : vec_len new ≡ vec_len old + length item
  pub capacity : vec_capacity old ≤ vec_capacity new

-- there is room for it
abbrev pub HasRoomFor : List ℕ → Vec ℕ → Type 0
HasRoomFor item old = vec_len old + length item ≤ vec_capacity old
