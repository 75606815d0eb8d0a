-- The units of pieces, those of an index zero.
use Rattle.std.specs.Prelude.{ℕ, ◌+◌, ◌<◌, ◌≤◌, ◌==◌, ◌&&◌, ◌||◌, Bool, List, length, drop, get_or}
use Rattle.dexspec.specs.Pieces.{is_wide_index}
use Rattle.dexinsn.specs.declared.pieces.Index.{Index}
use Rattle.dexinsn.specs.Numbered.{NumberedPiece, Instruction, Payload}

-- the units of the piece, those of its index zero
abbrev pub blank_units : NumberedPiece → List ℕ
blank_units (Instruction us number) = us
blank_units (Payload us) = us

-- the unit is one of the index
abbrev pub covers : List ℕ → ℕ → Index → Bool
covers us i x = (i == x.unit + 1) || ((i == x.unit + 2) && is_wide_index (drop x.unit us))

-- the indices are in the order of their units
abbrev pub Rise : List Index → Type 0
Rise is = (i j : ℕ) (d : Index) → i < j → j < length is → (get_or is i d).unit < (get_or is j d).unit

-- `count` of the indices are before a unit, and the others are not
pub record IsCountBefore (is : List Index) (unit count : ℕ) : Type 0 where
  pub within : count ≤ length is
  pub before : (k : ℕ) (d : Index) → k < count → (get_or is k d).unit < unit
  pub after : (k : ℕ) (d : Index) → count ≤ k → k < length is → unit ≤ (get_or is k d).unit
