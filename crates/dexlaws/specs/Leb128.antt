-- The statements of the laws of LEB128 numbers.
use Rattle.std.specs.Prelude.{◌≡◌, ◌↔◌, ℕ, ◌≤◌, List, ◌++◌, length}
use Rattle.dexspec.specs.Numbers.{BeginsWith}

-- the bytes encode the number, and no encoding of it is shorter
pub record IsShortest {V : Type 0} (Says : List ℕ → V → Type 0) (bytes : List ℕ) (v : V) : Type 0 where
  pub spelled : Says bytes v
  pub least : (other : List ℕ) → Says other v → length bytes ≤ length other

-- bytes of which an encoding is a prefix begin with its number, in the encoding's length, and with no other
abbrev pub BeginsWithOne : {X : Type 0} → (List ℕ → X → Type 0) → Type 0
BeginsWithOne {X} Encodes =
    (a rest : List ℕ) (v w : X) (n : ℕ) → Encodes a v → BeginsWith Encodes (a ++ rest) w n ↔ ((w ≡ v) × (n ≡ length a))
