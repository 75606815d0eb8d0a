-- What a write that fails has taken of its bytes.
use Rattle.std.specs.Prelude.{◌≡◌, ℕ, List, ◌++◌, take}

-- a prefix of the bytes was appended to those taken, perhaps an empty one
abbrev pub TakesPrefix : List ℕ → List ℕ → List ℕ → Type 0
TakesPrefix old new bytes = (n : ℕ) × (new ≡ old ++ take n bytes)
