-- The first unit of a descriptor.
use Rattle.std.specs.Prelude.{ℕ, List, [], ◌∷◌}

-- the first unit, and 0 where there is none
abbrev pub first_of : List ℕ → ℕ
first_of [] = 0
first_of (u ∷ s) = u
