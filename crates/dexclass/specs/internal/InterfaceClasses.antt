-- The types of interfaces, remapped if there is a map.
use Rattle.std.specs.Prelude.{ℕ, List, Option, None, Some}
use Rattle.std.specs.Borrow.{Bor}
use Rattle.dexpool.specs.Numberings.{Maps}
use Rattle.dexclass.specs.Renumbering.{image_or_same, remapped_types}

-- the number of a type, remapped if there is a map
abbrev pub type_of : Option (Bor Maps) → ℕ → ℕ
type_of None number = number
type_of (Some r) number = image_or_same r.now.types number

-- the numbers, each remapped if there is a map
abbrev pub types_of : Option (Bor Maps) → List ℕ → List ℕ
types_of None numbers = numbers
types_of (Some r) numbers = remapped_types r.now numbers
