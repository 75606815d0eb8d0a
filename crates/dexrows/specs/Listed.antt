-- Borrowed lists of numbers.
use Rattle.std.specs.Prelude.{ℕ, ◌/◌, List, length}
use Rattle.dexspec.specs.Bytes.{ushorts_at}
use Rattle.dexrows.specs.declared.type_numbers.Listed.{Listed}
use Rattle.dexrows.specs.declared.type_numbers.Listed.TheVariants.{Words, Shorts}

-- the numbers of a list, however it is kept
abbrev pub numbers_in : Listed → List ℕ
numbers_in (Words numbers) = numbers.now
numbers_in (Shorts bytes) = ushorts_at bytes.now 0 (length bytes.now / 2)
