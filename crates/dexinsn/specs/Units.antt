-- Code units as they are borrowed.
use Rattle.std.specs.Prelude.{ℕ, ◌/◌, ◌<◌, ◌^◌, List, length}
use Rattle.dexspec.specs.Bytes.{ushorts_at}
use Rattle.dexinsn.specs.declared.code_units.Source.{Source}
use Rattle.dexinsn.specs.declared.code_units.Source.TheVariants.{Numbers, Bytes}

-- the units that bytes spell, two for each
abbrev pub units_in : List ℕ → List ℕ
units_in bytes = ushorts_at bytes 0 (length bytes / 2)

-- the units of what is borrowed
abbrev pub units_from : Source → List ℕ
units_from (Numbers numbers) = numbers.now
units_from (Bytes bytes) = units_in bytes.now

-- they are no more than a memory holds
abbrev pub IsInMemory : Source → Type 0
IsInMemory (Numbers numbers) = length numbers.now < 2 ^ 62
IsInMemory (Bytes bytes) = length bytes.now < 2 ^ 63
