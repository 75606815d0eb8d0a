-- The parameters of a table's protos, however they are kept.
use Rattle.std.specs.Prelude.{ℕ, ◌/◌, List, length}
use Rattle.dexspec.specs.Bytes.{ushorts_at}
use Rattle.dexids.specs.declared.lists.Kept.{Kept}
use Rattle.dexids.specs.declared.lists.Kept.TheVariants.{File, Own}

-- the numbers, of which each row has a part
abbrev pub numbers_in : Kept → List ℕ
numbers_in (File bytes) = ushorts_at bytes.now 0 (length bytes.now / 2)
numbers_in (Own numbers) = numbers.items
