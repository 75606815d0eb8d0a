-- The interfaces of a class, however they are kept.
use Rattle.std.specs.Prelude.{ℕ, ◌/◌, List, length}
use Rattle.dexspec.specs.Bytes.{ushorts_at}
use Rattle.dexclass.specs.declared.interface_lists.Kept.{Kept}
use Rattle.dexclass.specs.declared.interface_lists.Kept.TheVariants.{File, Own, Shared}

-- the numbers of the types
abbrev pub numbers_in : Kept → List ℕ
numbers_in (File list) = ushorts_at list.bytes.now 0 (length list.bytes.now / 2)
numbers_in (Own numbers) = numbers.items
numbers_in (Shared part) = part
