-- Numbers that lists share.
use Rattle.std.specs.Prelude.{ℕ, ◌/◌, List, length}
use Rattle.dexspec.specs.Bytes.{ushorts_at}
use Rattle.dexclass.specs.declared.list_parts.SharedNumbers.{SharedNumbers}
use Rattle.dexclass.specs.declared.list_parts.SharedNumbers.TheVariants.{Shorts, Words}

-- the numbers, however they are kept
abbrev pub shared_in : SharedNumbers → List ℕ
shared_in (Shorts bytes) = ushorts_at bytes.value.items 0 (length bytes.value.items / 2)
shared_in (Words words) = words.value.items
