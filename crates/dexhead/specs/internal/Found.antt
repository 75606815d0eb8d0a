-- a map that was found
use Rattle.std.specs.Prelude.{List}
use Rattle.dexspec.specs.Sections.{MapEntry, entries_at}
use Rattle.dexhead.specs.declared.map.Map.{Map}

-- its entries
unfoldable pub entries : Map → List MapEntry
entries m = entries_at m.bytes.now m.from m.count
