-- a header before the rest of the file of classes in order
use Rattle.std.specs.Prelude.{◌≡◌, ℕ, ◌+◌, List, ◌++◌, length}
use Rattle.std.specs.List.{flat_map}
use Rattle.dexspec.specs.Bytes.{round_up, padding}
use Rattle.dexspec.specs.Placing.{Ordered, section_bytes, end}
use Rattle.dexspec.specs.Canonical.{table_bytes, map_of, map_bytes, data_sections, directory_section}
use Rattle.dexhead.specs.declared.head.Head.{Head}
use Rattle.dexhead.specs.Written.{StatesTables}

-- where the map begins
abbrev pub map_start : Ordered → ℕ
map_start K = round_up 4 (end (directory_section K))

-- the map, the last section
abbrev pub map_list : Ordered → List ℕ
map_list K = map_bytes (map_of K (map_start K))

-- what follows the header: the rows, the sections, and the map
abbrev pub after_header : Ordered → List ℕ
after_header K =
    table_bytes K ++ (flat_map section_bytes (data_sections K) ++ (padding 4 (end (directory_section K)) ++ map_list K))

-- the header describes all that follows it, and how long that is
pub record StatesLayout (h : Head) (K : Ordered) : Type 0 where
  pub tables : StatesTables h K
  pub map_begins : h.map_off ≡ map_start K
  pub file_ends : h.file_size ≡ map_start K + length (map_list K)
