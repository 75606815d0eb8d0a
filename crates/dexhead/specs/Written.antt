-- the bytes of a header and of a map
use Rattle.std.specs.Prelude.{◌≡◌, ℕ, ◌-◌, List, ◌++◌, map}
use Rattle.std.specs.List.{flat_map}
use Rattle.dexspec.specs.Bytes.{uint}
use Rattle.dexspec.specs.Header.{header_length}
use Rattle.dexspec.specs.Sections.{Section}
use Rattle.dexspec.specs.Placing.{Ordered}
use Rattle.dexspec.specs.Canonical.{magic, map_bytes, placed_tables, data_start}
use Rattle.dexhead.specs.declared.head.Head.{Head}
use Rattle.dexhead.specs.declared.head.Rows.{Rows}
use Rattle.dexhead.specs.declared.map_list.MapEntry.{MapEntry}
use Rattle.dexhead.specs.Sections.{section_meant}

-- a table's number of rows, and where they begin
abbrev pub rows_bytes : Rows → List ℕ
rows_bytes r = uint r.size ++ uint r.off

-- the part of a header after its signature
unfoldable pub field_bytes : Head → List ℕ
field_bytes h =
    uint h.file_size ++ (uint header_length ++ (uint 0x12345678 ++ (uint 0 ++ (uint 0 ++ (uint h.map_off
    ++ (flat_map rows_bytes h.tables ++ (uint h.data_size ++ uint h.data_off)))))))

-- a header
unfoldable pub head_bytes : Head → List ℕ
head_bytes h = magic ++ (uint h.checksum ++ (h.signature ++ field_bytes h))

-- a table's number of rows, and where they begin, as numbers
abbrev pub rows_meant : Rows → ℕ × ℕ
rows_meant r = (r.size, r.off)

-- the header has the offsets of the tables and the data of these classes in their file
pub record StatesTables (h : Head) (K : Ordered) : Type 0 where
  pub rows : map rows_meant h.tables ≡ map (λ t. (t.1, t.2)) (placed_tables K)
  pub data_begins : h.data_off ≡ data_start K
  pub data_ends : h.data_size ≡ h.file_size - data_start K

-- the section of an entry, the number of its items, and the offset of the first
abbrev pub entry_meant : MapEntry → Section × ℕ × ℕ
entry_meant e = (section_meant e.section, e.size, e.off)

-- a map of these entries
abbrev pub map_list_bytes : List MapEntry → List ℕ
map_list_bytes entries = map_bytes (map entry_meant entries)
