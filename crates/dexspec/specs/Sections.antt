-- The offsets of the tables, the data and the map: conditions 9 and 10. Source: "Dalvik Executable format",
-- "header_item", "map_list", "map_item" and "Type codes".
use Rattle.std.specs.Prelude.{◌≡◌, ◌≢◌, ℕ, zero, suc, ◌+◌, ◌*◌, ◌%◌, ◌<◌, ◌≤◌, ◌⊎◌, List, [], ◌∷◌, length, map, All}
use Rattle.std.specs.Prelude.{IsTrue}
use Rattle.std.specs.List.{Contains}
use Rattle.std.specs.Ordering.{nat_cmp}
use Rattle.dexspec.specs.Lists.{rises, AreDistinct}
use Rattle.dexspec.specs.Bytes.{uint_at, ushort_at}
use Rattle.dexspec.specs.Header.{Table, StringIds, TypeIds, ProtoIds, FieldIds, MethodIds, ClassDefs, tables}
use Rattle.dexspec.specs.Header.{table_size, table_off, row_size, MayHave, data_size, data_off, file_size}
use Rattle.dexspec.specs.Header.{header_length, map_off}

-- ---- condition 9

-- An empty table has offset 0. The others are in order at multiples of 4, each after the part before it, and the last
-- ends at or before data_off.
abbrev pub AreLaidOut : List ℕ → ℕ → List Table → Type 0
AreLaidOut b from [] = from ≤ data_off b
AreLaidOut b from (t ∷ ts) = ((table_size b t ≡ 0) × (table_off b t ≡ 0) × AreLaidOut b from ts)
    ⊎ ((table_size b t ≢ 0) × (table_off b t % 4 ≡ 0) × (from ≤ table_off b t)
    × AreLaidOut b (table_off b t + row_size t * table_size b t) ts)

-- 9 Layout (this project's rule in part)
pub record HasLayout (b : List ℕ) : Type 0 where
  pub tables : AreLaidOut b header_length tables
  pub data_end : data_off b + data_size b ≡ file_size b
  pub few : (t : Table) → MayHave t (table_size b t)

-- the n bytes from o on are in the data
pub record IsInData (b : List ℕ) (o n : ℕ) : Type 0 where
  pub following : data_off b ≤ o
  pub within : o + n ≤ length b

-- ---- the map

-- the kinds of section
pub data Section : Type 0 where
  HeaderItem : Section
  TableOf : (table : Table) → Section
  MapList TypeLists AnnotationSetRefLists AnnotationSets ClassDataItems CodeItems StringDataItems : Section
  DebugInfoItems AnnotationItems EncodedArrayItems AnnotationsDirectories : Section

-- the code of a kind of section in a map
abbrev pub type_code : Section → ℕ
type_code HeaderItem = 0x0000
type_code (TableOf StringIds) = 0x0001
type_code (TableOf TypeIds) = 0x0002
type_code (TableOf ProtoIds) = 0x0003
type_code (TableOf FieldIds) = 0x0004
type_code (TableOf MethodIds) = 0x0005
type_code (TableOf ClassDefs) = 0x0006
type_code MapList = 0x1000
type_code TypeLists = 0x1001
type_code AnnotationSetRefLists = 0x1002
type_code AnnotationSets = 0x1003
type_code ClassDataItems = 0x2000
type_code CodeItems = 0x2001
type_code StringDataItems = 0x2002
type_code DebugInfoItems = 0x2003
type_code AnnotationItems = 0x2004
type_code EncodedArrayItems = 0x2005
type_code AnnotationsDirectories = 0x2006

-- an entry of the map: a type code, a number of items, the offset of the first
pub record MapEntry : Type 0 where
  pub kind : ℕ
  pub size : ℕ
  pub off : ℕ

-- the n entries from o on, each of 12 bytes, of which two are not read
abbrev pub entries_at : List ℕ → ℕ → ℕ → List MapEntry
entries_at b o zero = []
entries_at b o (suc n) =
    record { kind = ushort_at b o; size = uint_at b (o + 4); off = uint_at b (o + 8) } ∷ entries_at b (o + 12) n

-- the entries of the map_list at map_off
abbrev pub map_entries : List ℕ → List MapEntry
map_entries b = entries_at b (map_off b + 4) (uint_at b (map_off b))

-- the entry's kind is one of the eighteen
abbrev pub IsKnown : MapEntry → Type 0
IsKnown e = (s : Section) × (e.kind ≡ type_code s)

-- a table that is not empty has its entry; an empty table has none
abbrev pub HasTable : List ℕ → List MapEntry → Table → Type 0
HasTable b es t = ((table_size b t ≡ 0) × All (λ e. e.kind ≢ type_code (TableOf t)) es)
    ⊎ ((table_size b t ≢ 0)
    × Contains es (record { kind = type_code (TableOf t); size = table_size b t; off = table_off b t }))

-- an entry of neither the header nor a table begins in the data
abbrev pub IsPlaced : List ℕ → MapEntry → Type 0
IsPlaced b e = (e.kind < 7) ⊎ ((data_off b ≤ e.off) × (e.off < file_size b))

-- 10 Map (this project's rule in part): sizes of data sections are not compared with use
pub record HasMap (b : List ℕ) : Type 0 where
  pub in_data : IsInData b (map_off b) (4 + 12 * uint_at b (map_off b))
  pub aligned : map_off b % 4 ≡ 0
  pub known : All IsKnown (map_entries b)
  pub once : AreDistinct (map (λ e. e.kind) (map_entries b))
  pub rise : IsTrue (rises nat_cmp (map (λ e. e.off) (map_entries b)))
  pub header : (es : List MapEntry) × (map_entries b ≡ record { kind = type_code HeaderItem; size = 1; off = 0 } ∷ es)
  pub tables : (t : Table) → HasTable b (map_entries b) t
  pub itself : Contains (map_entries b) (record { kind = type_code MapList; size = 1; off = map_off b })
  pub others : All (IsPlaced b) (map_entries b)
