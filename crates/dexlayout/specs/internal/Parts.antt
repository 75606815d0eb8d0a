-- The tables and the map that a layout is put together from.
use Rattle.std.specs.Prelude.{◌≡◌, ℕ, ◌+◌, ◌*◌, ◌==◌, if◌then◌else◌, not, List, [], ◌∷◌, length, map, count_by}
use Rattle.dexspec.specs.Bytes.{round_up}
use Rattle.dexspec.specs.Header.{header_length}
use Rattle.dexspec.specs.Sections.{Section, TableOf}
use Rattle.dexspec.specs.Placing.{Ordered, offsets, end}
use Rattle.dexspec.specs.Canonical.{placed_tables, data_start, data_sections, string_section}
use Rattle.dexhead.specs.Written.{rows_meant}
use Rattle.dexspec.specs.Mentions.{Mentions}
use Rattle.dexclass.specs.Numbered.{NumberedClass}
use Rattle.dexlayout.specs.declared.data.Back.{Back}
use Rattle.dexlayout.specs.declared.bodies.Bodies.{Bodies}
use Rattle.dexlayout.specs.declared.data.Data.{Data}
use Rattle.dexlayout.specs.declared.data.FirstSections.{FirstSections}
use Rattle.dexlayout.specs.declared.tables.Tables.{Tables}
use Rattle.dexlayout.specs.Laid.{ordered_of, AreLaidSo, AreTypeLists, AreAnnotations, AreDebugs, AreSets}
use Rattle.dexlayout.specs.Laid.{AreStaticValues, AreCodes, AreClassData, AreRefLists, AreDirectories}

-- a table of `size` rows, and where it begins if it is not empty
abbrev pub rows_from : ℕ → ℕ → ℕ × ℕ
rows_from size from = (size, if size == 0 then 0 else from)

-- the six tables have these offsets, and the data begin after them
pub record AreTables (K : Ordered) (t : Tables) : Type 0 where
  pub string_ids_are : rows_meant t.string_ids ≡ rows_from (length K.pools.texts) header_length
  pub type_ids_are : rows_meant t.type_ids ≡ rows_from (length K.pools.types) (header_length + 4 * length K.pools.texts)
  pub proto_ids_are : rows_meant t.proto_ids
      ≡ rows_from (length K.pools.protos) (header_length + 4 * length K.pools.texts + 4 * length K.pools.types)
  pub field_ids_are : rows_meant t.field_ids
      ≡ rows_from (length K.pools.fields)
      (header_length + 4 * length K.pools.texts + 4 * length K.pools.types + 12 * length K.pools.protos)
  pub method_ids_are : rows_meant t.method_ids
      ≡ rows_from (length K.pools.methods)
      (header_length + 4 * length K.pools.texts + 4 * length K.pools.types + 12 * length K.pools.protos
      + 8 * length K.pools.fields)
  pub class_defs_are : rows_meant t.class_defs
      ≡ rows_from (length K.classes)
      (header_length + 4 * length K.pools.texts + 4 * length K.pools.types + 12 * length K.pools.protos
      + 8 * length K.pools.fields + 8 * length K.pools.methods)
  pub end_is : t.end ≡ data_start K

-- the entry of a part, unless it is empty
abbrev pub entry_of : Section × ℕ × ℕ → List (Section × ℕ × ℕ)
entry_of e = if e.1 == 0 then [] else e ∷ []

-- the tables as parts of the map
abbrev pub table_parts : Ordered → List (Section × ℕ × ℕ)
table_parts K = map (λ t. (TableOf t.0, t.1, t.2)) (placed_tables K)

-- the sections of the data as parts of the map, each at the offset that its first item would have
abbrev pub section_parts : Ordered → List (Section × ℕ × ℕ)
section_parts K = map (λ p. (p.kind, length p.items, round_up p.align p.from)) (data_sections K)

-- how many offsets are those of an item
abbrev pub count_placed : List ℕ → ℕ
count_placed offs = count_by (λ o. not (o == 0)) offs

-- the items of the sections up to the string data have the offsets that they have in the file of these classes
pub record AreFirstSections (m : Mentions) (cs : List NumberedClass) (f : FirstSections) : Type 0 where
  pub type_lists_are : AreTypeLists m cs f.type_lists
  pub annotations_are : AreAnnotations m cs f.annotations
  pub static_values_are : AreStaticValues m cs f.static_values
  pub strings_are : AreLaidSo (offsets (string_section (ordered_of m cs))) (end (string_section (ordered_of m cs)))
      f.strings

-- the same of the sections from the debug programs to the class data
pub record AreBodies (m : Mentions) (cs : List NumberedClass) (b : Bodies) : Type 0 where
  pub debugs_are : AreDebugs m cs b.debugs
  pub codes_are : AreCodes m cs b.codes
  pub class_data_are : AreClassData m cs b.class_data

-- and of the last sections
pub record AreBack (m : Mentions) (cs : List NumberedClass) (b : Back) : Type 0 where
  pub sets_are : AreSets m cs b.sets
  pub ref_lists_are : AreRefLists m cs b.ref_lists
  pub directories_are : AreDirectories m cs b.directories

-- the items of each section of the data have these offsets
pub record AreData (m : Mentions) (cs : List NumberedClass) (d : Data) : Type 0 where
  pub first_sections_are : AreFirstSections m cs d.first_sections
  pub bodies_are : AreBodies m cs d.bodies
  pub back_are : AreBack m cs d.back
