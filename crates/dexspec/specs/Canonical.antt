-- The canonical file of a collection. Source: "Dalvik Executable format", "Overall file layout", "header_item",
-- "map_list" and the items of the tables. The order of the sections and of their items is this project's rule.
use Rattle.std.specs.Prelude.{ℕ, ◌+◌, ◌-◌, ◌*◌, ◌==◌, if◌then◌else◌, List, [], ◌∷◌, ◌++◌, length, map, drop}
use Rattle.std.specs.Prelude.{slice_index}
use Rattle.std.specs.List.{flat_map, concat, zip}
use Rattle.std.specs.Option.{option_map_or}
use Rattle.sha1.specs.Sha1.{sha1}
use Rattle.dexspec.specs.Lists.{chunks, zip_with}
use Rattle.dexspec.specs.Bytes.{ushort, uint, round_up, padding}
use Rattle.dexspec.specs.Texts.{Text, string_data}
use Rattle.dexspec.specs.Names.{shorty}
use Rattle.dexspec.specs.Symbols.{Proto, Field, Method}
use Rattle.dexspec.specs.Header.{Table, StringIds, TypeIds, ProtoIds, FieldIds, MethodIds, ClassDefs, adler_32}
use Rattle.dexspec.specs.Header.{header_length, row_size}
use Rattle.dexspec.specs.Sections.{Section, HeaderItem, TableOf, MapList, TypeLists, AnnotationSetRefLists}
use Rattle.dexspec.specs.Sections.{AnnotationSets, ClassDataItems, CodeItems, StringDataItems, DebugInfoItems}
use Rattle.dexspec.specs.Sections.{AnnotationItems, EncodedArrayItems, AnnotationsDirectories, type_code}
use Rattle.dexspec.specs.Debug.{Debug}
use Rattle.dexspec.specs.Annotations.{AnnotationSet}
use Rattle.dexspec.specs.Classes.{Definition, no_index}
use Rattle.dexspec.specs.Sameness.{same_types, same_debug, same_set}
use Rattle.dexspec.specs.Files.{Collection, definitions}
use Rattle.dexspec.specs.Mentions.{Mentions, mentions}
use Rattle.dexspec.specs.Depth.{in_class_order}
use Rattle.dexspec.specs.Spellings.{text_index, type_index, proto_index, type_list_bytes, code_bytes, debug_bytes}
use Rattle.dexspec.specs.Spellings.{encoded_array_bytes, annotation_bytes, offsets_bytes, class_data_bytes}
use Rattle.dexspec.specs.Placing.{Items, own_items, unnumbered_items, EqualOnce, items_by, Placed, section, offsets}
use Rattle.dexspec.specs.Placing.{end, section_bytes, uses_offsets, Ordered, type_list_uses, set_uses, debug_uses}
use Rattle.dexspec.specs.Placing.{code_uses, static_values_uses, class_data_uses, SetOffsets, set_offsets_by_class}
use Rattle.dexspec.specs.Placing.{ref_list_uses, directory_uses}

-- ---- the tables

-- the number of rows
abbrev pub table_count : Ordered → Table → ℕ
table_count C StringIds = length C.pools.texts
table_count C TypeIds = length C.pools.types
table_count C ProtoIds = length C.pools.protos
table_count C FieldIds = length C.pools.fields
table_count C MethodIds = length C.pools.methods
table_count C ClassDefs = length C.classes

-- the tables with their sizes and offsets, each after the one before it; an empty table has offset 0
abbrev pub tables_from : Ordered → ℕ → List Table → List (Table × ℕ × ℕ)
tables_from C from [] = []
tables_from C from (t ∷ ts) = (t, table_count C t, if table_count C t == 0 then 0 else from)
    ∷ tables_from C (from + row_size t * table_count C t) ts

-- the six tables in their order
abbrev pub placed_tables : Ordered → List (Table × ℕ × ℕ)
placed_tables C = tables_from C header_length (StringIds ∷ TypeIds ∷ ProtoIds ∷ FieldIds ∷ MethodIds ∷ ClassDefs ∷ [])

-- the end of the class rows
abbrev pub data_start : Ordered → ℕ
data_start C = header_length + 4 * table_count C StringIds + 4 * table_count C TypeIds + 12 * table_count C ProtoIds
    + 8 * table_count C FieldIds + 8 * table_count C MethodIds + 32 * table_count C ClassDefs

-- a proto_id_item
abbrev pub proto_row_bytes : Mentions → Proto → ℕ → List ℕ
proto_row_bytes m p list_off =
    uint (text_index m (shorty p.return_type p.parameters)) ++ (uint (type_index m p.return_type) ++ uint list_off)

-- a field_id_item
abbrev pub field_row_bytes : Mentions → Field → List ℕ
field_row_bytes m f = ushort (type_index m f.class) ++ (ushort (type_index m f.type) ++ uint (text_index m f.name))

-- a method_id_item
abbrev pub method_row_bytes : Mentions → Method → List ℕ
method_row_bytes m x = ushort (type_index m x.class) ++ (ushort (proto_index m x.proto) ++ uint (text_index m x.name))

-- a class_def_item, with the offsets of its interfaces, annotations, class data and static values
abbrev pub class_row_bytes : Mentions → Definition → ℕ × ℕ × ℕ × ℕ → List ℕ
class_row_bytes m (name, c) offs =
    uint (type_index m name) ++ (uint c.flags ++ (uint (option_map_or (type_index m) c.superclass no_index)
    ++ (uint offs.0 ++ (uint (option_map_or (text_index m) c.source no_index)
    ++ (uint offs.1 ++ (uint offs.2 ++ uint offs.3))))))

-- ---- the sections of the data, each after the one before it: items hold offsets of items of earlier sections

-- the type lists that are written
abbrev pub type_list_items : Ordered → Items (List Text)
type_list_items C = items_by C.sharing same_types (type_list_uses C)

-- the type lists: of each proto, then of each class
unfoldable pub type_list_section : Ordered → Placed
type_list_section C = section TypeLists 4 (data_start C) (type_list_bytes C.pools) (type_list_items C)

-- the sets that are written
abbrev pub set_items : Ordered → Items AnnotationSet
set_items C = items_by C.sharing same_set (set_uses C)

-- their annotations, set by set
unfoldable pub annotation_section : Ordered → Placed
annotation_section C = section AnnotationItems 1 (end (type_list_section C)) (annotation_bytes C.pools)
    (unnumbered_items (flat_map (λ set. set) (set_items C).written))

-- the offsets of the annotations, set by set
unfoldable pub annotation_offsets : Ordered → List (List ℕ)
annotation_offsets C = chunks (map (λ set. length set) (set_items C).written) (offsets (annotation_section C))

-- for each class its static values
unfoldable pub array_section : Ordered → Placed
array_section C = section EncodedArrayItems 1 (end (annotation_section C)) (encoded_array_bytes C.pools)
    (own_items (static_values_uses C))

-- the string data
unfoldable pub string_section : Ordered → Placed
string_section C =
    section StringDataItems 1 (end (array_section C)) string_data (unnumbered_items C.pools.texts)

-- the debug programs that are written
abbrev pub debug_items : Ordered → Items Debug
debug_items C = items_by C.sharing same_debug (debug_uses C)

-- for each method its debug program
unfoldable pub debug_section : Ordered → Placed
debug_section C = section DebugInfoItems 1 (end (string_section C)) (debug_bytes C.pools) (debug_items C)

-- for each method its code item
unfoldable pub code_section : Ordered → Placed
code_section C = section CodeItems 4 (end (debug_section C)) (λ p. code_bytes C.pools p.1 p.0)
    (own_items (code_uses C (uses_offsets (debug_section C))))

-- for each class its class data
unfoldable pub class_data_section : Ordered → Placed
class_data_section C = section ClassDataItems 1 (end (code_section C)) (λ p. class_data_bytes C.pools p.0 p.1)
    (own_items (class_data_uses C (uses_offsets (code_section C))))

-- the annotation sets, by the offsets of their annotations
unfoldable pub set_section : Ordered → Placed
set_section C =
    section AnnotationSets 4 (end (class_data_section C)) offsets_bytes
    (record { numbers = (set_items C).numbers; written = annotation_offsets C })

-- for each class the offsets of its sets
unfoldable pub set_offsets : Ordered → List SetOffsets
set_offsets C = set_offsets_by_class C (uses_offsets (set_section C))

-- for each method the list of the sets of its parameters, by their offsets
unfoldable pub ref_list_section : Ordered → Placed
ref_list_section C =
    section AnnotationSetRefLists 4 (end (set_section C)) offsets_bytes (own_items (ref_list_uses C (set_offsets C)))

-- for each class its directory
unfoldable pub directory_section : Ordered → Placed
directory_section C = section AnnotationsDirectories 4 (end (ref_list_section C)) (λ bytes. bytes)
    (own_items (directory_uses C (set_offsets C) (uses_offsets (ref_list_section C))))

-- the sections in the order of the file
abbrev pub data_sections : Ordered → List Placed
data_sections C =
    type_list_section C ∷ annotation_section C ∷ array_section C ∷ string_section C ∷ debug_section C ∷ code_section C
    ∷ class_data_section C ∷ set_section C ∷ ref_list_section C ∷ directory_section C ∷ []

-- for each class the offsets in its row
abbrev pub class_offsets : Ordered → List (ℕ × ℕ × ℕ × ℕ)
class_offsets C =
    zip_with (λ p q. (p.0, p.1, q.0, q.1))
    (zip (drop (length C.pools.protos) (uses_offsets (type_list_section C))) (uses_offsets (directory_section C)))
    (zip (uses_offsets (class_data_section C)) (uses_offsets (array_section C)))

-- ---- the map

-- a map_item
abbrev pub map_entry_bytes : Section × ℕ × ℕ → List ℕ
map_entry_bytes e = ushort (type_code e.0) ++ (ushort 0 ++ (uint e.1 ++ uint e.2))

-- the sections that are not empty, with their numbers of items and the offsets of their first items
abbrev pub map_of : Ordered → ℕ → List (Section × ℕ × ℕ)
map_of C map_off =
    (HeaderItem, 1, 0) ∷ (flat_map (λ t. if t.1 == 0 then [] else (TableOf t.0, t.1, t.2) ∷ []) (placed_tables C)
    ++ (flat_map (λ p. if length p.items == 0 then [] else (p.kind, length p.items, slice_index (offsets p) 0) ∷ [])
    (data_sections C) ++ (MapList, 1, map_off) ∷ []))

-- a map_list
abbrev pub map_bytes : List (Section × ℕ × ℕ) → List ℕ
map_bytes es = uint (length es) ++ flat_map map_entry_bytes es

-- ---- the file

-- the rows of the tables
abbrev pub table_bytes : Ordered → List ℕ
table_bytes C =
    flat_map uint (offsets (string_section C)) ++ (flat_map (λ t. uint (text_index C.pools t)) C.pools.types
    ++ (concat (zip_with (proto_row_bytes C.pools) C.pools.protos (uses_offsets (type_list_section C)))
    ++ (flat_map (field_row_bytes C.pools) C.pools.fields ++ (flat_map (method_row_bytes C.pools) C.pools.methods
    ++ concat (zip_with (class_row_bytes C.pools) C.classes (class_offsets C))))))

-- the header after its signature
abbrev pub header_bytes : Ordered → ℕ → ℕ → List ℕ
header_bytes C map_off file_size =
    uint file_size ++ (uint header_length ++ (uint 0x12345678 ++ (uint 0 ++ (uint 0 ++ (uint map_off
    ++ (flat_map (λ t. uint t.1 ++ uint t.2) (placed_tables C)
    ++ (uint (file_size - data_start C) ++ uint (data_start C))))))))

-- the file after the signature
unfoldable pub unsigned_file : Ordered → List ℕ
unsigned_file C =
    let data_end = end (directory_section C) in
    let map_off = round_up 4 data_end in
    let map_list = map_bytes (map_of C map_off) in
    header_bytes C map_off (map_off + length map_list)
    ++ (table_bytes C ++ (flat_map section_bytes (data_sections C) ++ (padding 4 data_end ++ map_list)))

-- the eight bytes of version 035
abbrev pub magic : List ℕ
magic = 0x64 ∷ 0x65 ∷ 0x78 ∷ 0x0a ∷ 0x30 ∷ 0x33 ∷ 0x35 ∷ 0x00 ∷ []

-- the file with the magic and the two sums before it
unfoldable pub with_sums : List ℕ → List ℕ
with_sums rest = magic ++ (uint (adler_32 (sha1 rest ++ rest)) ++ (sha1 rest ++ rest))

-- definitions of different names in class order, with what they mention
abbrev pub ordered : List Definition → Ordered
ordered D = record { classes = in_class_order D; pools = mentions D; sharing = EqualOnce }

-- the canonical file
unfoldable pub canonical : Collection → List ℕ
canonical K = with_sums (unsigned_file (ordered (definitions K)))
