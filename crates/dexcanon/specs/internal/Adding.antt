-- The parts of a file.
use Rattle.std.specs.Prelude.{ℕ, List, ◌++◌, map, drop}
use Rattle.std.specs.List.{flat_map}
use Rattle.dexspec.specs.Lists.{zip_with}
use Rattle.dexspec.specs.Bytes.{uint}
use Rattle.dexspec.specs.Texts.{string_data}
use Rattle.dexspec.specs.Placing.{section_bytes, offsets, uses_offsets}
use Rattle.dexspec.specs.Spellings.{text_index}
use Rattle.dexspec.specs.Canonical.{class_offsets, data_sections, table_bytes, proto_row_bytes, field_row_bytes}
use Rattle.dexspec.specs.Canonical.{method_row_bytes, with_sums, unsigned_file, type_list_section, string_section}
use Rattle.dexhead.specs.Laid.{after_header}
use Rattle.dexhead.specs.Written.{head_bytes}
use Rattle.dexcanon.specs.declared.contents.Contents.{Contents}
use Rattle.dexcanon.specs.internal.ClassRows.{rows_with}
use Rattle.dexcanon.specs.internal.Ready.{ordered_in}

-- ---- a file

-- the file
abbrev pub file_of : Contents → List ℕ
file_of c = with_sums (unsigned_file (ordered_in c))

-- all of it that follows the header
abbrev pub after_header_of : Contents → List ℕ
after_header_of c = after_header (ordered_in c)

-- what its signature covers
abbrev pub signed_of : Contents → List ℕ
signed_of c = drop 32 (head_bytes c.layout.now.head) ++ after_header_of c

-- the rows of all tables
abbrev pub tables_of : Contents → List ℕ
tables_of c = table_bytes (ordered_in c)

-- the rows of each table of symbols
abbrev pub string_rows : Contents → List (List ℕ)
string_rows c = map uint (offsets (string_section (ordered_in c)))

abbrev pub type_rows : Contents → List (List ℕ)
type_rows c = map (λ t. uint (text_index c.numbering.now t)) c.numbering.now.types

abbrev pub proto_rows : Contents → List (List ℕ)
proto_rows c =
    zip_with (proto_row_bytes c.numbering.now) c.numbering.now.protos (uses_offsets (type_list_section (ordered_in c)))

abbrev pub field_rows : Contents → List (List ℕ)
field_rows c = map (field_row_bytes c.numbering.now) c.numbering.now.fields

abbrev pub method_rows : Contents → List (List ℕ)
method_rows c = map (method_row_bytes c.numbering.now) c.numbering.now.methods

-- the data of each text
abbrev pub string_items : Contents → List (List ℕ)
string_items c = map string_data c.numbering.now.texts

-- the rows of the classes
abbrev pub class_rows : Contents → List (List ℕ)
class_rows c = rows_with c.numbering.now c.classes.now (class_offsets (ordered_in c))

-- the sections of the data
abbrev pub data_of : Contents → List ℕ
data_of c = flat_map section_bytes (data_sections (ordered_in c))
