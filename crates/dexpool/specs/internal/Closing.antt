-- Marks closed downwards, and what tables keep by them.
use Rattle.std.specs.Prelude.{◌≡◌, ℕ, Bool, true, false, List, [], ◌∷◌, map, All, Option, unwrap_or, slice_index}
use Rattle.std.specs.Prelude.{slice_index_or, slice_set, length}
use Rattle.std.specs.List.{flat_map}
use Rattle.dexspec.specs.Mentions.{Mentions}
use Rattle.dexpool.specs.Cut.{kept, places}
use Rattle.dexrows.specs.declared.fields.FieldRow.{FieldRow}
use Rattle.dexrows.specs.declared.methods.MethodRow.{MethodRow}
use Rattle.dexrows.specs.Numbers.{ProtoNumbers}
use Rattle.dexids.specs.declared.rows.ProtoEntry.{ProtoEntry}
use Rattle.dexpool.specs.declared.numbering.Tables.{Tables}
use Rattle.dexpool.specs.declared.marks.Marks.{Marks}
use Rattle.dexids.specs.Tables.{span_of}
use Rattle.dexids.specs.Reading.{HasSpan}
use Rattle.dexpool.specs.Numberings.{Maps, AreMarksOf}
use Rattle.dexpool.specs.internal.Renumbering.{numbers_of, moved_proto, moved_field, moved_method, IsMethodWithin}
use Rattle.dexpool.specs.Stored.{symbols_in, AreTables}

-- ---- marks

-- the number is marked
abbrev pub IsMarked : List Bool → ℕ → Type 0
IsMarked marks n = slice_index_or marks n false ≡ true

-- the marks, and marks on these numbers
abbrev pub mark_all : List Bool → List ℕ → List Bool
mark_all marks [] = marks
mark_all marks (n ∷ ns) = mark_all (slice_set marks n true) ns

-- ---- the numbers that rows name

-- the types that a field names
abbrev pub field_types : FieldRow → List ℕ
field_types f = f.class ∷ f.typ ∷ []

-- the types that an entry of protos names
abbrev pub entry_types : List ℕ → ProtoEntry → List ℕ
entry_types parameters p = p.return_type ∷ span_of parameters p.parameters

-- ---- what marked rows name

-- the protos of marked methods
abbrev pub method_protos : Tables → List Bool → List ℕ
method_protos t methods = map (λ m. m.proto) (kept methods t.methods.items)

-- the types of marked protos
abbrev pub protos_types : List ℕ → List ProtoEntry → List Bool → List ℕ
protos_types parameters protos marks = flat_map (entry_types parameters) (kept marks protos)

-- the marks of types, and marks on those of marked methods, fields and protos
abbrev pub marked_types : Tables → List Bool → List Bool → List Bool → List Bool → List Bool
marked_types t methods fields protos types =
    mark_all
    (mark_all (mark_all types (map (λ m. m.class) (kept methods t.methods.items)))
    (flat_map field_types (kept fields t.fields.items))) (protos_types t.parameters t.protos.items protos)

-- the marks of texts, and marks on those of marked methods, fields, protos and types
abbrev pub marked_texts : Tables → List Bool → List Bool → List Bool → List Bool → List Bool → List Bool
marked_texts t methods fields protos types strings =
    mark_all
    (mark_all
    (mark_all (mark_all strings (map (λ m. m.name) (kept methods t.methods.items)))
    (map (λ f. f.name) (kept fields t.fields.items))) (map (λ p. p.shorty) (kept protos t.protos.items)))
    (kept types t.types.items)

-- there are marks for the numbers of a method
abbrev pub HasMethodMarks : List Bool → List Bool → List Bool → MethodRow → Type 0
HasMethodMarks strings types protos = IsMethodWithin (length strings) (length types) (length protos)

-- ---- closed downwards

-- the marks, and marks on what marked rows name
pub record AreClosure (t : Tables) (marks closed : Marks) : Type 0 where
  pub methods_are : closed.methods.items ≡ marks.methods.items
  pub fields_are : closed.fields.items ≡ marks.fields.items
  pub protos_are : closed.protos.items ≡ mark_all marks.protos.items (method_protos t marks.methods.items)
  pub types_are : closed.types.items
      ≡ marked_types t marks.methods.items marks.fields.items closed.protos.items marks.types.items
  pub strings_are : closed.strings.items
      ≡ marked_texts t marks.methods.items marks.fields.items closed.protos.items closed.types.items marks.strings.items

-- the numbers of an entry are marked
pub record HasMarkedEntry (t : Tables) (marks : Marks) (p : ProtoEntry) : Type 0 where
  pub shorty_marked : IsMarked marks.strings.items p.shorty
  pub return_marked : IsMarked marks.types.items p.return_type
  pub parameters_marked : All (IsMarked marks.types.items) (span_of t.parameters p.parameters)

-- those of a field
pub record HasMarkedField (marks : Marks) (f : FieldRow) : Type 0 where
  pub class_marked : IsMarked marks.types.items f.class
  pub name_marked : IsMarked marks.strings.items f.name
  pub type_marked : IsMarked marks.types.items f.typ

-- those of a method
pub record HasMarkedMethod (marks : Marks) (m : MethodRow) : Type 0 where
  pub class_marked : IsMarked marks.types.items m.class
  pub name_marked : IsMarked marks.strings.items m.name
  pub proto_marked : IsMarked marks.protos.items m.proto

-- what a marked row names is marked
pub record AreClosed (t : Tables) (marks : Marks) : Type 0 where
  pub types_closed : All (IsMarked marks.strings.items) (kept marks.types.items t.types.items)
  pub protos_closed : All (HasMarkedEntry t marks) (kept marks.protos.items t.protos.items)
  pub fields_closed : All (HasMarkedField marks) (kept marks.fields.items t.fields.items)
  pub methods_closed : All (HasMarkedMethod marks) (kept marks.methods.items t.methods.items)

-- ---- what is kept

-- the marked symbols of each kind
abbrev pub kept_symbols : Marks → Mentions → Mentions
kept_symbols marks m = record {
  texts = kept marks.strings.items m.texts;
  types = kept marks.types.items m.types;
  protos = kept marks.protos.items m.protos;
  fields = kept marks.fields.items m.fields;
  methods = kept marks.methods.items m.methods;
}

-- where each number leads
abbrev pub kept_places : Marks → Maps
kept_places marks = record {
  texts = places 0 marks.strings.items;
  types = places 0 marks.types.items;
  protos = places 0 marks.protos.items;
  fields = places 0 marks.fields.items;
  methods = places 0 marks.methods.items;
}

-- the rows are the marked ones of the tables, by their old numbers; what a marked row names is marked
pub record AreMarkedRows (t : Tables) (marks : Marks) (rows : Tables) : Type 0 where
  pub tables : AreTables t
  pub counted : AreMarksOf (symbols_in t) marks
  pub closed : AreClosed t marks
  pub strings_are : rows.strings.items ≡ kept marks.strings.items t.strings.items
  pub types_are : rows.types.items ≡ kept marks.types.items t.types.items
  pub protos_are : rows.protos.items ≡ kept marks.protos.items t.protos.items
  pub parameters_are : rows.parameters ≡ t.parameters
  pub fields_are : rows.fields.items ≡ kept marks.fields.items t.fields.items
  pub methods_are : rows.methods.items ≡ kept marks.methods.items t.methods.items

-- the tables of the marked symbols, and where each number leads
pub record AreKept (t : Tables) (marks : Marks) (cut : Tables) (maps : Maps) : Type 0 where
  pub tables_are : AreTables cut
  pub symbols_are : symbols_in cut ≡ kept_symbols marks (symbols_in t)
  pub maps_are : maps ≡ kept_places marks

-- the number that there is, or 2^32 - 1
abbrev pub number_or_none : Option ℕ → ℕ
number_or_none o = unwrap_or o 0xffffffff

-- the new numbers of rows, and 2^32 - 1 for those that are not kept
abbrev pub new_numbers : List Bool → List ℕ
new_numbers marks = map number_or_none (places 0 marks)

-- the kept rows of types, by these new numbers
abbrev pub cut_types : List ℕ → List Bool → List ℕ → List ℕ
cut_types types marks strings = map (slice_index strings) (kept marks types)

-- those of protos
abbrev pub cut_protos : Tables → List Bool → List ℕ → List ℕ → List ProtoNumbers
cut_protos t marks strings types = map (moved_proto strings types t.parameters) (kept marks t.protos.items)

-- the kept rows, by their new numbers
pub record IsCut (t : Tables) (marks : Marks) (cut : Tables) : Type 0 where
  pub strings_are : cut.strings.items ≡ kept marks.strings.items t.strings.items
  pub types_are : cut.types.items ≡ cut_types t.types.items marks.types.items (new_numbers marks.strings.items)
  pub protos_are : map (numbers_of cut.parameters) cut.protos.items
      ≡ cut_protos t marks.protos.items (new_numbers marks.strings.items) (new_numbers marks.types.items)
  pub spans : All (λ p. HasSpan cut.parameters p.parameters) cut.protos.items
  pub fields_are : cut.fields.items
      ≡ map (moved_field (new_numbers marks.strings.items) (new_numbers marks.types.items))
      (kept marks.fields.items t.fields.items)
  pub methods_are : cut.methods.items
      ≡ map
      (moved_method (new_numbers marks.strings.items) (new_numbers marks.types.items) (new_numbers marks.protos.items))
      (kept marks.methods.items t.methods.items)
