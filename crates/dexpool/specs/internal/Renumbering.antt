-- Rows whose numbers are replaced: by the numbers at their places in the images.
use Rattle.std.specs.Prelude.{ℕ, ◌<◌, List, map, slice_index, All, ◌≡◌}
use Rattle.dexrows.specs.Join.{AreSorted}
use Rattle.dexrows.specs.Numbers.{Among, Lower, RiseAmong, ProtoNumbers}
use Rattle.dexrows.specs.declared.types.TypeRow.{TypeRow}
use Rattle.dexrows.specs.declared.fields.FieldRow.{FieldRow}
use Rattle.dexrows.specs.declared.methods.MethodRow.{MethodRow}
use Rattle.dexids.specs.declared.rows.ProtoEntry.{ProtoEntry}
use Rattle.dexpool.specs.declared.renumbering.Protos.{Protos}
use Rattle.dexids.specs.Tables.{span_of}
use Rattle.dexids.specs.Reading.{HasSpan}

-- ---- rows of any kind

-- where the numbers that they name are replaced in the order of these, sorted rows stay sorted
abbrev pub StaySorted : {R : Type 0} → (R → List ℕ) → (Among → R → Type 0) → (Lower → R → R) → Type 0
StaySorted {R} key numbers_in mapped =
    (among : Among) (lower : Lower) (rows : List R) → RiseAmong among lower → All (numbers_in among) rows
    → AreSorted key rows → AreSorted key (map (mapped lower) rows)

-- ---- rows of types

-- the row of a type whose text is renumbered
abbrev pub moved_type : List ℕ → ℕ → TypeRow
moved_type strings n = record { descriptor = slice_index strings n }

-- ---- rows of protos

-- the numbers of an entry
abbrev pub numbers_of : List ℕ → ProtoEntry → ProtoNumbers
numbers_of parameters p =
    record { shorty = p.shorty; return_type = p.return_type; parameters = span_of parameters p.parameters }

-- the rows of a table
abbrev pub numbers_in : Protos → List ProtoNumbers
numbers_in t = map (numbers_of t.parameters.items) t.rows.items

-- each entry's parameters are in the table
abbrev pub HasSpans : Protos → Type 0
HasSpans t = All (λ p. HasSpan t.parameters.items p.parameters) t.rows.items

-- an entry's numbers are in range, for these counts of texts and types
pub record IsEntryWithin (strings types : ℕ) (parameters : List ℕ) (p : ProtoEntry) : Type 0 where
  pub shorty_in : p.shorty < strings
  pub return_in : p.return_type < types
  pub span : HasSpan parameters p.parameters
  pub parameters_in : All (λ n. n < types) (span_of parameters p.parameters)

-- the row of an entry renumbered
abbrev pub moved_proto : List ℕ → List ℕ → List ℕ → ProtoEntry → ProtoNumbers
moved_proto strings types parameters p = record {
  shorty = slice_index strings p.shorty;
  return_type = slice_index types p.return_type;
  parameters = map (slice_index types) (span_of parameters p.parameters);
}

-- the table has these entries renumbered
abbrev pub AreMovedProtos : List ℕ → List ℕ → List ℕ → List ProtoEntry → Protos → Type 0
AreMovedProtos strings types parameters protos t = numbers_in t ≡ map (moved_proto strings types parameters) protos

-- ---- rows of fields and methods

-- a field's numbers are in range, for these counts of texts and types
pub record IsFieldWithin (strings types : ℕ) (f : FieldRow) : Type 0 where
  pub class_in : f.class < types
  pub name_in : f.name < strings
  pub type_in : f.typ < types

-- a field's row renumbered
abbrev pub moved_field : List ℕ → List ℕ → FieldRow → FieldRow
moved_field strings types f =
    record { class = slice_index types f.class; name = slice_index strings f.name; typ = slice_index types f.typ }

-- a method's numbers are in range, for these counts of texts, types and protos
pub record IsMethodWithin (strings types protos : ℕ) (m : MethodRow) : Type 0 where
  pub class_in : m.class < types
  pub name_in : m.name < strings
  pub proto_in : m.proto < protos

-- a method's row renumbered
abbrev pub moved_method : List ℕ → List ℕ → List ℕ → MethodRow → MethodRow
moved_method strings types protos m =
    record { class = slice_index types m.class; name = slice_index strings m.name; proto = slice_index protos m.proto }
