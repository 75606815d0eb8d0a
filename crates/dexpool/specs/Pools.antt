-- The pools of a file as lists of symbols.
use Rattle.std.specs.Prelude.{◌≡◌, ℕ, ◌<◌, List, map, length, slice_index_or}
use Rattle.dexspec.specs.Texts.{Text}
use Rattle.dexspec.specs.Mentions.{Mentions}
use Rattle.dexspec.specs.Header.{StringIds, TypeIds, ProtoIds, FieldIds, MethodIds, table_size}
use Rattle.dexspec.specs.Rows as rows
use Rattle.dexids.specs.declared.rows.ProtoEntry.{ProtoEntry}
use Rattle.dexrows.specs.declared.fields.FieldRow.{FieldRow}
use Rattle.dexrows.specs.declared.methods.MethodRow.{MethodRow}
use Rattle.dexpool.specs.declared.symbols.SymbolKind.{SymbolKind}
use Rattle.dexpool.specs.declared.symbols.SymbolKind.TheVariants as kinds
use Rattle.dexids.specs.Tables.{text_of, proto_of, field_of, method_of}

-- what the rows of the tables denote
abbrev pub symbols_of : List Text → List ℕ → List ℕ → List ProtoEntry → List FieldRow → List MethodRow → Mentions
symbols_of texts types parameters protos fields methods = record {
  texts = texts;
  types = map (text_of texts) types;
  protos = map (proto_of texts types parameters) protos;
  fields = map (field_of texts types) fields;
  methods = map (method_of texts types parameters protos) methods;
}

-- each member of the list is what its row of the file denotes
pub record AreAll {X : Type 0} (Row : List ℕ → ℕ → X → Type 0) (b : List ℕ) (n : ℕ) (xs : List X) : Type 0 where
  pub count : length xs ≡ n
  pub each : (i : ℕ) (d : X) → i < n → Row b i (slice_index_or xs i d)

-- the five pools of the file
pub record ArePools (b : List ℕ) (m : Mentions) : Type 0 where
  pub texts_are : AreAll rows.StringRow b (table_size b StringIds) m.texts
  pub types_are : AreAll rows.TypeRow b (table_size b TypeIds) m.types
  pub protos_are : AreAll rows.ProtoRow b (table_size b ProtoIds) m.protos
  pub fields_are : AreAll rows.FieldRow b (table_size b FieldIds) m.fields
  pub methods_are : AreAll rows.MethodRow b (table_size b MethodIds) m.methods

-- the number of symbols of a kind
abbrev pub count_of : SymbolKind → Mentions → ℕ
count_of kinds.Text m = length m.texts
count_of kinds.Typ m = length m.types
count_of kinds.Proto m = length m.protos
count_of kinds.Field m = length m.fields
count_of kinds.Method m = length m.methods
