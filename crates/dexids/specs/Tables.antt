-- What numbers in the tables denote.
use Rattle.std.specs.Prelude.{ℕ, ◌-◌, List, [], ◌∷◌, map, take, drop, slice_index_or}
use Rattle.std.specs.declared.cmp.Ordering.{Ordering}
use Rattle.dexspec.specs.Texts.{Text}
use Rattle.dexspec.specs.Symbols.{Proto, Field, Method}
use Rattle.dexspec.specs.Rows.{key_cmp}
use Rattle.dexids.specs.declared.rows.Span.{Span}
use Rattle.dexids.specs.declared.rows.ProtoEntry.{ProtoEntry}
use Rattle.dexrows.specs.declared.fields.FieldRow.{FieldRow}
use Rattle.dexrows.specs.declared.methods.MethodRow.{MethodRow}

-- the text of a number
abbrev pub text_of : List Text → ℕ → Text
text_of texts n = slice_index_or texts n []

-- the type of a number, by its text
abbrev pub type_of : List Text → List ℕ → ℕ → Text
type_of texts types n = text_of texts (slice_index_or types n 0)

-- the numbers of the types in a part
abbrev pub span_of : List ℕ → Span → List ℕ
span_of parameters s = take (s.end - s.start) (drop s.start parameters)

-- the proto of a row
abbrev pub proto_of : List Text → List ℕ → List ℕ → ProtoEntry → Proto
proto_of texts types parameters p = record {
  return_type = type_of texts types p.return_type;
  parameters = map (type_of texts types) (span_of parameters p.parameters);
}

-- the field of a row
abbrev pub field_of : List Text → List ℕ → FieldRow → Field
field_of texts types f =
    record { class = type_of texts types f.class; name = text_of texts f.name; type = type_of texts types f.typ }

-- the proto at a place, or one of nothing
abbrev pub proto_at : List ProtoEntry → ℕ → ProtoEntry
proto_at protos n =
    slice_index_or protos n (record { shorty = 0; return_type = 0; parameters = record { start = 0; end = 0 } })

-- the method of a row
abbrev pub method_of : List Text → List ℕ → List ℕ → List ProtoEntry → MethodRow → Method
method_of texts types parameters protos m = record {
  class = type_of texts types m.class;
  name = text_of texts m.name;
  proto = proto_of texts types parameters (proto_at protos m.proto);
}

-- ---- the orders, by numbers

-- types are ordered by their texts' numbers
abbrev pub type_cmp : ℕ → ℕ → Ordering
type_cmp m n = key_cmp (m ∷ []) (n ∷ [])

-- a field's key: its class, its name, its type
abbrev pub field_key : FieldRow → List ℕ
field_key f = f.class ∷ f.name ∷ f.typ ∷ []

-- a method's: its class, its name, its proto
abbrev pub method_key : MethodRow → List ℕ
method_key m = m.class ∷ m.name ∷ m.proto ∷ []

-- a proto's: its return type and then its parameters
abbrev pub proto_key : List ℕ → ProtoEntry → List ℕ
proto_key parameters p = p.return_type ∷ span_of parameters p.parameters

-- fields are ordered by their keys, number by number
abbrev pub field_cmp : FieldRow → FieldRow → Ordering
field_cmp f g = key_cmp (field_key f) (field_key g)

-- methods too
abbrev pub method_cmp : MethodRow → MethodRow → Ordering
method_cmp m n = key_cmp (method_key m) (method_key n)

-- protos too: a row whose parameters begin those of another comes before it
abbrev pub proto_cmp : List ℕ → ProtoEntry → ProtoEntry → Ordering
proto_cmp parameters p q = key_cmp (proto_key parameters p) (proto_key parameters q)
