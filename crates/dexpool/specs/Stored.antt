-- The tables of a numbering as they are stored: rows of numbers of rows below them.
use Rattle.std.specs.Prelude.{◌≡◌, ℕ, ◌<◌, true, List, length, map, All}
use Rattle.dexspec.specs.Lists.{rises}
use Rattle.dexspec.specs.Texts.{text_cmp, Text}
use Rattle.dexspec.specs.Names.{IsDescriptor, IsValueType, IsReferenceType, IsClass, IsMemberName, shorty}
use Rattle.dexspec.specs.Mentions.{Mentions}
use Rattle.dexspec.specs.Symbols as symbols
use Rattle.dexrows.specs.declared.fields.FieldRow.{FieldRow}
use Rattle.dexrows.specs.declared.methods.MethodRow.{MethodRow}
use Rattle.dexids.specs.declared.rows.ProtoEntry.{ProtoEntry}
use Rattle.dexpool.specs.declared.numbering.Tables.{Tables}
use Rattle.dexids.specs.Tables.{text_of, type_of, span_of, type_cmp, proto_cmp, field_cmp, method_cmp, proto_of}
use Rattle.dexids.specs.Tables.{field_of, method_of}
use Rattle.dexids.specs.Reading.{HasSpan}
use Rattle.dexpool.specs.Pools.{symbols_of}

-- what the tables denote
abbrev pub symbols_in : Tables → Mentions
symbols_in t = symbols_of t.strings.items t.types.items t.parameters t.protos.items t.fields.items t.methods.items

-- the type of a number
abbrev pub stored_type : Tables → ℕ → Text
stored_type t n = type_of t.strings.items t.types.items n

-- the proto, field and method of a row
abbrev pub stored_proto : Tables → ProtoEntry → symbols.Proto
stored_proto t p = proto_of t.strings.items t.types.items t.parameters p

abbrev pub stored_field : Tables → FieldRow → symbols.Field
stored_field t f = field_of t.strings.items t.types.items f

abbrev pub stored_method : Tables → MethodRow → symbols.Method
stored_method t m = method_of t.strings.items t.types.items t.parameters t.protos.items m

-- the number is that of a text which is a descriptor
pub record IsTypeNumber (t : Tables) (n : ℕ) : Type 0 where
  pub text_in : n < length t.strings.items
  pub descriptor : IsDescriptor (text_of t.strings.items n)

-- the number is that of a type for which the condition holds
pub record IsTypeOf (Is : List ℕ → Type 0) (t : Tables) (n : ℕ) : Type 0 where
  pub type_in : n < length t.types.items
  pub is : Is (type_of t.strings.items t.types.items n)

-- the entry's numbers are in range, and make a proto
pub record IsProtoEntry (t : Tables) (p : ProtoEntry) : Type 0 where
  pub span : HasSpan t.parameters p.parameters
  pub return_in : p.return_type < length t.types.items
  pub parameters_in : All (IsTypeOf IsValueType t) (span_of t.parameters p.parameters)
  pub shorty_in : p.shorty < length t.strings.items
  pub shorty_is : text_of t.strings.items p.shorty
      ≡ shorty (type_of t.strings.items t.types.items p.return_type)
      (map (type_of t.strings.items t.types.items) (span_of t.parameters p.parameters))

-- the row's numbers are in range, and make a field
pub record IsFieldRow (t : Tables) (f : FieldRow) : Type 0 where
  pub class_is : IsTypeOf IsClass t f.class
  pub name_in : f.name < length t.strings.items
  pub name_is : IsMemberName (text_of t.strings.items f.name)
  pub type_is : IsTypeOf IsValueType t f.typ

-- the row's numbers are in range, and make a method
pub record IsMethodRow (t : Tables) (m : MethodRow) : Type 0 where
  pub class_is : IsTypeOf IsReferenceType t m.class
  pub name_in : m.name < length t.strings.items
  pub name_is : IsMemberName (text_of t.strings.items m.name)
  pub proto_in : m.proto < length t.protos.items

-- each table rises strictly by its numbers, and its rows are in range
pub record AreTables (t : Tables) : Type 0 where
  pub texts_rise : rises text_cmp t.strings.items ≡ true
  pub types_rise : rises type_cmp t.types.items ≡ true
  pub protos_rise : rises (proto_cmp t.parameters) t.protos.items ≡ true
  pub fields_rise : rises field_cmp t.fields.items ≡ true
  pub methods_rise : rises method_cmp t.methods.items ≡ true
  pub types_at_ranks : All (IsTypeNumber t) t.types.items
  pub protos_at_ranks : All (IsProtoEntry t) t.protos.items
  pub fields_at_ranks : All (IsFieldRow t) t.fields.items
  pub methods_at_ranks : All (IsMethodRow t) t.methods.items
