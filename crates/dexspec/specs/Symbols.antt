-- Symbols: the contents of the rows of the five pools, and their five orders. Source: "Dalvik
-- Executable format", "string_id_item", "type_id_item", "proto_id_item", "field_id_item" and
-- "method_id_item". The orders compare texts and never indices.
use Rattle.std.specs.Prelude.{List, All}
use Rattle.std.specs.Ordering.{ordering_then}
use Rattle.std.specs.Cmp.Lexicographic.{slice_cmp}
use Rattle.std.specs.declared.cmp.Ordering.{Ordering}
use Rattle.dexspec.specs.Texts.{Text, text_cmp}
use Rattle.dexspec.specs.Names.{IsDescriptor, IsValueType, IsReferenceType, IsClass, IsMemberName}

-- the types of a method
pub record Proto : Type 0 where
  pub return_type : Text
  pub parameters : List Text

-- a field, by its class, its name and its type
pub record Field : Type 0 where
  pub class : Text
  pub name : Text
  pub type : Text

-- a method, by its class or array type, its name and its proto
pub record Method : Type 0 where
  pub class : Text
  pub name : Text
  pub proto : Proto

-- the five pools, in the order of the file
pub data Pool : Type 0 where
  StringPool TypePool ProtoPool FieldPool MethodPool : Pool

-- what a row of one of the pools denotes
pub data Symbol : Type 0 where
  TextSymbol : (text : Text) → Symbol
  TypeSymbol : (descriptor : Text) → Symbol
  ProtoSymbol : (proto : Proto) → Symbol
  FieldSymbol : (field : Field) → Symbol
  MethodSymbol : (method : Method) → Symbol

-- the pool that has a row for the symbol
abbrev pub pool_of : Symbol → Pool
pool_of (TextSymbol s) = StringPool
pool_of (TypeSymbol t) = TypePool
pool_of (ProtoSymbol p) = ProtoPool
pool_of (FieldSymbol f) = FieldPool
pool_of (MethodSymbol m) = MethodPool

-- a return type, and parameters that are not void
pub record IsProto (p : Proto) : Type 0 where
  pub return_type : IsDescriptor p.return_type
  pub parameters : All IsValueType p.parameters

-- a class, a member's name, and a type that is not void
pub record IsField (f : Field) : Type 0 where
  pub class : IsClass f.class
  pub name : IsMemberName f.name
  pub type : IsValueType f.type

-- a class or array, a member's name, and a proto
pub record IsMethod (m : Method) : Type 0 where
  pub class : IsReferenceType m.class
  pub name : IsMemberName m.name
  pub proto : IsProto m.proto

-- by return type, then by the parameters, a prefix first
abbrev pub proto_cmp : Proto → Proto → Ordering
proto_cmp p q = ordering_then (text_cmp p.return_type q.return_type) (slice_cmp text_cmp p.parameters q.parameters)

-- by class, then by name, then by type
abbrev pub field_cmp : Field → Field → Ordering
field_cmp f g =
    ordering_then (text_cmp f.class g.class) (ordering_then (text_cmp f.name g.name) (text_cmp f.type g.type))

-- by class, then by name, then by proto
abbrev pub method_cmp : Method → Method → Ordering
method_cmp m n =
    ordering_then (text_cmp m.class n.class) (ordering_then (text_cmp m.name n.name) (proto_cmp m.proto n.proto))
