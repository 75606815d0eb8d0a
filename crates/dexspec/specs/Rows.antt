-- What the rows of the five pools denote: conditions 11 to 15. Source: "Dalvik Executable format", "string_id_item",
-- "type_id_item", "proto_id_item", "field_id_item", "method_id_item" and "type_list".
use Rattle.std.specs.Prelude.{◌≡◌, ℕ, ◌+◌, ◌*◌, ◌%◌, ◌<◌, ◌≤◌, List, [], ◌∷◌, All, if◌then◌else◌, ◌==◌}
use Rattle.std.specs.Ordering.{nat_cmp}
use Rattle.std.specs.Cmp.Lexicographic.{slice_cmp}
use Rattle.std.specs.declared.cmp.Ordering.{Ordering}
use Rattle.std.specs.declared.cmp.Ordering.TheVariants.{Less}
use Rattle.std.specs.List.{AllZip}
use Rattle.dexspec.specs.Lists.{OrNone}
use Rattle.dexspec.specs.Bytes.{uint_at, ushort_at, ushorts_at}
use Rattle.dexspec.specs.Texts.{Text, text_cmp, StringDataAt}
use Rattle.dexspec.specs.Names.{IsDescriptor, IsValueType, shorty}
use Rattle.dexspec.specs.Symbols.{Proto, Field, Method, Symbol, TextSymbol, TypeSymbol, ProtoSymbol, FieldSymbol}
use Rattle.dexspec.specs.Symbols.{MethodSymbol, IsField, IsMethod}
use Rattle.dexspec.specs.Header.{Table, StringIds, TypeIds, ProtoIds, FieldIds, MethodIds, table_size, table_off}
use Rattle.dexspec.specs.Header.{row_size, data_off}
use Rattle.dexspec.specs.Sections.{IsInData}

-- the offset of row i of a table
abbrev pub row_at : List ℕ → Table → ℕ → ℕ
row_at b t i = table_off b t + row_size t * i

-- ---- strings and types

-- row i is the text s
pub record StringRow (b : List ℕ) (i : ℕ) (s : Text) : Type 0 where
  pub row : i < table_size b StringIds
  pub in_data : data_off b ≤ uint_at b (row_at b StringIds i)
  pub encodes : (n : ℕ) × StringDataAt b (uint_at b (row_at b StringIds i)) s n

-- row i is the type t
pub record TypeRow (b : List ℕ) (i : ℕ) (t : Text) : Type 0 where
  pub row : i < table_size b TypeIds
  pub text : StringRow b (uint_at b (row_at b TypeIds i)) t
  pub descriptor : IsDescriptor t

-- ---- lists of types

-- the indices of the type_list at offset o
abbrev pub type_indices : List ℕ → ℕ → List ℕ
type_indices b o = ushorts_at b (o + 4) (uint_at b o)

-- a type_list of these types is at offset o
pub record TypeListAt (b : List ℕ) (o : ℕ) (ts : List Text) : Type 0 where
  pub in_data : IsInData b o (4 + 2 * uint_at b o)
  pub aligned : o % 4 ≡ 0
  pub types : AllZip (TypeRow b) (type_indices b o) ts

-- ---- protos, fields and methods

-- row i is the proto p
pub record ProtoRow (b : List ℕ) (i : ℕ) (p : Proto) : Type 0 where
  pub row : i < table_size b ProtoIds
  pub shorty : StringRow b (uint_at b (row_at b ProtoIds i)) (shorty p.return_type p.parameters)
  pub return_type : TypeRow b (uint_at b (row_at b ProtoIds i + 4)) p.return_type
  pub parameters : OrNone TypeListAt [] b (uint_at b (row_at b ProtoIds i + 8)) p.parameters
  pub values : All IsValueType p.parameters

-- row i is the field f
pub record FieldRow (b : List ℕ) (i : ℕ) (f : Field) : Type 0 where
  pub row : i < table_size b FieldIds
  pub class : TypeRow b (ushort_at b (row_at b FieldIds i)) f.class
  pub type : TypeRow b (ushort_at b (row_at b FieldIds i + 2)) f.type
  pub name : StringRow b (uint_at b (row_at b FieldIds i + 4)) f.name
  pub formed : IsField f

-- row i is the method m
pub record MethodRow (b : List ℕ) (i : ℕ) (m : Method) : Type 0 where
  pub row : i < table_size b MethodIds
  pub class : TypeRow b (ushort_at b (row_at b MethodIds i)) m.class
  pub proto : ProtoRow b (ushort_at b (row_at b MethodIds i + 2)) m.proto
  pub name : StringRow b (uint_at b (row_at b MethodIds i + 4)) m.name
  pub formed : IsMethod m

-- row i of the symbol's pool is the symbol
abbrev pub SymbolRow : List ℕ → ℕ → Symbol → Type 0
SymbolRow b i (TextSymbol s) = StringRow b i s
SymbolRow b i (TypeSymbol t) = TypeRow b i t
SymbolRow b i (ProtoSymbol p) = ProtoRow b i p
SymbolRow b i (FieldSymbol f) = FieldRow b i f
SymbolRow b i (MethodSymbol m) = MethodRow b i m

-- ---- the order of the rows, by indices

-- the order of keys: index by index
abbrev pub key_cmp : List ℕ → List ℕ → Ordering
key_cmp = slice_cmp nat_cmp

-- the key of a type's row is its string
abbrev pub type_row_key : List ℕ → ℕ → List ℕ
type_row_key b i = uint_at b (row_at b TypeIds i) ∷ []

-- of a proto's, its return type, then its parameters
abbrev pub proto_row_key : List ℕ → ℕ → List ℕ
proto_row_key b i =
    let list = uint_at b (row_at b ProtoIds i + 8) in
    uint_at b (row_at b ProtoIds i + 4) ∷ (if list == 0 then [] else type_indices b list)

-- of a field's, its class, then its name, then its type
abbrev pub field_row_key : List ℕ → ℕ → List ℕ
field_row_key b i = let o = row_at b FieldIds i in ushort_at b o ∷ uint_at b (o + 4) ∷ ushort_at b (o + 2) ∷ []

-- of a method's, its class, then its name, then its proto
abbrev pub method_row_key : List ℕ → ℕ → List ℕ
method_row_key b i = let o = row_at b MethodIds i in ushort_at b o ∷ uint_at b (o + 4) ∷ ushort_at b (o + 2) ∷ []

-- row i's key is greater than that of the row before it, if there is one
abbrev pub Follows : (List ℕ → ℕ → List ℕ) → List ℕ → ℕ → Type 0
Follows key b i = (j : ℕ) → j + 1 ≡ i → key_cmp (key b j) (key b i) ≡ Less

-- ---- conditions 11 to 15, each at a row

-- 11 Strings: the row is a text, greater than that of the row before it
pub record HasString (b : List ℕ) (i : ℕ) : Type 0 where
  pub text : Text
  pub is : StringRow b i text
  pub follows : (j : ℕ) (before : Text) → j + 1 ≡ i → StringRow b j before → text_cmp before text ≡ Less

-- the row is one of this kind, and follows the row before it
pub record HasRow {X : Type 0} (Row : List ℕ → ℕ → X → Type 0) (key : List ℕ → ℕ → List ℕ) (b : List ℕ) (i : ℕ) :
    Type 0 where
  pub item : X
  pub is : Row b i item
  pub follows : Follows key b i

-- 12 Types
abbrev pub HasType : List ℕ → ℕ → Type 0
HasType = HasRow TypeRow type_row_key

-- 13 Protos
abbrev pub HasProto : List ℕ → ℕ → Type 0
HasProto = HasRow ProtoRow proto_row_key

-- 14 Fields
abbrev pub HasField : List ℕ → ℕ → Type 0
HasField = HasRow FieldRow field_row_key

-- 15 Methods
abbrev pub HasMethod : List ℕ → ℕ → Type 0
HasMethod = HasRow MethodRow method_row_key
