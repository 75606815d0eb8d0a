-- Rows that are read one after the other.
use Rattle.std.specs.Prelude.{◌≡◌, ◌≢◌, ℕ, ◌+◌, ◌*◌, ◌/◌, ◌%◌, ◌<◌, ◌≤◌, Bool, true, map, All, if◌then◌else◌, ◌==◌}
use Rattle.std.specs.Prelude.{List, [], ◌∷◌, length, slice_index_or}
use Rattle.std.specs.Ordering.{is_lt}
use Rattle.std.specs.declared.cmp.Ordering.{Ordering}
use Rattle.dexspec.specs.Bytes.{uint_at, ushort_at, ushorts_at}
use Rattle.dexspec.specs.Texts.{Text}
use Rattle.dexspec.specs.Header.{StringIds, TypeIds, ProtoIds, FieldIds, MethodIds, table_size}
use Rattle.dexspec.specs.Rows.{row_at, StringRow, TypeRow, HasString, type_indices, TypeListAt, HasType, HasProto}
use Rattle.dexspec.specs.Rows.{HasField, HasMethod}
use Rattle.dexspec.specs.Rows as rows
use Rattle.dexspec.specs.Accepted.{IsFrame}
use Rattle.dexspec.specs.Names.{IsValueType, IsReferenceType, IsMemberName, shorty_letter}
use Rattle.dexspec.specs.Lists.{OrNone}
use Rattle.dexspec.specs.Sections.{IsInData}
use Rattle.dexids.specs.declared.rows.Span.{Span}
use Rattle.dexids.specs.declared.rows.ProtoEntry.{ProtoEntry}
use Rattle.dexrows.specs.declared.fields.FieldRow.{FieldRow}
use Rattle.dexrows.specs.declared.methods.MethodRow.{MethodRow}
use Rattle.dexids.specs.Tables.{text_of, type_of, span_of, proto_of, field_of, method_of}

-- the rows before row i are these, and the condition holds at each
pub record ReadTo {X : Type 0} (Row : List ℕ → ℕ → X → Type 0) (Holds : List ℕ → ℕ → Type 0) (b : List ℕ) (xs : List X)
    (i : ℕ) : Type 0 where
  pub count : length xs ≡ i
  pub each : (k : ℕ) (d : X) → k < i → Row b k (slice_index_or xs k d)
  pub held : (k : ℕ) → k < i → Holds b k

-- the last row, if there is one, is less
abbrev pub is_above_last : {X : Type 0} → (X → X → Ordering) → X → List X → Bool
is_above_last R x [] = true
is_above_last R x (y ∷ []) = is_lt (R y x)
is_above_last R x (y ∷ z ∷ ys) = is_above_last R x (z ∷ ys)

-- ---- texts and types

-- the texts of all rows
abbrev pub AreTexts : List ℕ → List Text → Type 0
AreTexts b texts = ReadTo StringRow HasString b texts (table_size b StringIds)

-- row i is the type that text n is
pub record TypeRowAt (texts : List Text) (b : List ℕ) (i n : ℕ) : Type 0 where
  pub index : uint_at b (row_at b TypeIds i) ≡ n
  pub is : TypeRow b i (text_of texts n)

-- the types of all rows
abbrev pub AreTypes : List ℕ → List Text → List ℕ → Type 0
AreTypes b texts types = ReadTo (TypeRowAt texts) HasType b types (table_size b TypeIds)

-- the texts and types of a file
pub record AreNames (b : List ℕ) (texts : List Text) (types : List ℕ) : Type 0 where
  pub frame : IsFrame b
  pub texts_are : AreTexts b texts
  pub types_are : AreTypes b texts types

-- row i is this text, of this number
pub record IsText (b : List ℕ) (texts : List Text) (i : ℕ) (s : Text) : Type 0 where
  pub row : StringRow b i s
  pub is : s ≡ text_of texts i

-- row i is this type, of this number
pub record IsType (b : List ℕ) (texts : List Text) (types : List ℕ) (i : ℕ) (t : Text) : Type 0 where
  pub row : TypeRow b i t
  pub is : t ≡ type_of texts types i

-- ---- fields

-- row i has these indices
pub record HasFieldNumbers (b : List ℕ) (i : ℕ) (f : FieldRow) : Type 0 where
  pub class : ushort_at b (row_at b FieldIds i) ≡ f.class
  pub type : ushort_at b (row_at b FieldIds i + 2) ≡ f.typ
  pub name : uint_at b (row_at b FieldIds i + 4) ≡ f.name

-- row i is the field of these numbers
pub record FieldRowAt (texts : List Text) (types : List ℕ) (b : List ℕ) (i : ℕ) (f : FieldRow) : Type 0 where
  pub numbers : HasFieldNumbers b i f
  pub is : rows.FieldRow b i (field_of texts types f)

-- the fields of all rows
abbrev pub AreFields : List ℕ → List Text → List ℕ → List FieldRow → Type 0
AreFields b texts types fields = ReadTo (FieldRowAt texts types) HasField b fields (table_size b FieldIds)

-- ---- protos

-- the indices of the types in the list at an offset, which may be left out
abbrev pub listed : List ℕ → ℕ → List ℕ
listed b o = if o == 0 then [] else type_indices b o

-- a type_list of n indices may be there
pub record HasRoom (b : List ℕ) (o n : ℕ) : Type 0 where
  pub count : n ≡ uint_at b o
  pub in_data : IsInData b o (4 + 2 * uint_at b o)
  pub aligned : o % 4 ≡ 0

-- type n is that of a parameter
pub record IsParameter (b : List ℕ) (texts : List Text) (types : List ℕ) (n : ℕ) : Type 0 where
  pub row : TypeRow b n (type_of texts types n)
  pub value : IsValueType (type_of texts types n)

-- there is no list at the offset
abbrev pub NoPlace : List ℕ → ℕ → Type 0
NoPlace b o = (ts : List Text) → OrNone TypeListAt [] b o ts → ⊥

-- the parameters that are listed there
pub record HasParameters (b : List ℕ) (texts : List Text) (types : List ℕ) (o : ℕ) : Type 0 where
  pub list : OrNone TypeListAt [] b o (map (type_of texts types) (listed b o))
  pub values : All IsValueType (map (type_of texts types) (listed b o))

-- the part is one of the list
pub record HasSpan (parameters : List ℕ) (s : Span) : Type 0 where
  pub ordered : s.start ≤ s.end
  pub within : s.end ≤ length parameters

-- the bytes as numbers of two bytes each
abbrev pub file_numbers : List ℕ → List ℕ
file_numbers b = ushorts_at b 0 (length b / 2)

-- where the numbers are that are listed there, whatever they name
pub record IsPlaced (b : List ℕ) (o : ℕ) (s : Span) : Type 0 where
  pub room : o ≢ 0 → HasRoom b o (uint_at b o)
  pub span : HasSpan (file_numbers b) s
  pub is : span_of (file_numbers b) s ≡ listed b o

-- the parameters that are listed there, and where
pub record IsListed (b : List ℕ) (texts : List Text) (types : List ℕ) (o : ℕ) (s : Span) : Type 0 where
  pub parameters : HasParameters b texts types o
  pub span : HasSpan (file_numbers b) s
  pub is : span_of (file_numbers b) s ≡ listed b o

-- the indices of row i: shorty, return type, and the offset of the parameters
pub record HasIndices (b : List ℕ) (i shorty return_type off : ℕ) : Type 0 where
  pub shorty_is : uint_at b (row_at b ProtoIds i) ≡ shorty
  pub return_is : uint_at b (row_at b ProtoIds i + 4) ≡ return_type
  pub off_is : uint_at b (row_at b ProtoIds i + 8) ≡ off

-- row i has these indices
pub record HasProtoNumbers (b : List ℕ) (parameters : List ℕ) (i : ℕ) (p : ProtoEntry) : Type 0 where
  pub shorty : uint_at b (row_at b ProtoIds i) ≡ p.shorty
  pub return_type : uint_at b (row_at b ProtoIds i + 4) ≡ p.return_type
  pub parameters_are : listed b (uint_at b (row_at b ProtoIds i + 8)) ≡ span_of parameters p.parameters
  pub span : HasSpan parameters p.parameters

-- row i is the proto of these numbers
pub record ProtoRowAt (texts : List Text) (types : List ℕ) (parameters : List ℕ) (b : List ℕ) (i : ℕ) (p : ProtoEntry) :
    Type 0 where
  pub numbers : HasProtoNumbers b parameters i p
  pub is : rows.ProtoRow b i (proto_of texts types parameters p)

-- each index names a type
abbrev pub AllTypes : List ℕ → List Text → List ℕ → List ℕ → Type 0
AllTypes b texts types ns =
    (k : ℕ) (d : ℕ) → k < length ns → TypeRow b (slice_index_or ns k d) (type_of texts types (slice_index_or ns k d))

-- the letters of types in a shorty
abbrev pub letters_of : List Text → List ℕ → List ℕ → List ℕ
letters_of texts types ns = map shorty_letter (map (type_of texts types) ns)

-- the protos of all rows
abbrev pub AreProtos : List ℕ → List Text → List ℕ → List ℕ → List ProtoEntry → Type 0
AreProtos b texts types parameters protos =
    ReadTo (ProtoRowAt texts types parameters) HasProto b protos (table_size b ProtoIds)

-- ---- methods

-- a method may belong to the type and have the name
pub record AreMethodNames (class name : Text) : Type 0 where
  pub class_is : IsReferenceType class
  pub name_is : IsMemberName name

-- row i has these indices
pub record HasMethodNumbers (b : List ℕ) (i : ℕ) (m : MethodRow) : Type 0 where
  pub class : ushort_at b (row_at b MethodIds i) ≡ m.class
  pub proto : ushort_at b (row_at b MethodIds i + 2) ≡ m.proto
  pub name : uint_at b (row_at b MethodIds i + 4) ≡ m.name

-- row i is the method of these numbers
pub record MethodRowAt (texts : List Text) (types : List ℕ) (parameters : List ℕ) (protos : List ProtoEntry)
    (b : List ℕ) (i : ℕ) (m : MethodRow) : Type 0 where
  pub numbers : HasMethodNumbers b i m
  pub is : rows.MethodRow b i (method_of texts types parameters protos m)

-- the methods of all rows
abbrev pub AreMethods : List ℕ → List Text → List ℕ → List ℕ → List ProtoEntry → List MethodRow → Type 0
AreMethods b texts types parameters protos methods =
    ReadTo (MethodRowAt texts types parameters protos) HasMethod b methods (table_size b MethodIds)
