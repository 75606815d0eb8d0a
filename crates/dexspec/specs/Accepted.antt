-- What is accepted: the conditions 16 to 23 at a class row, all 23 as one predicate on bytes and row, and what a
-- refusal says. Source: the constraints that "Dalvik Executable format" states with each item; which refusal is
-- reported, and its place, is this project's rule.
use Rattle.std.specs.Prelude.{◌≡◌, ◌≢◌, ◌⊎◌, ℕ, ◌+◌, ◌<◌, ◌≤◌, ◌==◌, if◌then◌else◌, List, [], ◌∷◌, ◌++◌, length, map}
use Rattle.std.specs.Prelude.{All, Option, Some, None}
use Rattle.std.specs.List.{Contains, AllZip, range_with_len}
use Rattle.std.specs.Option.{option_map_or}
use Rattle.dexspec.specs.Lists.{OrNone}
use Rattle.dexspec.specs.Bytes.{uint_at}
use Rattle.dexspec.specs.Texts.{Text}
use Rattle.dexspec.specs.Header.{Table, StringIds, TypeIds, ProtoIds, FieldIds, MethodIds, ClassDefs, table_size}
use Rattle.dexspec.specs.Header.{HasSize, HasMagic, HasVersion, version, HasLengths, HasEndian, HasNoLink, HasChecksum}
use Rattle.dexspec.specs.Header.{HasSignature}
use Rattle.dexspec.specs.Sections.{HasLayout, HasMap}
use Rattle.dexspec.specs.Rows.{StringRow, type_indices, HasString, HasType, HasProto, HasField, HasMethod}
use Rattle.dexspec.specs.Pieces.{Cut, Piece}
use Rattle.dexspec.specs.Debug.{Debug, DebugAt}
use Rattle.dexspec.specs.Code.{Try, PiecesAt, TriesAt}
use Rattle.dexspec.specs.Values.{Values, NoValues, count_values}
use Rattle.dexspec.specs.Annotations.{Directory, DirectoryAt, no_directory}
use Rattle.dexspec.specs.ClassData.{ClassData, ClassDataAt, no_class_data, fields_of, methods_of, BelongTo}
use Rattle.dexspec.specs.Classes.{Definition, ClassRow, ClassTypeRow, ClassListAt, IndexOrNone, StaticValuesAt}
use Rattle.dexspec.specs.Classes.{class_idx, superclass_idx, interfaces_off, source_file_idx, annotations_off}
use Rattle.dexspec.specs.Classes.{class_data_off, static_values_off, no_index}
use Rattle.dexspec.specs.Weight.{weight, most_weight}
use Rattle.dexspec.specs.Conditions.{Condition}

-- ---- condition 16

-- the indices of the superclass, if there is one, and of the interfaces
abbrev pub parent_indices : List ℕ → ℕ → List ℕ
parent_indices b r = (if superclass_idx b r == no_index then [] else superclass_idx b r ∷ [])
    ++ (if interfaces_off b r == 0 then [] else type_indices b (interfaces_off b r))

-- if the file has a class row of this type, it has one before row r
abbrev pub IsDefinedBefore : List ℕ → ℕ → ℕ → Type 0
IsDefinedBefore b r index =
    (k : ℕ) → k < table_size b ClassDefs → class_idx b k ≡ index → (j : ℕ) × (j < r) × (class_idx b j ≡ index)

-- 16 Classes. Repeated interfaces are accepted and kept (this project's rule).
pub record HasClass (b : List ℕ) (r : ℕ) : Type 0 where
  pub name : Text
  pub is : ClassTypeRow b (class_idx b r) name
  pub first : (k : ℕ) → k < r → class_idx b k ≢ class_idx b r
  pub superclass : (t : Option Text) × IndexOrNone ClassTypeRow b (superclass_idx b r) t
  pub interfaces : (ts : List Text) × OrNone ClassListAt [] b (interfaces_off b r) ts
  pub source : (s : Option Text) × IndexOrNone StringRow b (source_file_idx b r) s
  pub parents : All (IsDefinedBefore b r) (parent_indices b r)

-- ---- conditions 17 to 20

-- the class of row r declares these members
pub record Declares (b : List ℕ) (r : ℕ) (d : ClassData) : Type 0 where
  pub name : Text
  pub class : ClassTypeRow b (class_idx b r) name
  pub is : OrNone ClassDataAt no_class_data b (class_data_off b r) d
  pub own : BelongTo name d

-- 17 Members
abbrev pub HasMembers : List ℕ → ℕ → Type 0
HasMembers b r = (d : ClassData) × Declares b r d

-- P holds at the offset of each code_item of the class, if condition 17 holds
abbrev pub AllCode : (List ℕ → ℕ → Type 0) → List ℕ → ℕ → Type 0
AllCode P b r = (d : ClassData) → Declares b r d → All (λ m. m.code_off ≢ 0 → P b m.code_off) (methods_of d)

-- the fixed part and the units of a code_item are at the offset
abbrev pub HasPiecesAt : List ℕ → ℕ → Type 0
HasPiecesAt b o = (cuts : List Cut) × (ps : List Piece) × PiecesAt b o cuts ps

-- if the fixed part and the units are there, so are the tries
abbrev pub HasTriesAt : List ℕ → ℕ → Type 0
HasTriesAt b o = (cs : List Cut) (ps : List Piece) → PiecesAt b o cs ps → (tries : List Try) × TriesAt b o cs tries

-- if the fixed part and the units are there, so is the debug program, if the code has one
abbrev pub HasDebugAt : List ℕ → ℕ → Type 0
HasDebugAt b o = (cs : List Cut) (ps : List Piece) → PiecesAt b o cs ps → uint_at b (o + 8) ≢ 0
    → (d : Debug) × DebugAt b (uint_at b (o + 8)) d

-- 18 Code
abbrev pub HasCode : List ℕ → ℕ → Type 0
HasCode b r = AllCode HasPiecesAt b r

-- 19 Tries
abbrev pub HasTries : List ℕ → ℕ → Type 0
HasTries b r = AllCode HasTriesAt b r

-- 20 Debug
abbrev pub HasDebug : List ℕ → ℕ → Type 0
HasDebug b r = AllCode HasDebugAt b r

-- ---- conditions 21 to 23

-- 21 Values: no more than the static fields
abbrev pub HasValues : List ℕ → ℕ → Type 0
HasValues b r = (d : ClassData) → Declares b r d → (vs : Values)
    × OrNone StaticValuesAt NoValues b (static_values_off b r) vs × (count_values vs ≤ length d.static_fields)

-- each member that the directory names is declared
pub record NamesDeclared (annotated : Directory) (d : ClassData) : Type 0 where
  pub fields : All (λ e. Contains (map (λ x. x.field) (fields_of d)) e.0) annotated.fields
  pub methods : All (λ e. Contains (map (λ x. x.method) (methods_of d)) e.0) annotated.methods
  pub parameters : All (λ e. Contains (map (λ x. x.method) (methods_of d)) e.0) annotated.parameters

-- 22 Annotations
abbrev pub HasAnnotations : List ℕ → ℕ → Type 0
HasAnnotations b r =
    (d : ClassData) → Declares b r d
    → (a : Directory) × OrNone DirectoryAt no_directory b (annotations_off b r) a × NamesDeclared a d

-- all that a row refers to can be read
pub record IsReadable (b : List ℕ) (r : ℕ) : Type 0 where
  pub members : HasMembers b r
  pub code : HasCode b r
  pub tries : HasTries b r
  pub debug : HasDebug b r
  pub values : HasValues b r
  pub annotations : HasAnnotations b r

-- the rows before row n are these definitions
abbrev pub AreRows : List ℕ → ℕ → List Definition → Type 0
AreRows b n D = AllZip (λ r d. ClassRow b r d.0 d.1) (range_with_len 0 n) D

-- 23 Weight: if rows 0 to r are readable, they do not weigh too much together (this project's rule)
abbrev pub HasWeight : List ℕ → ℕ → Type 0
HasWeight b r =
    (D : List Definition) → ((k : ℕ) → k ≤ r → IsReadable b k) → AreRows b (r + 1) D → weight D ≤ most_weight

-- ---- all of them

-- the number that a refusal reports
abbrev pub number : Condition → ℕ
number Condition.Size = 1
number Condition.Magic = 2
number Condition.Version = 3
number Condition.Lengths = 4
number Condition.Endian = 5
number Condition.Link = 6
number Condition.Checksum = 7
number Condition.Signature = 8
number Condition.Layout = 9
number Condition.Map = 10
number Condition.Strings = 11
number Condition.Types = 12
number Condition.Protos = 13
number Condition.Fields = 14
number Condition.Methods = 15
number Condition.Classes = 16
number Condition.Members = 17
number Condition.Code = 18
number Condition.Tries = 19
number Condition.Debug = 20
number Condition.Values = 21
number Condition.Annotations = 22
number Condition.Weight = 23

-- what holds for the bytes at a row; the first ten conditions are about the whole file
abbrev pub Holds : Condition → List ℕ → ℕ → Type 0
Holds Condition.Size = λ b r. HasSize b
Holds Condition.Magic = λ b r. HasMagic b
Holds Condition.Version = λ b r. HasVersion b
Holds Condition.Lengths = λ b r. HasLengths b
Holds Condition.Endian = λ b r. HasEndian b
Holds Condition.Link = λ b r. HasNoLink b
Holds Condition.Checksum = λ b r. HasChecksum b
Holds Condition.Signature = λ b r. HasSignature b
Holds Condition.Layout = λ b r. HasLayout b
Holds Condition.Map = λ b r. HasMap b
Holds Condition.Strings = HasString
Holds Condition.Types = HasType
Holds Condition.Protos = HasProto
Holds Condition.Fields = HasField
Holds Condition.Methods = HasMethod
Holds Condition.Classes = HasClass
Holds Condition.Members = HasMembers
Holds Condition.Code = HasCode
Holds Condition.Tries = HasTries
Holds Condition.Debug = HasDebug
Holds Condition.Values = HasValues
Holds Condition.Annotations = HasAnnotations
Holds Condition.Weight = HasWeight

-- the table of the file at whose rows a condition is checked; the first ten are checked once
abbrev pub checked_table : Condition → Option Table
checked_table Condition.Size = None
checked_table Condition.Magic = None
checked_table Condition.Version = None
checked_table Condition.Lengths = None
checked_table Condition.Endian = None
checked_table Condition.Link = None
checked_table Condition.Checksum = None
checked_table Condition.Signature = None
checked_table Condition.Layout = None
checked_table Condition.Map = None
checked_table Condition.Strings = Some StringIds
checked_table Condition.Types = Some TypeIds
checked_table Condition.Protos = Some ProtoIds
checked_table Condition.Fields = Some FieldIds
checked_table Condition.Methods = Some MethodIds
checked_table Condition.Classes = Some ClassDefs
checked_table Condition.Members = Some ClassDefs
checked_table Condition.Code = Some ClassDefs
checked_table Condition.Tries = Some ClassDefs
checked_table Condition.Debug = Some ClassDefs
checked_table Condition.Values = Some ClassDefs
checked_table Condition.Annotations = Some ClassDefs
checked_table Condition.Weight = Some ClassDefs

-- the number of rows at which a condition is checked
abbrev pub rows_checked : Condition → List ℕ → ℕ
rows_checked c b = option_map_or (table_size b) (checked_table c) 1

-- the condition holds at each of its rows
abbrev pub HoldsThroughout : Condition → List ℕ → Type 0
HoldsThroughout c b = (r : ℕ) → r < rows_checked c b → Holds c b r

-- the conditions below this number hold
abbrev pub HoldBelow : ℕ → List ℕ → Type 0
HoldBelow n b = (c : Condition) → number c < n → HoldsThroughout c b

-- header, sums, layout and map: conditions 1 to 10
abbrev pub IsFrame : List ℕ → Type 0
IsFrame b = HoldBelow 11 b

-- the file is accepted
abbrev pub IsAccepted : List ℕ → Type 0
IsAccepted b = (c : Condition) → HoldsThroughout c b

-- ---- refusals

-- the conditions before it hold, and the condition fails first at this row
pub record FailsFirst (c : Condition) (b : List ℕ) (r : ℕ) : Type 0 where
  pub before : HoldBelow (number c) b
  pub row : r < rows_checked c b
  pub rows : (k : ℕ) → k < r → Holds c b k
  pub fails : Holds c b r → ⊥

-- conditions 1 to 16 hold, and a later one fails at this class row
pub record FailsAt (c : Condition) (b : List ℕ) (r : ℕ) : Type 0 where
  pub before : HoldBelow 17 b
  pub late : 17 ≤ number c
  pub row : r < rows_checked c b
  pub fails : Holds c b r → ⊥

-- the place that is reported for row r: the version if it is wrong, 0 for a condition on the whole file, and otherwise
-- the row
abbrev pub place : Condition → List ℕ → ℕ → ℕ
place Condition.Version b r = version b
place c b r = r

-- the file is refused with this number and place: the first of conditions 1 to 16 that fails, at its least row; if all
-- of these hold, any other condition at a row where it fails
abbrev pub IsRefused : List ℕ → ℕ → ℕ → Type 0
IsRefused b n p =
    (c : Condition) × (r : ℕ) × (n ≡ number c) × (p ≡ place c b r) × (((n ≤ 16) × FailsFirst c b r) ⊎ FailsAt c b r)
