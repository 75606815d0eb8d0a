-- Class definitions, and what a class row of a file denotes. Source: "Dalvik Executable format", "class_def_item".
use Rattle.std.specs.Prelude.{◌≡◌, ℕ, ◌+◌, ◌<◌, List, [], ◌++◌, map, All, Option, Some, None}
use Rattle.std.specs.List.{AllZip}
use Rattle.dexspec.specs.Lists.{OrNone, SomeAt}
use Rattle.dexspec.specs.Bytes.{uint_at}
use Rattle.dexspec.specs.Texts.{Text}
use Rattle.dexspec.specs.Names.{IsClass}
use Rattle.dexspec.specs.Symbols.{Proto, field_cmp, method_cmp}
use Rattle.dexspec.specs.Header.{ClassDefs, table_size}
use Rattle.dexspec.specs.Rows.{row_at, StringRow, TypeRow, TypeListAt}
use Rattle.dexspec.specs.Code.{Code, CodeAt}
use Rattle.dexspec.specs.Values.{Values, NoValues, EncodedArrayItemAt}
use Rattle.dexspec.specs.Annotations.{AnnotationSet, Directory, DirectoryAt, no_directory, annotated}
use Rattle.dexspec.specs.ClassData.{ClassData, ClassDataAt, no_class_data, EncodedField, EncodedMethod}

-- a field that a class declares
pub record FieldDef : Type 0 where
  pub name : Text
  pub type : Text
  pub flags : ℕ
  pub annotations : AnnotationSet

-- a method that a class declares, with a set for each parameter, or no sets
pub record MethodDef : Type 0 where
  pub name : Text
  pub proto : Proto
  pub flags : ℕ
  pub code : Option Code
  pub annotations : AnnotationSet
  pub parameter_annotations : List AnnotationSet

-- A class without its name. In a well-formed class fields are in order of name and type, methods in order of name and
-- proto. The static values belong to the static fields in order, and may be fewer.
pub record Body : Type 0 where
  pub flags : ℕ
  pub superclass : Option Text
  pub interfaces : List Text
  pub source : Option Text
  pub annotations : AnnotationSet
  pub static_fields : List FieldDef
  pub instance_fields : List FieldDef
  pub direct_methods : List MethodDef
  pub virtual_methods : List MethodDef
  pub static_values : Values

-- A class definition: a name and a body.
abbrev pub Definition : Type 0
Definition = Text × Body

-- the static fields, then the instance fields
abbrev pub declared_fields : Body → List FieldDef
declared_fields c = c.static_fields ++ c.instance_fields

-- the direct methods, then the virtual methods
abbrev pub declared_methods : Body → List MethodDef
declared_methods c = c.direct_methods ++ c.virtual_methods

-- ---- the fields of a class row

-- the type that class row r defines
abbrev pub class_idx : List ℕ → ℕ → ℕ
class_idx b r = uint_at b (row_at b ClassDefs r)

-- its access flags
abbrev pub access_flags : List ℕ → ℕ → ℕ
access_flags b r = uint_at b (row_at b ClassDefs r + 4)

-- its superclass, or none
abbrev pub superclass_idx : List ℕ → ℕ → ℕ
superclass_idx b r = uint_at b (row_at b ClassDefs r + 8)

-- the offset of the list of its interfaces, or 0
abbrev pub interfaces_off : List ℕ → ℕ → ℕ
interfaces_off b r = uint_at b (row_at b ClassDefs r + 12)

-- its source text, or none
abbrev pub source_file_idx : List ℕ → ℕ → ℕ
source_file_idx b r = uint_at b (row_at b ClassDefs r + 16)

-- the offset of its annotations directory, or 0
abbrev pub annotations_off : List ℕ → ℕ → ℕ
annotations_off b r = uint_at b (row_at b ClassDefs r + 20)

-- the offset of its class data, or 0
abbrev pub class_data_off : List ℕ → ℕ → ℕ
class_data_off b r = uint_at b (row_at b ClassDefs r + 24)

-- the offset of its static values, or 0
abbrev pub static_values_off : List ℕ → ℕ → ℕ
static_values_off b r = uint_at b (row_at b ClassDefs r + 28)

-- the index that denotes nothing
abbrev pub no_index : ℕ
no_index = 0xffffffff

-- the index denotes nothing, or a row that is the value
abbrev pub IndexOrNone : {X : Type 0} → (List ℕ → ℕ → X → Type 0) → List ℕ → ℕ → Option X → Type 0
IndexOrNone Row b i None = i ≡ no_index
IndexOrNone Row b i (Some x) = Row b i x

-- row i is a type that is a class
pub record ClassTypeRow (b : List ℕ) (i : ℕ) (t : Text) : Type 0 where
  pub row : TypeRow b i t
  pub class : IsClass t

-- a type_list of classes is at offset o
pub record ClassListAt (b : List ℕ) (o : ℕ) (ts : List Text) : Type 0 where
  pub list : TypeListAt b o ts
  pub classes : All IsClass ts

-- the static values are at offset o of the data
abbrev pub StaticValuesAt : List ℕ → ℕ → Values → Type 0
StaticValuesAt b o vs = (n : ℕ) × EncodedArrayItemAt b o vs n

-- ---- the class of a row

-- the field of an encoded field and a directory
abbrev pub field_def : Directory → EncodedField → FieldDef
field_def d x =
    record {
      name = x.field.name;
      type = x.field.type;
      flags = x.flags;
      annotations = annotated field_cmp d.fields x.field;
    }

-- the method of an encoded method and a directory, with its code
pub record MakesMethod (b : List ℕ) (d : Directory) (x : EncodedMethod) (m : MethodDef) : Type 0 where
  pub name : m.name ≡ x.method.name
  pub proto : m.proto ≡ x.method.proto
  pub flags : m.flags ≡ x.flags
  pub code : OrNone (SomeAt CodeAt) None b x.code_off m.code
  pub annotations : m.annotations ≡ annotated method_cmp d.methods x.method
  pub parameter_annotations : m.parameter_annotations ≡ annotated method_cmp d.parameters x.method

-- class row r is the definition of this name and body
pub record ClassRow (b : List ℕ) (r : ℕ) (name : Text) (c : Body) : Type 0 where
  pub row : r < table_size b ClassDefs
  pub class : ClassTypeRow b (class_idx b r) name
  pub flags : c.flags ≡ access_flags b r
  pub superclass : IndexOrNone ClassTypeRow b (superclass_idx b r) c.superclass
  pub interfaces : OrNone ClassListAt [] b (interfaces_off b r) c.interfaces
  pub source : IndexOrNone StringRow b (source_file_idx b r) c.source
  pub directory : Directory
  pub directory_is : OrNone DirectoryAt no_directory b (annotations_off b r) directory
  pub members : ClassData
  pub members_are : OrNone ClassDataAt no_class_data b (class_data_off b r) members
  pub annotations : c.annotations ≡ directory.own
  pub static_fields : c.static_fields ≡ map (field_def directory) members.static_fields
  pub instance_fields : c.instance_fields ≡ map (field_def directory) members.instance_fields
  pub direct_methods : AllZip (MakesMethod b directory) members.direct_methods c.direct_methods
  pub virtual_methods : AllZip (MakesMethod b directory) members.virtual_methods c.virtual_methods
  pub static_values : OrNone StaticValuesAt NoValues b (static_values_off b r) c.static_values
