-- Class data: the fields and methods that a class declares. Source: "Dalvik Executable format", "class_data_item",
-- "encoded_field format", "encoded_method format". This project's rule in part: indices rise strictly, members belong
-- to the class, and no member is declared twice.
use Rattle.std.specs.Prelude.{◌≡◌, ℕ, ◌+◌, ◌<◌, ◌≤◌, List, [], ◌∷◌, ◌++◌, length, map, All, Option, Some, None}
use Rattle.std.specs.List.{Contains}
use Rattle.dexspec.specs.Lists.{Sequence}
use Rattle.dexspec.specs.Numbers.{Uleb128At}
use Rattle.dexspec.specs.Texts.{Text}
use Rattle.dexspec.specs.Symbols.{Field, Method}
use Rattle.dexspec.specs.Header.{data_off}
use Rattle.dexspec.specs.Rows.{FieldRow, MethodRow}

-- a declared field and its access flags
pub record EncodedField : Type 0 where
  pub field : Field
  pub flags : ℕ

-- a declared method, its access flags, and the offset of its code_item, or 0
pub record EncodedMethod : Type 0 where
  pub method : Method
  pub flags : ℕ
  pub code_off : ℕ

-- the four lists of a class_data_item
pub record ClassData : Type 0 where
  pub static_fields : List EncodedField
  pub instance_fields : List EncodedField
  pub direct_methods : List EncodedMethod
  pub virtual_methods : List EncodedMethod

-- the class data of a class without members
abbrev pub no_class_data : ClassData
no_class_data = record { static_fields = []; instance_fields = []; direct_methods = []; virtual_methods = [] }

-- the fields of both lists
abbrev pub fields_of : ClassData → List EncodedField
fields_of d = d.static_fields ++ d.instance_fields

-- the methods of both lists
abbrev pub methods_of : ClassData → List EncodedMethod
methods_of d = d.direct_methods ++ d.virtual_methods

-- the first index of a list is its own difference; a later index is greater than the one before it
abbrev pub IsNextIndex : Option ℕ → ℕ → ℕ → Type 0
IsNextIndex None difference i = i ≡ difference
IsNextIndex (Some last) difference i = (0 < difference) × (i ≡ last + difference)

-- the fields are at offset o, after a field with the index `last`, if there is one
abbrev pub EncodedFieldsAt : List ℕ → ℕ → Option ℕ → List EncodedField → ℕ → Type 0
EncodedFieldsAt b o last [] n = n ≡ 0
EncodedFieldsAt b o last (x ∷ xs) n = (i j rest difference index : ℕ)
    × Uleb128At b o difference i × Uleb128At b (o + i) x.flags j × IsNextIndex last difference index
    × FieldRow b index x.field × EncodedFieldsAt b (o + i + j) (Some index) xs rest × (n ≡ i + j + rest)

-- the same for methods
abbrev pub EncodedMethodsAt : List ℕ → ℕ → Option ℕ → List EncodedMethod → ℕ → Type 0
EncodedMethodsAt b o last [] n = n ≡ 0
EncodedMethodsAt b o last (x ∷ xs) n = (i j k rest difference index : ℕ)
    × Uleb128At b o difference i × Uleb128At b (o + i) x.flags j × Uleb128At b (o + i + j) x.code_off k
    × IsNextIndex last difference index × MethodRow b index x.method
    × EncodedMethodsAt b (o + i + j + k) (Some index) xs rest × (n ≡ i + j + k + rest)

-- A class_data_item is at offset o of the data: four counts and the four lists, each after the one before it, with the
-- number of bytes of each part.
pub record ClassDataAt (b : List ℕ) (o : ℕ) (d : ClassData) : Type 0 where
  pub in_data : data_off b ≤ o
  pub counts_bytes : ℕ
  pub static_fields_bytes : ℕ
  pub instance_fields_bytes : ℕ
  pub direct_methods_bytes : ℕ
  pub virtual_methods_bytes : ℕ
  pub counts : Sequence Uleb128At b o (length d.static_fields ∷ length d.instance_fields
      ∷ length d.direct_methods ∷ length d.virtual_methods ∷ []) counts_bytes
  pub static_fields : EncodedFieldsAt b (o + counts_bytes) None d.static_fields static_fields_bytes
  pub instance_fields : EncodedFieldsAt b (o + counts_bytes + static_fields_bytes) None d.instance_fields
      instance_fields_bytes
  pub direct_methods : EncodedMethodsAt b (o + counts_bytes + static_fields_bytes + instance_fields_bytes) None
      d.direct_methods direct_methods_bytes
  pub virtual_methods : EncodedMethodsAt b (o + counts_bytes + static_fields_bytes + instance_fields_bytes
      + direct_methods_bytes) None d.virtual_methods virtual_methods_bytes

-- no value is in both lists
abbrev pub ShareNone : {X : Type 0} → List X → List X → Type 0
ShareNone {X} xs ys = (x : X) → Contains xs x → Contains ys x → ⊥

-- the members are those of the class of this name, and none is declared twice
pub record BelongTo (name : Text) (d : ClassData) : Type 0 where
  pub fields : All (λ x. x.field.class ≡ name) (fields_of d)
  pub methods : All (λ x. x.method.class ≡ name) (methods_of d)
  pub fields_apart : ShareNone (map (λ x. x.field) d.static_fields) (map (λ x. x.field) d.instance_fields)
  pub methods_apart : ShareNone (map (λ x. x.method) d.direct_methods) (map (λ x. x.method) d.virtual_methods)
