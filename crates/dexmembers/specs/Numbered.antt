-- What a class declares, with numbers for symbols, and what it denotes.
use Rattle.std.specs.Prelude.{◌≡◌, ℕ, ◌+◌, ◌^◌, ◌<◌, true, List, [], ◌++◌, length, map, All, Option, IfSome}
use Rattle.std.specs.Option.{option_map}
use Rattle.std.specs.Ordering.{nat_cmp}
use Rattle.dexspec.specs.Lists.{rises}
use Rattle.dexspec.specs.Texts.{Text}
use Rattle.dexspec.specs.Values.{Values}
use Rattle.dexspec.specs.Annotations.{AnnotationSet}
use Rattle.dexspec.specs.ClassData.{ShareNone}
use Rattle.dexspec.specs.Classes.{FieldDef, MethodDef, Body}
use Rattle.dexspec.specs.Mentions.{Mentions}
use Rattle.dexcode.specs.Numbered.{NumberedItem}
use Rattle.dexcode.specs.Meaning.{code_in, IsKnownCode}
use Rattle.dexval.specs.Numbered.{NumberedSet, NumberedValues, NoValue, set_in, values_in, field_at, method_at}
use Rattle.dexval.specs.Numbered.{IsKnownSet, AreKnown}

-- A declared field: its number, its access flags, and its annotations.
pub record NumberedField : Type 0 where
  pub number : ℕ
  pub flags : ℕ
  pub annotations : NumberedSet

-- A declared method: its number, its access flags, its code, its annotations, and those of its parameters.
pub record NumberedMethod : Type 0 where
  pub number : ℕ
  pub flags : ℕ
  pub code : Option NumberedItem
  pub annotations : NumberedSet
  pub parameter_annotations : List NumberedSet

-- What a class declares: its own annotations, its fields and methods, and what its static fields begin with.
pub record NumberedMembers : Type 0 where
  pub annotations : NumberedSet
  pub static_fields : List NumberedField
  pub instance_fields : List NumberedField
  pub direct_methods : List NumberedMethod
  pub virtual_methods : List NumberedMethod
  pub static_values : NumberedValues

-- a class that declares nothing
abbrev pub no_members : NumberedMembers
no_members =
    record {
      annotations = [];
      static_fields = [];
      instance_fields = [];
      direct_methods = [];
      virtual_methods = [];
      static_values = NoValue;
    }

-- the static fields, and then the instance fields
abbrev pub fields_of : NumberedMembers → List NumberedField
fields_of x = x.static_fields ++ x.instance_fields

-- there are fewer than 2 ^ 32 fields, and fewer than 2 ^ 32 methods
pub record AreFew (static_fields instance_fields : List NumberedField)
    (direct_methods virtual_methods : List NumberedMethod) : Type 0 where
  pub few_fields : length static_fields + length instance_fields < 2 ^ 32
  pub few_methods : length direct_methods + length virtual_methods < 2 ^ 32

-- the counts of what is declared fit 32 bits
abbrev pub HasFewMembers : NumberedMembers → Type 0
HasFewMembers x = AreFew x.static_fields x.instance_fields x.direct_methods x.virtual_methods

-- the direct methods, and then the virtual methods
abbrev pub methods_of : NumberedMembers → List NumberedMethod
methods_of x = x.direct_methods ++ x.virtual_methods

-- ---- what the numbers denote

-- What a class declares, with symbols: that of a body of a class definition.
pub record Members : Type 0 where
  pub annotations : AnnotationSet
  pub static_fields : List FieldDef
  pub instance_fields : List FieldDef
  pub direct_methods : List MethodDef
  pub virtual_methods : List MethodDef
  pub static_values : Values

-- what the body declares
abbrev pub members_of : Body → Members
members_of c = record {
  annotations = c.annotations;
  static_fields = c.static_fields;
  instance_fields = c.instance_fields;
  direct_methods = c.direct_methods;
  virtual_methods = c.virtual_methods;
  static_values = c.static_values;
}

-- the field that the numbers denote
abbrev pub field_in : Mentions → NumberedField → FieldDef
field_in m f = record {
  name = (field_at m f.number).name;
  type = (field_at m f.number).type;
  flags = f.flags;
  annotations = set_in m f.annotations;
}

-- the method
abbrev pub method_in : Mentions → NumberedMethod → MethodDef
method_in m x = record {
  name = (method_at m x.number).name;
  proto = (method_at m x.number).proto;
  flags = x.flags;
  code = option_map (code_in m) x.code;
  annotations = set_in m x.annotations;
  parameter_annotations = map (set_in m) x.parameter_annotations;
}

-- all of them
abbrev pub members_in : Mentions → NumberedMembers → Members
members_in m x = record {
  annotations = set_in m x.annotations;
  static_fields = map (field_in m) x.static_fields;
  instance_fields = map (field_in m) x.instance_fields;
  direct_methods = map (method_in m) x.direct_methods;
  virtual_methods = map (method_in m) x.virtual_methods;
  static_values = values_in m x.static_values;
}

-- ---- numbers that are those of symbols

-- each number of the field is that of a symbol
pub record IsKnownField (m : Mentions) (f : NumberedField) : Type 0 where
  pub number_in : f.number < length m.fields
  pub annotations_known : IsKnownSet m f.annotations

-- of the method
pub record IsKnownMethod (m : Mentions) (x : NumberedMethod) : Type 0 where
  pub number_in : x.number < length m.methods
  pub code_known : IfSome x.code (IsKnownCode m)
  pub annotations_known : IsKnownSet m x.annotations
  pub parameters_known : All (IsKnownSet m) x.parameter_annotations

-- of all of them
pub record AreKnownMembers (m : Mentions) (x : NumberedMembers) : Type 0 where
  pub annotations_known : IsKnownSet m x.annotations
  pub static_fields_known : All (IsKnownField m) x.static_fields
  pub instance_fields_known : All (IsKnownField m) x.instance_fields
  pub direct_methods_known : All (IsKnownMethod m) x.direct_methods
  pub virtual_methods_known : All (IsKnownMethod m) x.virtual_methods
  pub values_known : AreKnown m x.static_values

-- ---- their order

-- the numbers rise
abbrev pub NumbersRise : List ℕ → Type 0
NumbersRise ns = rises nat_cmp ns ≡ true

-- the numbers of each list rise, and none is in two
pub record AreOrdered (x : NumberedMembers) : Type 0 where
  pub static_fields_rise : NumbersRise (map (λ f. f.number) x.static_fields)
  pub instance_fields_rise : NumbersRise (map (λ f. f.number) x.instance_fields)
  pub direct_methods_rise : NumbersRise (map (λ y. y.number) x.direct_methods)
  pub virtual_methods_rise : NumbersRise (map (λ y. y.number) x.virtual_methods)
  pub fields_apart : ShareNone (map (λ f. f.number) x.static_fields) (map (λ f. f.number) x.instance_fields)
  pub methods_apart : ShareNone (map (λ y. y.number) x.direct_methods) (map (λ y. y.number) x.virtual_methods)

-- they are members of the class of this name
pub record AreOfClass (m : Mentions) (class : Text) (x : NumberedMembers) : Type 0 where
  pub fields_of_class : All (λ f. (field_at m f.number).class ≡ class) (fields_of x)
  pub methods_of_class : All (λ y. (method_at m y.number).class ≡ class) (methods_of x)
