-- Class data as it is read: the members of the four lists, by their indices in the pools.
use Rattle.std.specs.Prelude.{◌≡◌, ℕ, ◌<◌, List, length, map, All, ◌+◌, IfOk, IfErr, Result}
use Rattle.dexspec.specs.ClassData.{ClassData, EncodedField, EncodedMethod, ShareNone}
use Rattle.dexspec.specs.Accepted.{Declares, HasMembers, HasClass}
use Rattle.dexspec.specs.Mentions.{Mentions}
use Rattle.dexpool.specs.declared.faults.ItemFault.{ItemFault}
use Rattle.dexpool.specs.declared.faults.ItemFault.TheVariants.{Refused, Memory}
use Rattle.dexpool.specs.Pools.{ArePools}
use Rattle.dexval.specs.Numbered.{field_at, method_at}
use Rattle.dexmembers.specs.Numbered.{NumbersRise}
use Rattle.dexmembers.specs.declared.class_data.EncodedField.{EncodedField as FieldRead}
use Rattle.dexmembers.specs.declared.class_data.EncodedMethod.{EncodedMethod as MethodRead}
use Rattle.dexmembers.specs.declared.class_data.ClassData.{ClassData as DataRead}
use Rattle.dexmembers.specs.ClassDefs.{IsClassDef}
use Rattle.dexmembers.specs.declared.class_def.ClassDef.{ClassDef}

-- the field that is declared
abbrev pub encoded_field_in : Mentions → FieldRead → EncodedField
encoded_field_in m f = record { field = field_at m f.index; flags = f.flags }

-- the method
abbrev pub encoded_method_in : Mentions → MethodRead → EncodedMethod
encoded_method_in m x = record { method = method_at m x.index; flags = x.flags; code_off = x.code_off }

-- the four lists
abbrev pub class_data_in : Mentions → DataRead → ClassData
class_data_in m d = record {
  static_fields = map (encoded_field_in m) d.static_fields.items;
  instance_fields = map (encoded_field_in m) d.instance_fields.items;
  direct_methods = map (encoded_method_in m) d.direct_methods.items;
  virtual_methods = map (encoded_method_in m) d.virtual_methods.items;
}

-- how many fields there are
abbrev pub count_fields : DataRead → ℕ
count_fields d = length d.static_fields.items + length d.instance_fields.items

-- the fields of a list are those of the pools, and their indices rise
pub record AreFieldsOf (m : Mentions) (fs : List FieldRead) : Type 0 where
  pub fields_in : All (λ f. f.index < length m.fields) fs
  pub fields_rise : NumbersRise (map (λ f. f.index) fs)

-- the same for methods
pub record AreMethodsOf (m : Mentions) (xs : List MethodRead) : Type 0 where
  pub methods_in : All (λ x. x.index < length m.methods) xs
  pub methods_rise : NumbersRise (map (λ x. x.index) xs)

-- class row r declares these members
pub record IsDataOf (b : List ℕ) (r : ℕ) (m : Mentions) (d : DataRead) : Type 0 where
  pub declared : Declares b r (class_data_in m d)
  pub static_fields_are : AreFieldsOf m d.static_fields.items
  pub instance_fields_are : AreFieldsOf m d.instance_fields.items
  pub direct_methods_are : AreMethodsOf m d.direct_methods.items
  pub virtual_methods_are : AreMethodsOf m d.virtual_methods.items
  pub fields_apart : ShareNone (map (λ f. f.index) d.static_fields.items) (map (λ f. f.index) d.instance_fields.items)
  pub methods_apart : ShareNone (map (λ x. x.index) d.direct_methods.items) (map (λ x. x.index) d.virtual_methods.items)

-- the row declares no members that a class may; a failed allocation says nothing
abbrev pub IsDataFault : List ℕ → ℕ → ItemFault → Type 0
IsDataFault b r Memory = Unit {0}
IsDataFault b r (Refused number) = (number ≡ 17) × (HasMembers b r → ⊥)

-- ---- as they are read

-- the members that the row of a class declares were read
abbrev pub ReadsData : List ℕ → Mentions → ClassDef → Result DataRead ItemFault → Type 0
ReadsData b m row result = (r : ℕ) → IsClassDef b r row → ArePools b m → HasClass b r → IfOk result (IsDataOf b r m)

-- what is refused is the class data of the row
abbrev pub RefusesData : List ℕ → Mentions → ClassDef → Result DataRead ItemFault → Type 0
RefusesData b m row result = (r : ℕ) → IsClassDef b r row → ArePools b m → IfErr result (IsDataFault b r)
