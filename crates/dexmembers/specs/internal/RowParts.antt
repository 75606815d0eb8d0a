-- What a class row has beside its class data, as it is read: annotations, code and static values.
use Rattle.std.specs.Prelude.{◌≡◌, ◌⊎◌, ℕ, ◌<◌, List, length, map, Option, ◌+◌, ◌-◌, ◌^◌, ◌≤◌, IfErr, IfOk, Result, min}
use Rattle.dexspec.specs.Lists.{OrNone, zip_with}
use Rattle.dexspec.specs.Annotations.{Directory, DirectoryAt, no_directory}
use Rattle.dexspec.specs.Classes.{annotations_off}
use Rattle.dexspec.specs.Accepted.{NamesDeclared, HasAnnotations, IsReadable}
use Rattle.dexspec.specs.Mentions.{Mentions}
use Rattle.dexpool.specs.declared.faults.ItemFault.{ItemFault}
use Rattle.dexpool.specs.declared.faults.ItemFault.TheVariants.{Refused, Memory}
use Rattle.dexpool.specs.Pools.{ArePools}
use Rattle.dexcode.specs.Numbered.{NumberedItem}
use Rattle.dexval.specs.Shared.{HoldsPlaces, shared_directory_of}
use Rattle.dexval.specs.Numbered.{NumberedDirectory, NumberedValues, IsKnownDirectory, directory_in}
use Rattle.dexval.specs.Directories.{directory_weight}
use Rattle.dexval.specs.declared.directory.SharedDirectory.{SharedDirectory}
use Rattle.dexmembers.specs.Numbered.{NumberedMembers}
use Rattle.dexmembers.specs.internal.ClassData.{class_data_in, IsDataOf}
use Rattle.dexmembers.specs.internal.Attaching.{EntriesRise, field_with, method_with}
use Rattle.dexmembers.specs.internal.MethodCodes.{AreCodesOf}
use Rattle.dexmembers.specs.internal.StaticValues.{AreValuesOf}
use Rattle.dexmembers.specs.declared.class_data.ClassData.{ClassData as DataRead}
use Rattle.dexmembers.specs.ClassDefs.{IsClassDef}
use Rattle.dexmembers.specs.Contents.{contents_in}
use Rattle.dexmembers.specs.Reading.{AreHeavyMembers, IsMembersFault}
use Rattle.dexmembers.specs.Weighing.{codes_weight}
use Rattle.dexmembers.specs.declared.class_def.ClassDef.{ClassDef}
use Rattle.dexmembers.specs.declared.members.Contents.{Contents}
use Rattle.dexmembers.specs.declared.row_reader.RowReader.{RowReader}
use Rattle.dexmembers.specs.internal.RowReaders.{IsFile}

-- ---- annotations

-- the numbers of each list of the directory rise
pub record AreEntered (a : SharedDirectory) : Type 0 where
  pub fields_entered : EntriesRise a.fields.items
  pub methods_entered : EntriesRise a.methods.items
  pub parameters_entered : EntriesRise a.parameters.items

-- each place of the directory is one of its table's
abbrev pub IsHeldDirectory : SharedDirectory → Type 0
IsHeldDirectory a = HoldsPlaces a.table a.own a.fields.items a.methods.items a.parameters.items

-- class row r has the directory that the numbers denote, or none; it names declared members alone
pub record AreAnnotationsOf (b : List ℕ) (r : ℕ) (m : Mentions) (d : DataRead) (a : SharedDirectory) : Type 0 where
  pub known : IsKnownDirectory m (shared_directory_of a)
  pub at : OrNone DirectoryAt no_directory b (annotations_off b r) (directory_in m (shared_directory_of a))
  pub named : NamesDeclared (directory_in m (shared_directory_of a)) (class_data_in m d)
  pub entered : AreEntered a

-- condition 22 fails at the row; a failed allocation says nothing
abbrev pub IsAnnotationsFault : List ℕ → ℕ → ItemFault → Type 0
IsAnnotationsFault b r Memory = Unit {0}
IsAnnotationsFault b r (Refused number) = (number ≡ 22) × (HasAnnotations b r → ⊥)

-- so it does, or the directory of the row, if one is there, weighs more than it may: 23
abbrev pub IsAnnotationsFaultWithin : List ℕ → ℕ → ℕ → ItemFault → Type 0
IsAnnotationsFaultWithin b r most Memory = Unit {0}
IsAnnotationsFaultWithin b r most (Refused number) =
    IsAnnotationsFault b r (Refused number)
    ⊎ ((number ≡ 23)
    × ((a : Directory) → OrNone DirectoryAt no_directory b (annotations_off b r) a → most < directory_weight a))

-- the annotations of the row that has the offset
abbrev pub ReadsAnnotations : RowReader → ℕ → DataRead → Result SharedDirectory ItemFault → Type 0
ReadsAnnotations reader off d result =
    (r : ℕ) → off ≡ annotations_off reader.frame.now r → IsFile reader → IsDataOf reader.frame.now r reader.pools.now d
    → IfOk result (AreAnnotationsOf reader.frame.now r reader.pools.now d)

-- what is refused are the annotations of the row that has the offset
abbrev pub RefusesAnnotationsWithin : RowReader → ℕ → DataRead → Result SharedDirectory ItemFault → Type 0
RefusesAnnotationsWithin reader off d result =
    (r : ℕ) → off ≡ annotations_off reader.frame.now r → IsFile reader → IsDataOf reader.frame.now r reader.pools.now d
    → IfErr result (IsAnnotationsFaultWithin reader.frame.now r reader.most)

-- so they are where they are only checked
abbrev pub RefusesAnnotations : {X : Type 0} → List ℕ → Mentions → ℕ → DataRead → Result X ItemFault → Type 0
RefusesAnnotations b m off d result =
    (r : ℕ) → off ≡ annotations_off b r → ArePools b m → IsDataOf b r m d → IfErr result (IsAnnotationsFault b r)

-- the directory weighs no more than it may
abbrev pub IsLightDirectory : Mentions → ℕ → SharedDirectory → Type 0
IsLightDirectory m most a = min (2 ^ 64 - 1) (directory_weight (directory_in m (shared_directory_of a))) ≤ most

-- so does one that a reader has read
abbrev pub IsLight : RowReader → SharedDirectory → Type 0
IsLight reader a = IsLightDirectory reader.pools.now reader.most a

-- ---- all of it

-- what the row has beside its class data
pub record ArePartsOf (b : List ℕ) (r : ℕ) (m : Mentions) (d : DataRead) (most : ℕ) (a : SharedDirectory)
    (direct virtual : List (Option NumberedItem)) (vs : NumberedValues) : Type 0 where
  pub annotations : AreAnnotationsOf b r m d a
  pub light : IsLightDirectory m most a
  pub direct_codes : AreCodesOf b m d.direct_methods.items most direct
  pub virtual_codes : AreCodesOf b m d.virtual_methods.items most virtual
  pub values : AreValuesOf b r m (length d.static_fields.items) most vs

-- there is code or none for each method
pub record HaveCodes (d : DataRead) (direct virtual : List (Option NumberedItem)) : Type 0 where
  pub direct_many : length direct ≡ length d.direct_methods.items
  pub virtual_many : length virtual ≡ length d.virtual_methods.items

-- all put together
abbrev pub attached : DataRead → NumberedDirectory → List (Option NumberedItem) → List (Option NumberedItem)
    → NumberedValues → NumberedMembers
attached d a direct virtual vs = record {
  annotations = a.own;
  static_fields = map (field_with a.fields) d.static_fields.items;
  instance_fields = map (field_with a.fields) d.instance_fields.items;
  direct_methods = zip_with (method_with a.methods a.parameters) d.direct_methods.items direct;
  virtual_methods = zip_with (method_with a.methods a.parameters) d.virtual_methods.items virtual;
  static_values = vs;
}

-- ---- as they are read

-- one of the conditions 17 to 22 fails at the row; or the row, if it is readable, declares what weighs more: 23
abbrev pub IsPartFault : List ℕ → ℕ → ℕ → ItemFault → Type 0
IsPartFault b r most Memory = Unit {0}
IsPartFault b r most (Refused n) =
    IsMembersFault b r (Refused n) ⊎ ((n ≡ 23) × (IsReadable b r → AreHeavyMembers b r most))

-- what the class row declares, put together, with the weight of its code, or 2^64 - 1 where that is more
pub record IsPutTogether (b : List ℕ) (r : ℕ) (m : Mentions) (d : DataRead) (most : ℕ) (x : Contents × ℕ) : Type 0 where
  pub directory : SharedDirectory
  pub direct : List (Option NumberedItem)
  pub virtual : List (Option NumberedItem)
  pub values : NumberedValues
  pub parts : ArePartsOf b r m d most directory direct virtual values
  pub is : contents_in x.0 ≡ attached d (shared_directory_of directory) direct virtual values
  pub weight : x.1 ≡ min (2 ^ 64 - 1) (codes_weight direct + codes_weight virtual)

-- what the class row declares
abbrev pub ReadsContents : RowReader → ClassDef → DataRead → Result (Contents × ℕ) ItemFault → Type 0
ReadsContents reader row d result =
    (r : ℕ) → IsClassDef reader.frame.now r row → IsFile reader → IsDataOf reader.frame.now r reader.pools.now d
    → IfOk result (IsPutTogether reader.frame.now r reader.pools.now d reader.most)

-- what is refused is a part of the class row
abbrev pub RefusesParts : RowReader → ClassDef → DataRead → Result (Contents × ℕ) ItemFault → Type 0
RefusesParts reader row d result =
    (r : ℕ) → IsClassDef reader.frame.now r row → IsFile reader → IsDataOf reader.frame.now r reader.pools.now d
    → IfErr result (IsPartFault reader.frame.now r reader.most)
