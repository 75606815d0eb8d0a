-- What a class declares as it is read from a file.
use Rattle.std.specs.Prelude.{◌≡◌, ◌⊎◌, ℕ, ◌<◌, ◌≤◌, List, map}
use Rattle.std.specs.List.{AllZip}
use Rattle.dexspec.specs.Lists.{OrNone}
use Rattle.dexspec.specs.Texts.{Text}
use Rattle.dexspec.specs.Values.{NoValues}
use Rattle.dexspec.specs.Annotations.{Directory, DirectoryAt, no_directory}
use Rattle.dexspec.specs.ClassData.{ClassData, ClassDataAt, no_class_data}
use Rattle.dexspec.specs.Classes.{MakesMethod, StaticValuesAt, ClassTypeRow, field_def, class_idx, annotations_off}
use Rattle.dexspec.specs.Classes.{class_data_off, static_values_off}
use Rattle.dexspec.specs.Conditions.{Condition}
use Rattle.dexspec.specs.Accepted.{IsReadable, Holds, HasClass, number}
use Rattle.dexspec.specs.Mentions.{Mentions}
use Rattle.dexpool.specs.declared.faults.ItemFault.{ItemFault}
use Rattle.dexpool.specs.declared.faults.ItemFault.TheVariants.{Refused, Memory}
use Rattle.dexpool.specs.Pools.{ArePools}
use Rattle.dexmembers.specs.Numbered.{Members, NumberedMembers, members_in, AreKnownMembers, AreOrdered, AreOfClass}
use Rattle.dexmembers.specs.Weight.{members_weight}

-- class row r declares this
pub record MembersRow (b : List ℕ) (r : ℕ) (x : Members) : Type 0 where
  pub directory : Directory
  pub directory_is : OrNone DirectoryAt no_directory b (annotations_off b r) directory
  pub declared : ClassData
  pub declared_is : OrNone ClassDataAt no_class_data b (class_data_off b r) declared
  pub annotations : x.annotations ≡ directory.own
  pub static_fields : x.static_fields ≡ map (field_def directory) declared.static_fields
  pub instance_fields : x.instance_fields ≡ map (field_def directory) declared.instance_fields
  pub direct_methods : AllZip (MakesMethod b directory) declared.direct_methods x.direct_methods
  pub virtual_methods : AllZip (MakesMethod b directory) declared.virtual_methods x.virtual_methods
  pub static_values : OrNone StaticValuesAt NoValues b (static_values_off b r) x.static_values

-- the row is readable and declares what the numbers denote, which weighs no more than it may
pub record AreMembersOf (b : List ℕ) (r : ℕ) (m : Mentions) (most : ℕ) (x : NumberedMembers) : Type 0 where
  pub readable : IsReadable b r
  pub known : AreKnownMembers m x
  pub row : MembersRow b r (members_in m x)
  pub ordered : AreOrdered x
  pub of_class : (name : Text) → ClassTypeRow b (class_idx b r) name → AreOfClass m name x
  pub light : members_weight (members_in m x) ≤ most

-- the row is readable, and what it declares weighs more
pub record AreHeavyMembers (b : List ℕ) (r most : ℕ) : Type 0 where
  pub readable : IsReadable b r
  pub members : Members
  pub row : MembersRow b r members
  pub heavy : most < members_weight members

-- what a reader within a weight returns: members, and what they weigh
abbrev pub AreReadWithin : List ℕ → ℕ → Mentions → ℕ → NumberedMembers × ℕ → Type 0
AreReadWithin b r m most x = AreMembersOf b r m most x.0 × (x.1 ≡ members_weight (members_in m x.0))

-- one of the conditions 17 to 22 fails at the row, and its number is reported; a failed allocation says nothing
abbrev pub IsMembersFault : List ℕ → ℕ → ItemFault → Type 0
IsMembersFault b r Memory = Unit {0}
IsMembersFault b r (Refused n) = (c : Condition) × (n ≡ number c) × (17 ≤ n) × (n ≤ 22) × (Holds c b r → ⊥)

-- so it is of a reader within a weight, or what the row declares weighs more: 23
abbrev pub IsMembersFaultWithin : List ℕ → ℕ → ℕ → ItemFault → Type 0
IsMembersFaultWithin b r most Memory = Unit {0}
IsMembersFaultWithin b r most (Refused n) = IsMembersFault b r (Refused n) ⊎ ((n ≡ 23) × AreHeavyMembers b r most)

-- so it is where the pools are those of the file, and the row has a class
abbrev pub InClass : List ℕ → Mentions → ℕ → Type 0 → Type 0
InClass b m r P = ArePools b m → HasClass b r → P
