-- Class rows as they are checked.
use Rattle.std.specs.Prelude.{◌≡◌, ◌↔◌, ℕ, ◌<◌, ◌==◌, Bool, false, IsTrue, List, [], ◌∷◌, length, if◌then◌else◌, Option}
use Rattle.std.specs.Prelude.{All, slice_index_or}
use Rattle.dexspec.specs.Lists.{OrNone}
use Rattle.dexspec.specs.Texts.{Text}
use Rattle.dexspec.specs.Header.{ClassDefs, TypeIds, table_size}
use Rattle.dexspec.specs.Rows.{StringRow}
use Rattle.dexspec.specs.Classes.{class_idx, ClassTypeRow, ClassListAt, IndexOrNone, no_index}
use Rattle.dexspec.specs.Conditions.{Condition}
use Rattle.dexspec.specs.Accepted.{IsFrame, IsDefinedBefore, FailsFirst}
use Rattle.dexspec.specs.Mentions.{Mentions}
use Rattle.dexpool.specs.Pools.{ArePools}
use Rattle.dexids.specs.Reading.{listed}
use Rattle.dexids.specs.declared.faults.ReadFault.{ReadFault}
use Rattle.dexids.specs.declared.faults.ReadFault.TheVariants.{Refused, Memory}

-- row i of the types is a class
abbrev pub IsClassIndex : List ℕ → ℕ → Type 0
IsClassIndex b i = (t : Text) × ClassTypeRow b i t

-- one of the class rows before row n is of this type
abbrev pub IsDefinedBelow : List ℕ → ℕ → ℕ → Type 0
IsDefinedBelow b n index = (k : ℕ) × (k < n) × (class_idx b k ≡ index)

-- the marks say for each type whether one of the class rows before row n is of it
pub record AreDefinedMarks (b : List ℕ) (n : ℕ) (marks : List Bool) : Type 0 where
  pub count : length marks ≡ table_size b TypeIds
  pub each : (i : ℕ) → i < table_size b TypeIds → IsTrue (slice_index_or marks i false) ↔ IsDefinedBelow b n i

-- what is known of a file before its class rows are checked
pub record IsKnown (b : List ℕ) (m : Mentions) (defined : List Bool) : Type 0 where
  pub frame : IsFrame b
  pub pools : ArePools b m
  pub marks : AreDefinedMarks b (table_size b ClassDefs) defined

-- the index is none, or that of a class
abbrev pub IsParentIndex : List ℕ → ℕ → Type 0
IsParentIndex b i = (t : Option Text) × IndexOrNone ClassTypeRow b i t

-- the index is none, or that of a text
abbrev pub IsSourceIndex : List ℕ → ℕ → Type 0
IsSourceIndex b i = (s : Option Text) × IndexOrNone StringRow b i s

-- the index is that of a class, which is defined before row r if the file defines it
pub record IsInterfaceIndex (b : List ℕ) (r i : ℕ) : Type 0 where
  pub class_is : IsClassIndex b i
  pub before : IsDefinedBefore b r i

-- the index of the superclass, if it is one
abbrev pub superclass_indices : ℕ → List ℕ
superclass_indices i = if i == no_index then [] else i ∷ []

-- at the offset is a list of classes, or none
abbrev pub HasInterfaceList : List ℕ → ℕ → Type 0
HasInterfaceList b o = (ts : List Text) × OrNone ClassListAt [] b o ts

-- at the offset is a list of classes, or none, and those that the file defines are defined before row r
pub record HasInterfaces (b : List ℕ) (r o : ℕ) : Type 0 where
  pub types : List Text
  pub list : OrNone ClassListAt [] b o types
  pub before : All (IsDefinedBefore b r) (listed b o)

-- condition 16 is the first that fails, at its least row; `Memory` says nothing of the file
abbrev pub IsClassFault : List ℕ → ReadFault → Type 0
IsClassFault b Memory = Unit {0}
IsClassFault b (Refused r) = (r.number ≡ 16) × FailsFirst Condition.Classes b r.place
