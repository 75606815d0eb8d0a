-- Class rows as they are checked: what they declare is there, and weighs this much. Nothing of it is kept.
use Rattle.std.specs.Prelude.{◌≡◌, ℕ, ◌+◌, ◌-◌, ◌^◌, min, List, Option, None, Some, nat_eq, sum_by, IfOk, Result}
use Rattle.std.specs.HashMap.{get}
use Rattle.dexspec.specs.Lists.{OrNone, SomeAt}
use Rattle.dexspec.specs.Code.{Code, CodeAt}
use Rattle.dexspec.specs.Values.{Values}
use Rattle.dexspec.specs.Annotations.{Directory, DirectoryAt, no_directory}
use Rattle.dexspec.specs.Classes.{annotations_off, static_values_off}
use Rattle.dexspec.specs.Accepted.{NamesDeclared, IsReadable}
use Rattle.dexspec.specs.Mentions.{Mentions}
use Rattle.dexspec.specs.Weight.{static_values_weight}
use Rattle.dexdebug.specs.Checking.{AreCheckedDebugs}
use Rattle.dexcode.specs.Checking.{HasCodeOf}
use Rattle.dexval.specs.CheckedSets.{IsWeighed, AreChecked}
use Rattle.dexval.specs.CheckedStatics.{AreCheckedStatics}
use Rattle.dexval.specs.Directories.{directory_weight}
use Rattle.dexmembers.specs.Numbered.{Members}
use Rattle.dexmembers.specs.Weight.{members_weight}
use Rattle.dexmembers.specs.internal.ClassData.{class_data_in, IsDataOf}
use Rattle.dexmembers.specs.internal.MethodCodes.{AreCodesAt, optional_code_weight}
use Rattle.dexmembers.specs.internal.StaticValues.{HasValuesFor}
use Rattle.dexmembers.specs.Reading.{MembersRow}
use Rattle.dexmembers.specs.declared.class_data.EncodedMethod.{EncodedMethod}
use Rattle.dexmembers.specs.declared.class_data.ClassData.{ClassData as DataRead}
use Rattle.dexmembers.specs.declared.codes.CheckedCodes.{CheckedCodes}
use Rattle.dexmembers.specs.declared.checking.Checks.{Checks}
use Rattle.dexpool.specs.Pools.{ArePools}
use Rattle.dexpool.specs.declared.faults.ItemFault.{ItemFault}

-- ---- code

-- at each offset that was checked there is code of that weight, and so of the debug programs
pub record AreCheckedCodes (b : List ℕ) (checked : CheckedCodes) : Type 0 where
  pub codes : (off weight : ℕ) → get nat_eq checked.weights off ≡ Some weight → HasCodeOf b off weight
  pub programs : AreCheckedDebugs b checked.debugs

-- at the offset is code of that weight, or the offset is 0, and there is none
pub record HasCodeOrNoneOf (b : List ℕ) (off weight : ℕ) : Type 0 where
  pub code : Option Code
  pub at : OrNone (SomeAt CodeAt) None b off code
  pub weighs : optional_code_weight code ≡ weight

-- a method weighs this without its annotations
abbrev pub coded_weight : Option Code → ℕ
coded_weight code = 31 + optional_code_weight code

-- the methods have code or none, and weigh as much with it
abbrev pub HaveCodesOf : List ℕ → List EncodedMethod → ℕ → Type 0
HaveCodesOf b xs = IsWeighed (AreCodesAt b xs) (λ (codes : List (Option Code)). sum_by coded_weight codes)

-- ---- annotations and static values

-- class row r has this directory, or none; it names declared members alone
pub record IsDirectoryOf (b : List ℕ) (r : ℕ) (m : Mentions) (d : DataRead) (a : Directory) : Type 0 where
  pub at : OrNone DirectoryAt no_directory b (annotations_off b r) a
  pub named : NamesDeclared a (class_data_in m d)

-- class row r has a directory of that weight, or none
abbrev pub HasAnnotationsOf : List ℕ → ℕ → Mentions → DataRead → ℕ → Type 0
HasAnnotationsOf b r m d = IsWeighed (IsDirectoryOf b r m d) directory_weight

-- class row r has static values of that weight, or none, and no more than `fields` of them
pub record HasValuesOf (b : List ℕ) (r fields weight : ℕ) : Type 0 where
  pub values : Values
  pub are : HasValuesFor b r fields values
  pub weighs : static_values_weight values ≡ weight

-- ---- all of it

-- what was checked of a file is there
pub record AreChecks (b : List ℕ) (m : Mentions) (checks : Checks) : Type 0 where
  pub sets_checked : AreChecked b m checks.sets
  pub codes_checked : AreCheckedCodes b checks.codes
  pub statics_checked : AreCheckedStatics b m checks.statics

-- the row is readable, and what it declares weighs as much, or more than 2^64 - 1
pub record HasMembersOf (b : List ℕ) (r weight : ℕ) : Type 0 where
  pub readable : IsReadable b r
  pub members : Members
  pub row : MembersRow b r members
  pub weight_is : weight ≡ min (2 ^ 64 - 1) (members_weight members)

-- ---- as they are checked

-- the directory of the row that has the offset weighs that
abbrev pub WeighsAnnotations : List ℕ → Mentions → ℕ → DataRead → Result ℕ ItemFault → Type 0
WeighsAnnotations b m off d result =
    (r : ℕ) → off ≡ annotations_off b r → ArePools b m → IsDataOf b r m d → IfOk result (HasAnnotationsOf b r m d)

-- the static values of the row that has the offset weigh that
abbrev pub WeighsValues : List ℕ → Mentions → ℕ → ℕ → Result ℕ ItemFault → Type 0
WeighsValues b m off fields result =
    (r : ℕ) → off ≡ static_values_off b r → ArePools b m → IfOk result (HasValuesOf b r fields)
