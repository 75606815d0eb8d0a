-- What the classes of each package of a union hold in numbers. This project's rules.
use Rattle.std.specs.Prelude.{◌≡◌, ◌↔◌, ℕ, ◌==◌, if◌then◌else◌, List, [], ◌∷◌, ◌++◌, map, filter, All, codes, Option}
use Rattle.std.specs.Prelude.{Some, None}
use Rattle.std.specs.List.{flat_map, Contains}
use Rattle.std.specs.List.Sorted.{IsStrictlySortedBy}
use Rattle.std.specs.Option.{option_map, unwrap_or}
use Rattle.dexspec.specs.Texts.{Text, text_cmp, same_text}
use Rattle.dexspec.specs.Classes.{Definition}
use Rattle.dexspec.specs.Depth.{IsAcyclic}
use Rattle.dexspec.specs.Files.{Collection, definitions}
use Rattle.dexspec.specs.Merging.{IsConsistent}
use Rattle.dexmerge.specs.Counting.{AreCounts}
use Rattle.dexmerge.specs.declared.measuring.Counts.{Counts}
use Rattle.dexout.specs.Printed.{shown}
use Rattle.dexruns.specs.declared.faults.RunFault.{RunFault}
use Rattle.dexruns.specs.declared.faults.RunFault.TheVariants as run
use Rattle.dexruns.specs.Counts.{numbers_of, number_cell, IsCountFault}
use Rattle.dexruns.specs.Merges.{AreReadFrom}

-- ---- packages

-- what is before the last slash of a unit and of units after it: these decide if they have one, and else the unit is it
abbrev pub or_before : ℕ → Option Text → Option Text
or_before u (Some units) = Some (u ∷ units)
or_before u None = if u == 0x2f then Some [] else None

-- what is before the last slash, if there is one
abbrev pub before_last_slash : Text → Option Text
before_last_slash [] = None
before_last_slash (u ∷ us) = or_before u (before_last_slash us)

-- the package of the class of a name, as `com/foo` of `Lcom/foo/Bar;`: what is between the first unit and the last
-- slash, and nothing where there is no slash
abbrev pub package_of : Text → Text
package_of [] = []
package_of (letter ∷ units) = unwrap_or (before_last_slash units) []

-- the definitions of the classes of a package
abbrev pub in_package : Text → List Definition → List Definition
in_package name D = filter (λ d. same_text (package_of d.0) name) D

-- ---- the lines

-- a package as it is printed: a dot where it is empty, which no package has
abbrev pub package_text : Text → List ℕ
package_text [] = codes "."
package_text (unit ∷ units) = shown (unit ∷ units)

-- the line of a package: the numbers of its classes, and its name
unfoldable pub package_line : Text → Counts → List ℕ
package_line name counts = flat_map number_cell (numbers_of counts) ++ (package_text name ++ codes "\n")

-- These are the lines of the packages of definitions that can be merged: each package in which there is a class is once
-- among the rows, whose packages rise strictly, and each row has the numbers of just the classes of its package.
pub record ArePackageLines (D : List Definition) (lines : List ℕ) : Type 0 where
  pub consistent : IsConsistent D
  pub acyclic : IsAcyclic D
  pub rows : List (Text × Counts)
  pub rise : IsStrictlySortedBy text_cmp (map (λ row. row.0) rows)
  pub are : (name : Text) → Contains (map (λ row. row.0) rows) name ↔ Contains (map (λ d. package_of d.0) D) name
  pub counted : All (λ row. AreCounts (in_package row.0 D) row.1) rows
  pub lines_are : lines ≡ flat_map (λ row. package_line row.0 row.1) rows

-- ---- the inputs

-- each of the inputs was read, and these are the lines of the packages of their definitions
pub record HavePackageLines {R : Type 0} (reports : R → Type 0) (to_come : R → List ℕ) (inputs : List R)
    (lines : List ℕ) : Type 0 where
  pub collections : List Collection
  pub read : AreReadFrom reports to_come inputs collections
  pub are : ArePackageLines (flat_map definitions collections) lines

-- the inputs have these lines, which were written, or the part of them that `Written` states
pub record ArePackagesCounted {R : Type 0} (reports : R → Type 0) (to_come : R → List ℕ) (inputs : List R)
    (Written : List ℕ → Type 0) : Type 0 where
  pub lines : List ℕ
  pub have : HavePackageLines reports to_come inputs lines
  pub written : Written lines

-- what a fault says of the inputs, as where their union is counted, and of what was written where the writer failed
abbrev pub IsPackageFault : {R : Type 0} → (R → Type 0) → (R → List ℕ) → List R → (List ℕ → Type 0) → RunFault
    → Type 0
IsPackageFault reports to_come inputs Written (run.Input i refusal) =
    IsCountFault reports to_come inputs (λ text. ⊥) (run.Input i refusal)
IsPackageFault reports to_come inputs Written run.Plan = IsCountFault reports to_come inputs (λ text. ⊥) run.Plan
IsPackageFault reports to_come inputs Written (run.Merge reported) =
    IsCountFault reports to_come inputs (λ text. ⊥) (run.Merge reported)
IsPackageFault reports to_come inputs Written (run.Read i) =
    IsCountFault reports to_come inputs (λ text. ⊥) (run.Read i)
IsPackageFault reports to_come inputs Written run.Write = ArePackagesCounted reports to_come inputs Written
IsPackageFault reports to_come inputs Written run.Memory = IsCountFault reports to_come inputs (λ text. ⊥) run.Memory
