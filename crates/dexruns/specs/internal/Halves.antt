-- Packages counted by halves: the classes of those before a package, and of the others.
use Rattle.std.specs.Prelude.{◌≡◌, ◌↔◌, ℕ, Bool, true, not, List, ◌++◌, map, All}
use Rattle.std.specs.List.{flat_map, Contains}
use Rattle.std.specs.Ordering.{is_lt}
use Rattle.dexspec.specs.Texts.{Text, text_cmp}
use Rattle.dexspec.specs.Classes.{Definition}
use Rattle.dexspec.specs.Depth.{IsAcyclic, in_class_order}
use Rattle.dexspec.specs.Files.{Collection, definitions}
use Rattle.dexspec.specs.Merging.{IsConsistent}
use Rattle.dexmerge.specs.Counting.{AreCounts}
use Rattle.dexmerge.specs.declared.measuring.Counts.{Counts}
use Rattle.dexruns.specs.Packages.{package_of, in_package, package_line}

-- whether a package comes before another
abbrev pub is_before : Text → Text → Bool
is_before bound name = is_lt (text_cmp name bound)

-- whether the class of a definition is in a package before this one, or not
abbrev pub is_early : Text → Definition → Bool
is_early bound d = is_before bound (package_of d.0)

abbrev pub is_late : Text → Definition → Bool
is_late bound d = not (is_before bound (package_of d.0))

-- the packages of classes
abbrev pub packages_of : List Definition → List Text
packages_of D = map (λ d. package_of d.0) D

-- those of the classes of a collection, in the order of a canonical file
abbrev pub class_packages : Collection → List Text
class_packages K = packages_of (in_class_order (definitions K))

-- some definitions: just those of which this is so
abbrev pub AreThose : (Definition → Bool) → List Definition → List Definition → Type 0
AreThose p D E = (d : Definition) → Contains E d ↔ (Contains D d × (p d ≡ true))

-- the definitions can be counted, and each of them is in one of these packages
pub record AreOfPackages (D : List Definition) (packages : List Text) : Type 0 where
  pub consistent : IsConsistent D
  pub acyclic : IsAcyclic D
  pub covered : (d : Definition) → Contains D d → Contains packages (package_of d.0)

-- the lines of these packages, with the numbers of just the classes of each, were appended
pub record AreRowsAdded (D : List Definition) (packages : List Text) (old new : List ℕ) : Type 0 where
  pub rows : List (Text × Counts)
  pub packages_are : map (λ row. row.0) rows ≡ packages
  pub counted : All (λ row. AreCounts (in_package row.0 D) row.1) rows
  pub lines_are : new ≡ old ++ flat_map (λ row. package_line row.0 row.1) rows
