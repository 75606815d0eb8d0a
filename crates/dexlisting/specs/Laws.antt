-- Laws of the full listing, as the functions that do nothing state them.
use Rattle.std.specs.Prelude.{◌≡◌, ◌≢◌, ℕ, ◌<◌, List, [], All}
use Rattle.std.specs.List.{flat_map}
use Rattle.dexspec.specs.Texts.{Text}
use Rattle.dexspec.specs.Classes.{Body, Definition}
use Rattle.dexspec.specs.Files.{Collection, IsMember, Denotes}
use Rattle.dexspec.specs.Accepted.{IsAccepted}
use Rattle.dexspec.specs.WellFormed.{IsWellFormed}
use Rattle.dexlisting.specs.FullListing.{full_class_lines, full_listing_of}

-- well-formed classes with the same lines are the same
abbrev pub FullLinesAreReadBack : Type 0
FullLinesAreReadBack =
    (d e : Definition) → IsWellFormed d → IsWellFormed e → full_class_lines d ≡ full_class_lines e → d ≡ e

-- the same of lists of classes, one after another
abbrev pub FullListingsAreReadBack : Type 0
FullListingsAreReadBack =
    (D E : List Definition) → All IsWellFormed D → All IsWellFormed E
    → flat_map full_class_lines D ≡ flat_map full_class_lines E → D ≡ E

-- a list of bytes is an accepted file of this collection
pub record IsFileThatDenotes (b : List ℕ) (K : Collection) : Type 0 where
  pub bytes : All (λ byte. byte < 256) b
  pub accepted : IsAccepted b
  pub denotes : Denotes b K

-- different classes of one name, each in an accepted file, have different lines
abbrev pub DifferentClassesHaveDifferentLines : Type 0
DifferentClassesHaveDifferentLines = (b c : List ℕ) (K L : Collection) → IsFileThatDenotes b K → IsFileThatDenotes c L
    → (name : Text) (x y : Body) → IsMember K name x → IsMember L name y → x ≢ y
    → full_class_lines (name, x) ≢ full_class_lines (name, y)

-- accepted files that denote different collections have different full listings
abbrev pub DifferentFilesHaveDifferentListings : Type 0
DifferentFilesHaveDifferentListings =
    (b c : List ℕ) (K L : Collection) → IsFileThatDenotes b K → IsFileThatDenotes c L → K ≢ L
    → full_listing_of [] K ≢ full_listing_of [] L
