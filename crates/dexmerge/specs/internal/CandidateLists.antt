-- Lists of candidates: of the parts of a union, and one of each name.
use Rattle.std.specs.Prelude.{◌≡◌, ℕ, ◌<◌, List, length, All, Option, slice_index_or}
use Rattle.std.specs.List.{AllZip, flat_map}
use Rattle.dexspec.specs.Files.{Collection, definitions}
use Rattle.dexspec.specs.Mentions.{Mentions, mentions}
use Rattle.dexpool.specs.Numberings.{Maps, IsAt}
use Rattle.dexclass.specs.Numbered.{NumberedClass}
use Rattle.dexclass.specs.Renumbering.{MapsAllInto}
use Rattle.dexmerge.specs.Candidates.{AreMembers, IsOfPart, class_of, classes_of, kept_classes, IsEqualCopy}
use Rattle.dexmerge.specs.Candidates.{IsFirstConflict}
use Rattle.dexmerge.specs.declared.candidates.Candidate.{Candidate}

-- each part is mapped into the whole
abbrev pub AreMapped : Mentions → List Collection → List Maps → Type 0
AreMapped m parts remaps = AllZip (λ part remap. MapsAllInto (mentions (definitions part)) m remap) parts remaps

-- the candidates denote just the definitions of the parts
abbrev pub AreMembersOf : List Collection → List Maps → List Candidate → Type 0
AreMembersOf parts remaps cs =
    (m : Mentions) → AreMapped m parts remaps → AreMembers m (flat_map definitions parts) (classes_of cs)

-- the candidates are classes of the parts
abbrev pub AreOfParts : List Collection → List Maps → List Candidate → Type 0
AreOfParts parts remaps cs = (m : Mentions) → AreMapped m parts remaps → All (IsOfPart m) cs

-- the map of each candidate is that of its part
abbrev pub AreByPart : List Maps → List Candidate → Type 0
AreByPart remaps cs = All (λ c. IsAt remaps c.part c.remap.now) cs

-- two of them have the same interfaces
abbrev pub HaveEqualInterfaces : List Candidate → ℕ → ℕ → Type 0
HaveEqualInterfaces cs i j =
    (d : Candidate)
    → (class_of (slice_index_or cs i d)).interfaces ≡ (class_of (slice_index_or cs j d)).interfaces

-- each candidate is the same class as the one that is kept of its name
abbrev pub AllEqual : List Candidate → List (Option ℕ) → Type 0
AllEqual cs places = (i : ℕ) → i < length cs → IsEqualCopy (classes_of cs) places i

-- the least name that has different classes
abbrev pub IsLeastUnequal : List Candidate → List (Option ℕ) → ℕ → Type 0
IsLeastUnequal cs places = IsFirstConflict (classes_of cs) places

-- the classes at the places
abbrev pub kept_of : List Candidate → List (Option ℕ) → List NumberedClass
kept_of cs places = kept_classes (classes_of cs) places
