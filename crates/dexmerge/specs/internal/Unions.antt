-- Classes of a union over the numbering of what it mentions: all copies, and one of each name.
use Rattle.std.specs.Prelude.{◌≡◌, ℕ, List, length, All, Option}
use Rattle.std.specs.List.{AllZip, flat_map}
use Rattle.std.specs.Borrow.{Bor}
use Rattle.dexspec.specs.Classes.{Definition}
use Rattle.dexspec.specs.Files.{Collection, definitions}
use Rattle.dexspec.specs.Mentions.{Mentions, mentions}
use Rattle.dexspec.specs.Merging.{Caps, IsGood, IsFirstCause}
use Rattle.dexpool.specs.Numberings.{AreRising, Maps}
use Rattle.dexclass.specs.Renumbering.{MapsAllInto}
use Rattle.dexclass.specs.Parents.{AreDepthsByName}
use Rattle.dexmerge.specs.Parts.{definitions_in}
use Rattle.dexmerge.specs.Candidates.{AreMembers, IsOfPart, classes_of}
use Rattle.dexmerge.specs.Faults.{Reports}
use Rattle.dexmerge.specs.internal.Cycles.{AreKept, AreAcyclic}
use Rattle.dexmerge.specs.declared.candidates.Candidate.{Candidate}
use Rattle.dexmerge.specs.declared.faults.MergeFault.{MergeFault}

-- the candidates are classes of parts, and denote just these definitions, over the numbering of just what they mention
pub record AreCopies (m : Mentions) (D : List Definition) (cs : List Candidate) : Type 0 where
  pub mentions_are : m ≡ mentions D
  pub rising : AreRising m
  pub of_parts : All (IsOfPart m) cs
  pub members : AreMembers m D (classes_of cs)

-- the same, and they are by name, one of each
pub record AreOnce (m : Mentions) (D : List Definition) (cs : List Candidate) : Type 0 where
  pub copies : AreCopies m D cs
  pub kept : AreKept m (classes_of cs)

-- the same, and no class is above itself
pub record AreSound (m : Mentions) (D : List Definition) (cs : List Candidate) : Type 0 where
  pub once : AreOnce m D cs
  pub acyclic : AreAcyclic m (classes_of cs)

-- the same of those of the copies that are kept
abbrev pub AreKeptSoundly : Mentions → List Candidate → List Candidate → Type 0
AreKeptSoundly m copies kept = (D : List Definition) → AreCopies m D copies → AreSound m D kept

-- of each name one of the copies is kept
abbrev pub AreKeptOnce : Mentions → List Candidate → List Candidate → Type 0
AreKeptOnce m copies kept = (D : List Definition) → AreCopies m D copies → AreOnce m D kept

-- the first cause against the definitions of the copies, under any caps
abbrev pub CopiesReport : Mentions → List Candidate → MergeFault → Type 0
CopiesReport m cs fault = (caps : Caps) (D : List Definition) → AreCopies m D cs → Reports (IsFirstCause caps D) fault

-- the first cause against the definitions of classes of different names, under any caps
abbrev pub OnceReports : Mentions → List Candidate → MergeFault → Type 0
OnceReports m cs fault = (caps : Caps) (D : List Definition) → AreOnce m D cs → Reports (IsFirstCause caps D) fault

-- the definitions can be merged, and these are their depths by name
abbrev pub AreGoodAtDepths : Caps → Mentions → List Definition → List (Option ℕ) → Type 0
AreGoodAtDepths caps m D depths = IsGood caps D × AreDepthsByName m D depths

-- the definitions of the parts can be merged, and these are their depths by name
abbrev pub PartsAreGood : Caps → Mentions → List (Bor Collection) → List (Option ℕ) → Type 0
PartsAreGood caps m parts depths = AreGoodAtDepths caps m (definitions_in parts) depths

-- the numbering of all parts, and the maps of the numbers of each
pub record IsJoined (parts : List Collection) (m : Mentions) (remaps : List Maps) : Type 0 where
  pub mentions_are : m ≡ mentions (flat_map definitions parts)
  pub rising : AreRising m
  pub count : length remaps ≡ length parts
  pub are_mapped : AllZip (λ part remap. MapsAllInto (mentions (definitions part)) m remap) parts remaps

-- the same, of parts that can be merged
pub record IsChecked (caps : Caps) (parts : List Collection) (m : Mentions) (remaps : List Maps) : Type 0 where
  pub joined : IsJoined parts m remaps
  pub good : IsGood caps (flat_map definitions parts)
