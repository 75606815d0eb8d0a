-- Classes of several parts over the numbering of their union.
use Rattle.std.specs.Prelude.{◌≡◌, ◌≢◌, ℕ, ◌<◌, min, List, map, length, All, Option, Some, None, slice_index_or}
use Rattle.dexspec.specs.Lists.{present}
use Rattle.dexspec.specs.Classes.{Definition}
use Rattle.dexspec.specs.Files.{AreSame}
use Rattle.dexspec.specs.Mentions.{Mentions}
use Rattle.dexspec.specs.WellFormed.{AreWellFormed}
use Rattle.dexpool.specs.Numberings.{AreRising}
use Rattle.dexclass.specs.Numbered.{NumberedClass, definition_of}
use Rattle.dexclass.specs.Uses.{IsKnownClass}
use Rattle.dexclass.specs.Parents.{no_class, name_number}
use Rattle.dexclass.specs.Renumbering.{renumbered_class, IsPartClass}
use Rattle.dexmerge.specs.declared.candidates.Candidate.{Candidate}

-- the class with the numbers of the union
abbrev pub class_of : Candidate → NumberedClass
class_of c = renumbered_class c.remap.now c.class.now

-- the classes of the candidates
abbrev pub classes_of : List Candidate → List NumberedClass
classes_of cs = map class_of cs

-- it is a class of a part that is mapped into the whole, where it denotes the same
pub record IsOfPart (whole : Mentions) (c : Candidate) : Type 0 where
  pub part : Mentions
  pub rising : AreRising part
  pub is : IsPartClass whole part c.remap.now c.class.now
  pub same : definition_of whole (class_of c) ≡ definition_of part c.class.now

-- the classes denote just these definitions, which are well formed
pub record AreMembers (m : Mentions) (D : List Definition) (cs : List NumberedClass) : Type 0 where
  pub known : All (IsKnownClass m) cs
  pub same : AreSame (map (definition_of m) cs) D
  pub formed : AreWellFormed D

-- class i of a list
abbrev pub class_at : List NumberedClass → ℕ → NumberedClass
class_at cs i = slice_index_or cs i no_class

-- class i is the one that is kept of its name
abbrev pub IsEqualCopy : List NumberedClass → List (Option ℕ) → ℕ → Type 0
IsEqualCopy cs places i =
    (k : ℕ) → slice_index_or places (name_number cs i) None ≡ Some k → class_at cs i ≡ class_at cs k

-- some class of this name is not the one that is kept of the name
pub record IsConflicting (cs : List NumberedClass) (places : List (Option ℕ)) (name : ℕ) : Type 0 where
  pub place : ℕ
  pub kept : ℕ
  pub within : place < length cs
  pub name_is : name_number cs place ≡ name
  pub kept_is : slice_index_or places name None ≡ Some kept
  pub unequal : class_at cs place ≢ class_at cs kept

-- the least name that has different classes, if there is one
pub record IsFirstConflict (cs : List NumberedClass) (places : List (Option ℕ)) (name : ℕ) : Type 0 where
  pub is : IsConflicting cs places name
  pub least : (i : ℕ) → i < length cs → name_number cs i < name → IsEqualCopy cs places i

-- the classes that are kept, by name
abbrev pub kept_classes : List NumberedClass → List (Option ℕ) → List NumberedClass
kept_classes cs places = map (class_at cs) (present places)

-- the lesser of the names
abbrev pub lesser_of : Option ℕ → ℕ → Option ℕ
lesser_of None name = Some name
lesser_of (Some least) name = Some (min least name)
