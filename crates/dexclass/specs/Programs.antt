-- Programs: collections of class definitions over the numbering of just what they mention.
use Rattle.std.specs.Prelude.{◌≡◌, ℕ, List, map, All}
use Rattle.std.specs.FinMap as finite
use Rattle.dexspec.specs.Lists.{AreDistinct}
use Rattle.dexspec.specs.Files.{Collection, definitions, Denotes}
use Rattle.dexspec.specs.WellFormed.{AreWellFormed}
use Rattle.dexspec.specs.Mentions.{Mentions, mentions}
use Rattle.dexspec.specs.Depth.{in_class_order}
use Rattle.dexspec.specs.Merging.{IsGood, greatest_caps}
use Rattle.dexspec.specs.Accepted.{IsAccepted, IsRefused}
use Rattle.dexpool.specs.Numberings.{IsAt}
use Rattle.dexids.specs.declared.faults.ReadFault.{ReadFault}
use Rattle.dexids.specs.declared.faults.ReadFault.TheVariants.{Refused, Memory}
use Rattle.dexspec.specs.Weight.{weight}
use Rattle.dexclass.specs.Numbered.{NumberedClass, definition_of}
use Rattle.dexclass.specs.Uses.{IsKnownClass}

-- the collection of the classes' definitions
abbrev pub collection_of : Mentions → List NumberedClass → Collection
collection_of m cs = finite.from_entries (map (definition_of m) cs)

-- class definitions that can be merged and written, over the numbering of just what they mention
pub record AreMergeable (m : Mentions) (cs : List NumberedClass) : Type 0 where
  pub known : All (IsKnownClass m) cs
  pub mentions_are : m ≡ mentions (map (definition_of m) cs)
  pub names_differ : AreDistinct (map (λ c. c.name) cs)
  pub good : IsGood greatest_caps (map (definition_of m) cs)
  pub formed : AreWellFormed (map (definition_of m) cs)

-- the classes are those of the collection, in the order of a canonical file
pub record AreClassesOf (K : Collection) (cs : List NumberedClass) : Type 0 where
  pub known : All (IsKnownClass (mentions (definitions K))) cs
  pub are : map (definition_of (mentions (definitions K))) cs ≡ in_class_order (definitions K)

-- class i of the collection's in the order of a canonical file
pub record IsClassAt (K : Collection) (i : ℕ) (c : NumberedClass) : Type 0 where
  pub known : IsKnownClass (mentions (definitions K)) c
  pub is : IsAt (in_class_order (definitions K)) i (definition_of (mentions (definitions K)) c)

-- the bytes are accepted, and denote the collection
pub record IsReadAs (b : List ℕ) (K : Collection) : Type 0 where
  pub accepted : IsAccepted b
  pub denotes : Denotes b K

-- what a fault says of the bytes; out of memory says nothing of them
abbrev pub IsFaultOf : List ℕ → ReadFault → Type 0
IsFaultOf b Memory = Unit {0}
IsFaultOf b (Refused r) = IsRefused b r.number r.place

-- what a program keeps: classes of their collection, which is good and well formed, and its weight
pub record IsProgram (m : Mentions) (cs : List NumberedClass) (heavy : ℕ) : Type 0 where
  pub mentions_are : m ≡ mentions (definitions (collection_of m cs))
  pub classes_are : AreClassesOf (collection_of m cs) cs
  pub good : IsGood greatest_caps (definitions (collection_of m cs))
  pub formed : AreWellFormed (definitions (collection_of m cs))
  pub weight_is : heavy ≡ weight (definitions (collection_of m cs))
