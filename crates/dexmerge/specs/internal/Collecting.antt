-- One class of each name, collected from the parts of a union.
use Rattle.std.specs.Prelude.{◌≡◌, ℕ, Bool, true, false, List, [], ◌∷◌, ◌++◌, map, length, All, slice_index_or}
use Rattle.std.specs.Prelude.{slice_set}
use Rattle.std.specs.Borrow.{Bor}
use Rattle.std.specs.List.{Contains, AllZip}
use Rattle.dexspec.specs.Lists.{AreDistinct}
use Rattle.dexspec.specs.Texts.{Text}
use Rattle.dexspec.specs.Classes.{Definition}
use Rattle.dexspec.specs.Files.{Collection, definitions, AreSame, AreWithin}
use Rattle.dexspec.specs.WellFormed.{IsWellFormed, AreWellFormed}
use Rattle.dexspec.specs.Mentions.{Mentions, mentions}
use Rattle.dexspec.specs.Merging.{IsGood, greatest_caps}
use Rattle.dexpool.specs.Numberings.{AreRising, Maps}
use Rattle.dexpool.specs.NumberedSymbols.{type_at}
use Rattle.dexclass.specs.Numbered.{NumberedClass, definition_of}
use Rattle.dexclass.specs.Uses.{IsKnownClass}
use Rattle.dexclass.specs.Renumbering.{MapsAllInto, ClassHasPlaces}
use Rattle.dexmerge.specs.Parts.{all_parts, all_definitions}
use Rattle.dexmerge.specs.internal.Unions.{IsChecked}
use Rattle.dexmerge.specs.declared.class_union.Collected.{Collected}

-- a union over the numbering of just what it mentions, which can be merged, and one of its parts
pub record IsPartOf (m : Mentions) (K : Collection) (r : Maps) : Type 0 where
  pub whole : List Definition
  pub mentions_are : m ≡ mentions whole
  pub rising : AreRising m
  pub good : IsGood greatest_caps whole
  pub within : AreWithin (definitions K) whole
  pub are_mapped : MapsAllInto (mentions (definitions K)) m r

-- parts of such a union, and a map for each
pub record ArePartsOf (m : Mentions) (parts : List Collection) (remaps : List Maps) : Type 0 where
  pub count : length remaps ≡ length parts
  pub each : AllZip (IsPartOf m) parts remaps

-- a class has this name
abbrev pub HasName : Mentions → List NumberedClass → Text → Type 0
HasName m cs name = (c : NumberedClass) × Contains cs c × (type_at m c.name ≡ name)

-- classes of these definitions, one of each name; the marks say which types are names
pub record AreCollected (m : Mentions) (D : List Definition) (cs : List NumberedClass) (is_name : List Bool) :
    Type 0 where
  pub count : length is_name ≡ length m.types
  pub known : All (IsKnownClass m) cs
  pub formed : AreWellFormed D
  pub within : AreWithin (map (definition_of m) cs) D
  pub names : (d : Definition) → Contains D d → HasName m cs d.0
  pub distinct : AreDistinct (map (λ c. c.name) cs)
  pub marked : (t : ℕ) → slice_index_or is_name t false ≡ true → Contains (map (λ c. c.name) cs) t
  pub all_marked : (t : ℕ) → Contains (map (λ c. c.name) cs) t → slice_index_or is_name t false ≡ true

-- what was collected is classes of these definitions, one of each name
abbrev pub HasCollected : Mentions → List Definition → Collected → Type 0
HasCollected m D collected = AreCollected m D collected.classes.items collected.is_name.items

-- a mark for each type
abbrev pub HasMarks : Mentions → Collected → Type 0
HasMarks m collected = length collected.is_name.items ≡ length m.types

-- the class is put after the others
abbrev pub HasPushed : NumberedClass → Collected → Collected → Type 0
HasPushed c old new = new.classes.items ≡ old.classes.items ++ c ∷ []

-- the type is marked as a name
abbrev pub HasMarked : ℕ → Collected → Collected → Type 0
HasMarked typ old new = new.is_name.items ≡ slice_set old.is_name.items typ true

-- the classes of the part are added whose names are not there yet
abbrev pub CollectsPart : Collection → Maps → Collected → Collected → Type 0
CollectsPart part remap old new = (m : Mentions) (D : List Definition) → IsPartOf m part remap
    → HasCollected m D old → HasCollected m (D ++ definitions part) new

-- what a class of the part declares has places in the union
abbrev pub HasPlaces : Collection → Maps → NumberedClass → Type 0
HasPlaces K r c =
    IsKnownClass (mentions (definitions K)) c → Contains (definitions K) (definition_of (mentions (definitions K)) c)
    → ClassHasPlaces r c

-- the class is added, if none of its name is there yet
abbrev pub IsAdded : NumberedClass → Collected → Collected → Type 0
IsAdded c old new =
    (m : Mentions) (D : List Definition) → HasCollected m D old → IsKnownClass m c → IsWellFormed (definition_of m c)
    → HasCollected m (D ++ definition_of m c ∷ []) new

-- classes of just these definitions, one of each name
pub record AreOneOfEach (m : Mentions) (D : List Definition) (cs : List NumberedClass) : Type 0 where
  pub known : All (IsKnownClass m) cs
  pub formed : AreWellFormed D
  pub same : AreSame (map (definition_of m) cs) D
  pub distinct : AreDistinct (map (λ c. c.name) cs)

-- the parts can be merged, over this numbering
abbrev pub AreMergeable : List Collection → List (Bor Collection) → Mentions → List Maps → Type 0
AreMergeable owned files m remaps = IsChecked greatest_caps (all_parts owned files) m remaps

-- one class of each name of the parts, if these can be merged
abbrev pub HasOneOfEach : ℕ → List Collection → List (Bor Collection) → List Maps → List NumberedClass → Type 0
HasOneOfEach types owned files remaps cs = (m : Mentions) → length m.types ≡ types → AreMergeable owned files m remaps
    → AreOneOfEach m (all_definitions owned files) cs
