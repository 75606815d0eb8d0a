-- The parents of numbered classes, as numbers of classes.
use Rattle.std.specs.Prelude.{◌≡◌, ℕ, ◌<◌, true, All, List, [], length, map, Option, None, Some, slice_index_or}
use Rattle.std.specs.List.{Contains}
use Rattle.dexspec.specs.Lists.{rises, AreDistinct}
use Rattle.dexspec.specs.Texts.{text_cmp}
use Rattle.dexspec.specs.Classes.{Definition}
use Rattle.dexspec.specs.Mentions.{Mentions}
use Rattle.dexspec.specs.Depth.{depth}
use Rattle.dexmembers.specs.Numbered.{no_members}
use Rattle.dexorder.specs.Parents.{AreByType, IsHierarchyOf, parent_types}
use Rattle.dexpool.specs.NumberedSymbols.{type_at}
use Rattle.dexclass.specs.Numbered.{NumberedClass}

-- the numbers of the superclass and the interfaces
abbrev pub parent_numbers : NumberedClass → List ℕ
parent_numbers c = parent_types c.superclass c.interfaces

-- a class of nothing
abbrev pub no_class : NumberedClass
no_class =
    record { name = 0; flags = 0; superclass = None; interfaces = []; source = None; members = no_members; weight = 0 }

-- the name of class i
abbrev pub name_number : List NumberedClass → ℕ → ℕ
name_number cs i = (slice_index_or cs i no_class).name

-- for each type a class that has it as its name, if one has
abbrev pub ArePlaces : List NumberedClass → List (Option ℕ) → Type 0
ArePlaces cs places = AreByType (map (λ c. c.name) cs) places

-- the classes, each with its parents among them
abbrev pub IsHierarchy : List NumberedClass → List (List ℕ) → Type 0
IsHierarchy cs classes = IsHierarchyOf (map (λ c. c.name) cs) (map parent_numbers cs) classes

-- each class's name and parents are types of the numbering
pub record AreNamed (m : Mentions) (cs : List NumberedClass) : Type 0 where
  pub rising : rises text_cmp m.types ≡ true
  pub names : (i : ℕ) → i < length cs → name_number cs i < length m.types
  pub parents_in : (c : NumberedClass) → Contains cs c → All (λ p. p < length m.types) (parent_numbers c)
  pub distinct : AreDistinct (map (λ c. c.name) cs)

-- a place for each type; the depth of each definition is at the number of its name
pub record AreDepthsByName (m : Mentions) (D : List Definition) (by_name : List (Option ℕ)) : Type 0 where
  pub count : length by_name ≡ length m.types
  pub each : (d : Definition) → Contains D d → (t : ℕ) → t < length m.types → type_at m t ≡ d.0
      → slice_index_or by_name t None ≡ Some (depth D d.0)
