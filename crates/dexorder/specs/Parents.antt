-- Classes that have types as their names and as their parents. Types and classes are numbers.
-- Source: "Dalvik Executable format", "class_def_item": class_idx, superclass_idx and interfaces_off.
use Rattle.std.specs.Prelude.{◌≡◌, ℕ, ◌+◌, ◌-◌, ◌<◌, ◌≤◌, List, ◌++◌, length, map, All, Option, None, Some, IsSome}
use Rattle.std.specs.Prelude.{option_to_list, slice_index, slice_index_or}
use Rattle.dexspec.specs.Lists.{present}
use Rattle.dexorder.specs.Depths.{AreDepths}
use Rattle.dexorder.specs.declared.parents.InterfaceClass.{InterfaceClass}

-- for each type a class that has it as its name, or none
pub record AreByType (names : List ℕ) (by_type : List (Option ℕ)) : Type 0 where
  pub some : (t i : ℕ) → slice_index_or by_type t None ≡ Some i → (i < length names) × (slice_index_or names i 0 ≡ t)
  pub all : (i : ℕ) → i < length names → IsSome (slice_index_or by_type (slice_index_or names i 0) None)

-- no type from this place on is that of a class
abbrev pub HasNoClassFrom : List (Option ℕ) → List ℕ → ℕ → Type 0
HasNoClassFrom by_type types from =
    (k : ℕ) → from ≤ k → k < length types → slice_index_or by_type (slice_index types k) None ≡ None

-- the first type from this place on that is that of a class
pub record IsFirstClassFrom (by_type : List (Option ℕ)) (types : List ℕ) (from : ℕ) (found : InterfaceClass)
    : Type 0 where
  pub later : from < found.passed
  pub within : found.passed ≤ length types
  pub typ_is : slice_index types (found.passed - 1) ≡ found.typ
  pub class_is : slice_index_or by_type found.typ None ≡ Some found.class
  pub before : (k : ℕ) → from ≤ k → k + 1 < found.passed → slice_index_or by_type (slice_index types k) None ≡ None

-- the types of the parents: the superclass, then the interfaces
abbrev pub parent_types : Option ℕ → List ℕ → List ℕ
parent_types superclass interfaces = option_to_list superclass ++ interfaces

-- the classes of the types, without the types that have no class
abbrev pub classes_of_types : List (Option ℕ) → List ℕ → List ℕ
classes_of_types by_type types = present (map (λ t. slice_index_or by_type t None) types)

-- the classes of these names and parents: for each class the parents that are classes
pub record IsHierarchyOf (names : List ℕ) (parents : List (List ℕ)) (classes : List (List ℕ)) : Type 0 where
  pub by_type : List (Option ℕ)
  pub are : AreByType names by_type
  pub is : classes ≡ map (classes_of_types by_type) parents

-- these classes, by their names, superclasses and interfaces
abbrev pub IsHierarchyOfClasses : {C : Type 0} → (C → ℕ) → (C → Option ℕ) → (C → List ℕ) → List C → List (List ℕ)
    → Type 0
IsHierarchyOfClasses name_of superclass_of interfaces_of cs =
    IsHierarchyOf (map name_of cs) (map (λ c. parent_types (superclass_of c) (interfaces_of c)) cs)

-- the depths of these classes
pub record AreDepthsOfClasses {C : Type 0} (name_of : C → ℕ) (superclass_of : C → Option ℕ) (interfaces_of : C → List ℕ)
    (cs : List C) (depths : List (Option ℕ)) : Type 0 where
  pub classes : List (List ℕ)
  pub are : IsHierarchyOfClasses name_of superclass_of interfaces_of cs classes
  pub found : AreDepths classes depths

-- each class has a depth
abbrev pub AllHaveDepths : List (Option ℕ) → Type 0
AllHaveDepths depths = All (λ depth. IsSome depth) depths

-- the class has no depth, and each before it has one
pub record IsFirstWithout (depths : List (Option ℕ)) (i : ℕ) : Type 0 where
  pub within : i < length depths
  pub none : slice_index_or depths i None ≡ None
  pub before : (k : ℕ) → k < i → IsSome (slice_index_or depths k None)
