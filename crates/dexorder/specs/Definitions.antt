-- Numbers of definitions: how depths and order of numbered classes relate to class definitions.
use Rattle.std.specs.Prelude.{◌≡◌, ◌↔◌, ℕ, ◌<◌, List, [], length, map, slice_index, slice_index_or, Option, None, Some}
use Rattle.std.specs.List.{Contains, filter, range_with_len}
use Rattle.std.specs.List.Sorted.{IsPermutation}
use Rattle.std.specs.declared.cmp.Ordering.TheVariants.{Less}
use Rattle.dexspec.specs.Lists.{AreDistinct}
use Rattle.dexspec.specs.Texts.{Text, text_cmp}
use Rattle.dexspec.specs.Classes.{Definition}
use Rattle.dexspec.specs.Depth.{parents, is_defined, above, HasDepth, IsAcyclic, depth, in_class_order}
use Rattle.dexspec.specs.Merging.{IsCycle}
use Rattle.dexorder.specs.Depths.{parents_of, HaveParentsWithin, IsDepth, HasNone, AreDepths}
use Rattle.dexorder.specs.Parents.{AllHaveDepths}
use Rattle.dexorder.specs.Places.{AreInPlaceOrder}

-- the name of definition i
abbrev pub defined_name : List Definition → ℕ → Text
defined_name D i = slice_index_or (map (λ d. d.0) D) i []

-- class i is definition i: its parents are the numbers of the defined parents
pub record AreClassParents (D : List Definition) (classes : List (List ℕ)) : Type 0 where
  pub count : length classes ≡ length D
  pub within : HaveParentsWithin classes
  pub parents : (i : ℕ) → i < length classes → (name : Text)
      → Contains (map (defined_name D) (parents_of classes i)) name ↔ Contains (above D (defined_name D i)) name

-- the depth at place i is that of definition i
pub record AreDepthsOf (D : List Definition) (depths : List (Option ℕ)) : Type 0 where
  pub count : length depths ≡ length D
  pub each : (i : ℕ) → i < length D → slice_index_or depths i None ≡ Some (depth D (defined_name D i))

-- number i is that of the name of definition i, and a lesser name has a lesser number
pub record AreNamesOf (D : List Definition) (names : List ℕ) : Type 0 where
  pub count : length names ≡ length D
  pub order : (i j : ℕ) → i < length D → j < length D
      → (slice_index names i < slice_index names j) ↔ (text_cmp (defined_name D i) (defined_name D j) ≡ Less)

-- a definition of this name is a class without a depth
abbrev pub IsCycleClass : List Definition → List (Option ℕ) → Text → Type 0
IsCycleClass D depths name =
    (i : ℕ) × (i < length depths) × (defined_name D i ≡ name) × (slice_index_or depths i None ≡ None)

-- the definitions have different names
abbrev pub HaveDistinctNames : List Definition → Type 0
HaveDistinctNames D = AreDistinct (map (λ d. d.0) D)

-- the parents of each class are the numbers of the superclass and interfaces that are defined, in their order
abbrev pub AreParentsNumbered : List Definition → List (List ℕ) → Definition → Type 0
AreParentsNumbered D classes e =
    (i : ℕ) → i < length D
    → map (defined_name D) (parents_of classes i) ≡ filter (is_defined D) (parents (slice_index_or D i e).1)

-- classes with these parents number the definitions
abbrev pub AreNumberedByParents : List Definition → Type 0
AreNumberedByParents D =
    (classes : List (List ℕ)) (e : Definition) → HaveDistinctNames D → length classes ≡ length D
    → HaveParentsWithin classes → AreParentsNumbered D classes e → AreClassParents D classes

-- each class that has a depth is a definition of this depth
abbrev pub ClassesHaveDepths : List Definition → Type 0
ClassesHaveDepths D =
    (classes : List (List ℕ)) → AreClassParents D classes → (i d : ℕ) → i < length classes → IsDepth classes i d
    → HasDepth D (defined_name D i) × (depth D (defined_name D i) ≡ d)

-- each class without a depth is a definition whose name is on or below a cycle
abbrev pub ClassesHaveCycles : List Definition → Type 0
ClassesHaveCycles D =
    (classes : List (List ℕ)) → AreClassParents D classes → (i : ℕ) → i < length classes → HasNone classes i
    → IsCycle D (defined_name D i)

-- what holds of the depths of the classes of the definitions
abbrev pub OnDepths : List Definition → (List (Option ℕ) → Type 0) → Type 0
OnDepths D P =
    (classes : List (List ℕ)) (depths : List (Option ℕ)) → AreClassParents D classes → AreDepths classes depths
    → P depths

-- each name on or below a cycle is that of a class without a depth
abbrev pub AreCyclesFound : List Definition → List (Option ℕ) → Type 0
AreCyclesFound D depths = (name : Text) → IsCycle D name → IsCycleClass D depths name

-- if all classes have depths, there is no cycle
abbrev pub KnownAreAcyclic : List Definition → List (Option ℕ) → Type 0
KnownAreAcyclic D depths = AllHaveDepths depths → IsAcyclic D

-- if all classes have depths, these are the depths of the definitions
abbrev pub KnownAreOwn : List Definition → List (Option ℕ) → Type 0
KnownAreOwn D depths = AllHaveDepths depths → AreDepthsOf D depths

-- if there is no cycle, all classes have depths
abbrev pub AcyclicAreKnown : List Definition → List (Option ℕ) → Type 0
AcyclicAreKnown D depths = IsAcyclic D → AllHaveDepths depths

-- if the numbers are those of the names of definitions of different names, they are different
abbrev pub AreNumbersDistinct : List Definition → List ℕ → Type 0
AreNumbersDistinct D names = AreNamesOf D names → HaveDistinctNames D → AreDistinct names

-- the classes in order are the definitions in class order
abbrev pub IsClassOrder : List Definition → List (Option ℕ) → Type 0
IsClassOrder D depths = (names order : List ℕ) → AreDepthsOf D depths → AreNamesOf D names → HaveDistinctNames D
    → IsPermutation (range_with_len 0 (length names)) order → AreInPlaceOrder depths names order
    → (e : Definition) → map (λ i. slice_index_or D i e) order ≡ in_class_order D
