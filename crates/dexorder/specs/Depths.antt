-- The depths of numbered classes. Source: "Dalvik Executable format", "class_defs": a class comes after its superclass
-- and interfaces. Depth is a term of this project.
use Rattle.std.specs.Prelude.{◌≡◌, ℕ, zero, suc, ◌<◌, Bool, true, false, List, [], length, All, Option, None, Some}
use Rattle.std.specs.Prelude.{slice_index_or}
use Rattle.std.specs.List.{Contains, list_all}

-- the parents of class i
abbrev pub parents_of : List (List ℕ) → ℕ → List ℕ
parents_of classes i = slice_index_or classes i []

-- each parent is the number of a class
abbrev pub HaveParentsWithin : List (List ℕ) → Type 0
HaveParentsWithin classes = All (λ parents. All (λ p. p < length classes) parents) classes

-- The depth is less than n. A class without parents has depth 0. The depth of another class is one more than the
-- greatest depth of its parents, if each of them has one.
abbrev pub is_under : List (List ℕ) → ℕ → ℕ → Bool
is_under classes zero i = false
is_under classes (suc n) i = list_all (is_under classes n) (parents_of classes i)

-- d is the depth of class i
pub record IsDepth (classes : List (List ℕ)) (i d : ℕ) : Type 0 where
  pub under : is_under classes (suc d) i ≡ true
  pub not_under : is_under classes d i ≡ false

-- class i has no depth: it is above itself, or below a class that is
abbrev pub HasNone : List (List ℕ) → ℕ → Type 0
HasNone classes i = (n : ℕ) → is_under classes n i ≡ false

-- the depth of class i, or none if it has none
abbrev pub IsDepthOrNone : List (List ℕ) → ℕ → Option ℕ → Type 0
IsDepthOrNone classes i None = HasNone classes i
IsDepthOrNone classes i (Some d) = IsDepth classes i d

-- one result for each class
pub record AreDepths (classes : List (List ℕ)) (answers : List (Option ℕ)) : Type 0 where
  pub count : length answers ≡ length classes
  pub is_depth : (i : ℕ) → i < length classes → IsDepthOrNone classes i (slice_index_or answers i None)

-- if p is a parent of class i, it has a lesser depth
abbrev pub IsDeeperThan : List (List ℕ) → ℕ → ℕ → ℕ → Type 0
IsDeeperThan classes i p d = Contains (parents_of classes i) p → (e : ℕ) × IsDepth classes p e × (e < d)

-- some parent of class i has this depth
abbrev pub HasParentAt : List (List ℕ) → ℕ → ℕ → Type 0
HasParentAt classes i d = (p : ℕ) × Contains (parents_of classes i) p × IsDepth classes p d

-- a class below one without a depth has none
abbrev pub PassesOnNone : List (List ℕ) → ℕ → ℕ → Type 0
PassesOnNone classes i p = Contains (parents_of classes i) p → HasNone classes p → HasNone classes i

-- a depth is less than the number of classes
abbrev pub AreDepthsBounded : List (List ℕ) → Type 0
AreDepthsBounded classes =
    (i d : ℕ) → HaveParentsWithin classes → i < length classes → IsDepth classes i d → d < length classes
