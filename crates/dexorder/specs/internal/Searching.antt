-- A search for the depths of classes along their parents.
use Rattle.std.specs.Prelude.{◌≡◌, ◌⊎◌, ℕ, zero, suc, ◌+◌, ◌-◌, ◌<◌, ◌≤◌, Bool, true, false, cond, List, [], ◌∷◌, ◌++◌}
use Rattle.std.specs.Prelude.{drop, length, map, take, All, Option, None, Some, MatchOption, slice_index_or, slice_set}
use Rattle.std.specs.List.{AllPairs, Contains, list_all, sum_by}
use Rattle.dexspec.specs.Lists.{present}
use Rattle.dexorder.specs.declared.depths.Visit.{Visit}
use Rattle.dexorder.specs.declared.depths.Search.{Search}
use Rattle.dexorder.specs.declared.depths.Reached.{Reached}
use Rattle.dexorder.specs.declared.depths.Reached.TheVariants.{Depth, Waiting}
use Rattle.dexorder.specs.declared.list_depths.ListDepths.{ListDepths}
use Rattle.dexorder.specs.Depths.{is_under, IsDepth, HasNone}

-- ---- parents

-- each parent of a class, its superclass and then its interfaces, if it is a class
abbrev pub parents_in : List (Option ℕ) → Option ℕ → List ℕ → List (Option ℕ)
parents_in by_type None interfaces = None ∷ map (λ t. slice_index_or by_type t None) interfaces
parents_in by_type (Some t) interfaces =
    slice_index_or by_type t None ∷ map (λ t. slice_index_or by_type t None) interfaces

-- those of each class
abbrev pub parents_of_all : {C : Type 0} → List (Option ℕ) → (C → Option ℕ) → (C → List ℕ) → List C
    → List (List (Option ℕ))
parents_of_all by_type superclass_of interfaces_of cs =
    map (λ c. parents_in by_type (superclass_of c) (interfaces_of c)) cs

-- those of class i
abbrev pub parents_at : List (List (Option ℕ)) → ℕ → List (Option ℕ)
parents_at parents i = slice_index_or parents i []

-- those of class i but its superclass
abbrev pub interface_parents : List (List (Option ℕ)) → ℕ → List (Option ℕ)
interface_parents parents i = drop 1 (parents_at parents i)

-- no parent from this place on is a class
abbrev pub HasNoParentFrom : List (Option ℕ) → ℕ → Type 0
HasNoParentFrom parents from =
    (k : ℕ) → from ≤ k → k < length parents → slice_index_or parents k None ≡ None

-- a parent that is a class, with its place, which is this one or later
pub record IsParentFrom (parents : List (Option ℕ)) (from : ℕ) (found : ℕ × ℕ) : Type 0 where
  pub later : from ≤ found.0
  pub within : found.0 < length parents
  pub is : slice_index_or parents found.0 None ≡ Some found.1

-- the first parent from this place on that is a class
pub record IsFirstParentFrom (parents : List (Option ℕ)) (from : ℕ) (found : ℕ × ℕ) : Type 0 where
  pub parent : IsParentFrom parents from found
  pub before : (k : ℕ) → from ≤ k → k < found.0 → slice_index_or parents k None ≡ None

-- it is that parent, or none if there is none
abbrev pub FindsParentFrom : List (Option ℕ) → ℕ → Option (ℕ × ℕ) → Type 0
FindsParentFrom parents from found =
    MatchOption found (HasNoParentFrom parents from) (IsFirstParentFrom parents from)

-- how many parents there are from the next on that is a class, if there is one
abbrev pub parents_left : List (Option ℕ) → Option (ℕ × ℕ) → ℕ
parents_left parents None = 0
parents_left parents (Some next) = length parents - next.0

-- the class of each type is less than n
abbrev pub AreParentsWithin : List (Option ℕ) → ℕ → Type 0
AreParentsWithin by_type n = (t i : ℕ) → slice_index_or by_type t None ≡ Some i → i < n

-- ---- depths

-- each depth that is known is less than n
abbrev pub AreBelow : ℕ → List (Option ℕ) → Type 0
AreBelow n depths = (i d : ℕ) → slice_index_or depths i None ≡ Some d → d < n

-- the depths that are known are those of the classes
abbrev pub AreKnownDepths : List (List ℕ) → List (Option ℕ) → Type 0
AreKnownDepths classes depths = (i d : ℕ) → slice_index_or depths i None ≡ Some d → IsDepth classes i d

-- a class with these parents has a depth less than n
abbrev pub is_under_all : List (List ℕ) → ℕ → List ℕ → Bool
is_under_all classes zero parents = false
is_under_all classes (suc n) parents = list_all (is_under classes n) parents

-- a class with these parents has the depth
pub record IsDepthBelow (classes : List (List ℕ)) (parents : List ℕ) (d : ℕ) : Type 0 where
  pub under : is_under_all classes (suc d) parents ≡ true
  pub not_under : is_under_all classes d parents ≡ false

-- so it has, if the visit's depth is that below the parents that it passed
abbrev pub HasDepthBelow : List (Option ℕ) → List (Option ℕ) → Visit → ℕ → ℕ → Type 0
HasDepthBelow parents depths v k d = (classes : List (List ℕ)) → AreKnownDepths classes depths
    → IsDepthBelow classes (present (take v.passed parents)) v.depth → IsDepthBelow classes (present (take k parents)) d

-- so it has for the parents before the next that is a class, or for all where none is left
abbrev pub HasDepthBefore : List (Option ℕ) → List (Option ℕ) → Visit → Option (ℕ × ℕ) → ℕ → Type 0
HasDepthBefore parents depths v None d = HasDepthBelow parents depths v (length parents) d
HasDepthBefore parents depths v (Some next) d =
    IsParentFrom parents v.passed next × HasDepthBelow parents depths v next.0 d

-- the visit of this class waits for parent p
pub record IsWaiting (parents depths : List (Option ℕ)) (v w : Visit) (p : ℕ) : Type 0 where
  pub class : w.class ≡ v.class
  pub later : v.passed ≤ w.passed
  pub within : w.passed < length parents
  pub is : slice_index_or parents w.passed None ≡ Some p
  pub unknown : slice_index_or depths p None ≡ None
  pub below : HasDepthBelow parents depths v w.passed w.depth

-- what the visit comes to by the depths that are known
abbrev pub HasReached : List (Option ℕ) → List (Option ℕ) → Visit → Reached → Type 0
HasReached parents depths v (Depth d) = HasDepthBelow parents depths v (length parents) d
HasReached parents depths v (Waiting w p) = IsWaiting parents depths v w p

-- what the visit comes to if the depth below the parents but the superclass is known too
abbrev pub HasReachedWith : List (Option ℕ) → List (Option ℕ) → ℕ → Visit → Reached → Type 0
HasReachedWith parents depths list v (Depth d) = (classes : List (List ℕ)) → AreKnownDepths classes depths
    → IsDepthBelow classes (present (take v.passed parents)) v.depth
    → IsDepthBelow classes (present (drop 1 parents)) list → IsDepthBelow classes (present parents) d
HasReachedWith parents depths list v (Waiting w p) = IsWaiting parents depths v w p

-- what the visit comes to among these classes
abbrev pub HasReachedIn : List (List (Option ℕ)) → List (Option ℕ) → Visit → Reached → Type 0
HasReachedIn parents depths v (Depth d) =
    IsDepthBelow (map present parents) (present (parents_at parents v.class)) d
HasReachedIn parents depths v (Waiting w p) = IsWaiting (parents_at parents v.class) depths v w p

-- ---- interfaces that classes share

-- for each class one that has the same parents but for the superclass, as far as the list goes
abbrev pub HaveEqualParents : List (List (Option ℕ)) → List ℕ → Type 0
HaveEqualParents parents firsts = (i : ℕ) → i < length firsts → i < length parents
    → interface_parents parents (slice_index_or firsts i 0) ≡ interface_parents parents i

-- the depths that are known are those below the interfaces of the classes
pub record AreListDepths (parents : List (List (Option ℕ))) (l : ListDepths) : Type 0 where
  pub count : length l.depths.items ≡ length parents
  pub equal : HaveEqualParents parents l.firsts.now
  pub known : (i d : ℕ) → slice_index_or l.depths.items i None ≡ Some d
      → IsDepthBelow (map present parents) (present (interface_parents parents i)) d

-- ---- the search

-- the depth is that below the parents that the visit passed
pub record IsVisit (parents : List (List (Option ℕ))) (v : Visit) : Type 0 where
  pub within : v.class < length parents
  pub passed : v.passed < length (parents_at parents v.class)
  pub below : IsDepthBelow (map present parents) (present (take v.passed (parents_at parents v.class))) v.depth

-- the depth of class i is at most that of the visit's class, if that has one
abbrev pub IsWaitingFor : List (List ℕ) → ℕ → Visit → Type 0
IsWaitingFor classes i v = (n : ℕ) → is_under classes n v.class ≡ true → is_under classes n i ≡ true

-- a visit of class i
abbrev pub IsOn : List Visit → ℕ → Type 0
IsOn path i = (v : Visit) × Contains path v × (v.class ≡ i)

-- the state of a search that has these visits on its path
pub record IsSearch (parents : List (List (Option ℕ))) (s : Search) (path : List Visit) : Type 0 where
  pub depth_count : length s.depths.items ≡ length parents
  pub seen_count : length s.is_seen.items ≡ length parents
  pub known : AreKnownDepths (map present parents) s.depths.items
  pub unknown : (i : ℕ) → slice_index_or s.is_seen.items i false ≡ true → slice_index_or s.depths.items i None ≡ None
      → IsOn path i ⊎ HasNone (map present parents) i
  pub visits : All (IsVisit parents) path
  pub waiting : AllPairs (λ v w. IsWaitingFor (map present parents) w.class v) path

-- the visit of a class has begun
pub record IsBegun (s : Search) (i : ℕ) (t : Search) : Type 0 where
  pub depths : t.depths.items ≡ s.depths.items
  pub seen : t.is_seen.items ≡ slice_set s.is_seen.items i true
  pub path : t.path.items ≡ s.path.items ++ record { class = i; passed = 0; depth = 0 } ∷ []

-- seen classes stay seen
abbrev pub AreStillSeen : Search → Search → Type 0
AreStillSeen s t =
    (i : ℕ) → slice_index_or s.is_seen.items i false ≡ true → slice_index_or t.is_seen.items i false ≡ true

-- two steps for each class that was not seen, and one step for each of its parents
abbrev pub work_unseen : List (List (Option ℕ)) → List Bool → ℕ
work_unseen [] seen = 0
work_unseen (ps ∷ parents) [] = 0
work_unseen (ps ∷ parents) (s ∷ seen) = cond s 0 (2 + length ps) + work_unseen parents seen

-- one step for a visit, and one step for each parent that it has not passed
abbrev pub work_left : List (List (Option ℕ)) → List Visit → ℕ
work_left parents path = sum_by (λ v. 1 + (length (parents_at parents v.class) - v.passed)) path

-- an upper bound on the steps to the end of a search that has these visits on its path
abbrev pub work : List (List (Option ℕ)) → Search → List Visit → ℕ
work parents s path = work_unseen parents s.is_seen.items + work_left parents path

-- less work is left for the second search than for the first with these visits on its path
abbrev pub IsNearer : List (List (Option ℕ)) → Search → List Visit → Search → Type 0
IsNearer parents s path t = work parents t t.path.items < work parents s path

-- so it is where this visit was the last on the path
abbrev pub IsNearerFrom : List (List (Option ℕ)) → Visit → Search → Search → Type 0
IsNearerFrom parents visit s t = IsNearer parents s (s.path.items ++ visit ∷ []) t
