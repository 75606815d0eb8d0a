-- The statements of the laws of merging.
use Rattle.std.specs.Prelude.{◌≡◌, ◌↔◌, ℕ, List, ◌++◌, length}
use Rattle.std.specs.List.{Contains}
use Rattle.dexspec.specs.Classes.{Definition}
use Rattle.dexspec.specs.Files.{Collection, definitions, AreSame, AreWithin, IsCollectionOf}
use Rattle.dexspec.specs.Canonical.{canonical}
use Rattle.dexspec.specs.Merging.{Caps, IsGood, Cause, IsCause, IsFirstCause, Plan, IsPlanFor, leaves, union}

-- both lists are mergeable or neither is, they form the same collection, and have the same causes and the same first
-- cause
pub record HaveSameResult (caps : Caps) (D E : List Definition) : Type 0 where
  pub good : IsGood caps D ↔ IsGood caps E
  pub collection : (K : Collection) → IsCollectionOf D K ↔ IsCollectionOf E K
  pub cause : (cause : Cause) → IsCause caps D cause ↔ IsCause caps E cause
  pub first : (cause : Cause) → IsFirstCause caps D cause ↔ IsFirstCause caps E cause

-- each file that the first plan names is named by the second
abbrev pub NamesWithin : Plan → Plan → Type 0
NamesWithin p q = (file : ℕ) → Contains (leaves p) file → Contains (leaves q) file

-- plans for the same files have the same definitions
abbrev pub PlansHaveSameUnion : List (List Definition) → Type 0
PlansHaveSameUnion files = (p q : Plan) → IsPlanFor (length files) p → IsPlanFor (length files) q
    → AreSame (union files p) (union files q)

-- plans for the same files have the same canonical file
abbrev pub PlansHaveSameFile : List (List Definition) → Type 0
PlansHaveSameFile files = (p q : Plan) (K L : Collection) → IsPlanFor (length files) p → IsPlanFor (length files) q
    → IsCollectionOf (union files p) K → IsCollectionOf (union files q) L → canonical K ≡ canonical L

-- the definitions of a part of a plan are among those of the plan
abbrev pub PartsAreWithin : List (List Definition) → Type 0
PartsAreWithin files = (p q : Plan) → NamesWithin p q → AreWithin (union files p) (union files q)

-- a cause against a part of a plan is a cause against the plan
abbrev pub PartsGiveCauses : Caps → List (List Definition) → Type 0
PartsGiveCauses caps files = (p q : Plan) (cause : Cause) → NamesWithin p q → IsCause caps (union files p) cause
    → IsCause caps (union files q) cause

-- if the definitions of a plan are mergeable, so are those of a part
abbrev pub PartsAreGood : Caps → List (List Definition) → Type 0
PartsAreGood caps files = (p q : Plan) → NamesWithin p q → IsGood caps (union files q) → IsGood caps (union files p)

-- merged in two steps or at once, definitions have the same canonical file
abbrev pub StepsHaveSameFile : List Definition → List Definition → Type 0
StepsHaveSameFile first rest = (K L M : Collection) → IsCollectionOf first K → IsCollectionOf (definitions K ++ rest) L
    → IsCollectionOf (first ++ rest) M → canonical L ≡ canonical M

-- merged in two steps or at once, definitions have the same result
abbrev pub StepsHaveSameResult : Caps → List Definition → List Definition → Type 0
StepsHaveSameResult caps first rest = (K : Collection) → IsCollectionOf first K
    → HaveSameResult caps (definitions K ++ rest) (first ++ rest)
