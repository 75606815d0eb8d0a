-- Sets of annotations, and lists of them, that are each kept once and named by their places.
use Rattle.std.specs.Prelude.{◌≡◌, ◌⊎◌, ℕ, ◌<◌, List, [], ◌∷◌, ◌++◌, length, map, All, Option, Some, None}
use Rattle.std.specs.Prelude.{slice_index_or}
use Rattle.std.specs.List.{Contains}
use Rattle.dexpool.specs.Numberings.{Maps}
use Rattle.dexval.specs.Numbered.{NumberedSet}
use Rattle.dexval.specs.Renumbering.{renumbered_set, SetHasPlaces}

-- Sets, and lists of them by their places. In a list, `None` is the empty set.
pub record NumberedTable : Type 0 where
  pub sets : List NumberedSet
  pub lists : List (List (Option ℕ))

-- the place, if present, is one of the list
abbrev pub IsPlaceIn : {X : Type 0} → List X → Option ℕ → Type 0
IsPlaceIn xs None = Unit {0}
IsPlaceIn xs (Some i) = i < length xs

-- each place in a list is one of the sets
abbrev pub HoldsLists : NumberedTable → Type 0
HoldsLists t = All (All (IsPlaceIn t.sets)) t.lists

-- the set at a place; without a place the empty set
abbrev pub set_at : List NumberedSet → Option ℕ → NumberedSet
set_at sets None = []
set_at sets (Some i) = slice_index_or sets i []

-- the places of a list of sets; without a place the empty list
abbrev pub places_at : List (List (Option ℕ)) → Option ℕ → List (Option ℕ)
places_at lists None = []
places_at lists (Some i) = slice_index_or lists i []

-- the sets of a list
abbrev pub sets_at : NumberedTable → Option ℕ → List NumberedSet
sets_at t place = map (set_at t.sets) (places_at t.lists place)

-- some list of the table has the place
abbrev pub IsListed : NumberedTable → ℕ → Type 0
IsListed t i = (places : List (Option ℕ)) × Contains t.lists places × Contains places (Some i)

-- if each number has a place, the new set is the old one remapped; otherwise it is the old one
abbrev pub IsRemappedSet : Maps → NumberedSet → NumberedSet → Type 0
IsRemappedSet r old new = (SetHasPlaces r old → new ≡ renumbered_set r old) × ((SetHasPlaces r old → ⊥) → new ≡ old)

-- at each place the new set is the old one remapped, if each number has a place
abbrev pub AreRemappedSets : Maps → List NumberedSet → List NumberedSet → Type 0
AreRemappedSets r old new = (place : Option ℕ) → IsRemappedSet r (set_at old place) (set_at new place)

-- ---- a table that grows

-- the table with one more list at its end
abbrev pub with_list : NumberedTable → List (Option ℕ) → NumberedTable
with_list t places = record { sets = t.sets; lists = t.lists ++ places ∷ [] }

-- the items of the first table are in the second, at the same places
pub record Extends (t u : NumberedTable) : Type 0 where
  pub sets_hold : (place : Option ℕ) → IsPlaceIn t.sets place → IsPlaceIn u.sets place
  pub lists_hold : (place : Option ℕ) → IsPlaceIn t.lists place → IsPlaceIn u.lists place
  pub sets_stay : (place : Option ℕ) → IsPlaceIn t.sets place → set_at u.sets place ≡ set_at t.sets place
  pub lists_stay : (place : Option ℕ) → IsPlaceIn t.lists place → sets_at u place ≡ sets_at t place
  pub listed_stay : (i : ℕ) → IsListed t i → IsListed u i

-- each set, and each list, of the second table that is not in the first has a name
pub record AreNewNamed (SetNamed ListNamed : ℕ → Type 0) (t u : NumberedTable) : Type 0 where
  pub set_named : (i : ℕ) → i < length u.sets → (i < length t.sets) ⊎ SetNamed i
  pub list_named : (i : ℕ) → i < length u.lists → (i < length t.lists) ⊎ ListNamed i
