-- Items that are each kept once, and whose places are noted by their offsets.
use Rattle.std.specs.Prelude.{◌≡◌, ◌⊎◌, ℕ, ◌<◌, List, [], ◌∷◌, ◌++◌, length, Option, Some, None, nat_eq}
use Rattle.std.specs.HashMap.{get}
use Rattle.dexval.specs.Tables.{IsPlaceIn}
use Rattle.dexmembers.specs.declared.kept.Kept.{Kept}
use Rattle.dexmembers.specs.internal.Stored.{item_at}

-- where there is an item, it is the last of the new list, at the place; otherwise the list is the old one, and there is
-- no place
abbrev pub IsKept : {X : Type 0} → Option X → List X → List X → Option ℕ → Type 0
IsKept None old new place = (new ≡ old) × (place ≡ None)
IsKept (Some x) old new place = (new ≡ old ++ x ∷ []) × (place ≡ Some (length old))

-- the item is at the place in the new list; what the old one has stays at its places, and what there is more is at that
-- place
pub record IsKeptAt {X : Type 0} (x : Option X) (old new : List X) (place : Option ℕ) : Type 0 where
  pub still : (p : Option ℕ) → IsPlaceIn old p → IsPlaceIn new p × (item_at new p ≡ item_at old p)
  pub held : IsPlaceIn new place
  pub is : item_at new place ≡ x
  pub named : (i : ℕ) → i < length new → (i < length old) ⊎ (place ≡ Some i)

-- this place is noted at the offset
abbrev pub IsNoted : {X : Type 0} → Kept X → ℕ → Option ℕ → Type 0
IsNoted kept off place = get nat_eq kept.places off ≡ Some place

-- it holds of each offset and the place that is noted there
abbrev pub AreNoted : {X : Type 0} → (ℕ → Option ℕ → Type 0) → Kept X → Type 0
AreNoted P kept = (off : ℕ) (place : Option ℕ) → IsNoted kept off place → P off place

-- what is noted is a place of what is kept
abbrev pub AreNotedPlaces : {X : Type 0} → Kept X → Type 0
AreNotedPlaces kept = AreNoted (λ off place. IsPlaceIn kept.items.items place) kept

-- what is noted now was noted before, or is this place at this offset
abbrev pub NotesMore : {X : Type 0} → ℕ → Kept X → Kept X → Option ℕ → Type 0
NotesMore off old new place =
    (q : ℕ) (p : Option ℕ) → IsNoted new q p → IsNoted old q p ⊎ ((off ≡ q) × (place ≡ p))
