-- Methods as they are stored, with their code beside them.
use Rattle.dexmembers.proofs.Common.{◌≡◌, ℕ, zero, suc, ◌<◌, List, [], ◌∷◌, ◌++◌, get_or, length, map, refl, sym, ap, ◌∙◌, subst, arith, inl, inr, Option, Some, None, All, IfSome, option_map, cases_lt, length-map, length-append, get_or-map, map-append, All-push, All-head, All-tail, Contains, Contains-first, Contains-append_left, Contains-append_right, Maps, NumberedItem, HasPlaces, renumbered_item, IsPlaceIn, map_both}
use Rattle.std.proofs.lemmas.Option.{slice_get-get_or}
use Rattle.dexmembers.specs.{remapped_method, IsHeldMethodMapped, stripped_code, stripped_held, StoredMethod, ArePlacesOf, code_places, item_at, held_in, held_with, remapped_stored, IsStoredMethodMapped}
use Rattle.dexmembers.specs.internal.Kept.{IsKept, IsKeptAt}
use Rattle.dexmembers.proofs.RenumberingLists.{all_seen, both_ways}
use Rattle.dexmembers.proofs.HeldMembers.{place_kept}

-- ---- items at places

pub item_mapped : {X Y : Type 0} (f : X → Y) (xs : List X) (place : Option ℕ) → item_at (map f xs) place ≡ option_map f (item_at xs place)
item_mapped f xs None = refl
item_mapped f [] (Some i) = refl
item_mapped f (x ∷ xs) (Some zero) = refl
item_mapped f (x ∷ xs) (Some (suc i)) = item_mapped f xs (Some i)

item_kept : {X : Type 0} (xs more : List X) (place : Option ℕ) → IsPlaceIn xs place → item_at (xs ++ more) place ≡ item_at xs place
item_kept xs more None lt = refl
item_kept [] more (Some i) lt = absurd (omega arith)
item_kept (x ∷ xs) more (Some zero) lt = refl
item_kept (x ∷ xs) more (Some (suc i)) lt = item_kept xs more (Some i) (omega arith)

item_last : {X : Type 0} (xs : List X) (x : X) → item_at (xs ++ x ∷ []) (Some (length xs)) ≡ Some x
item_last [] y = refl
item_last (x ∷ xs) y = item_last xs y

place_more : {X : Type 0} (xs more : List X) (place : Option ℕ) → IsPlaceIn xs place → IsPlaceIn (xs ++ more) place
place_more xs more None lt = tt
place_more xs more (Some i) lt = omega (arith, lt, length-append xs more)

-- ---- one item more

-- what is kept of an item that is put at the end, or of none
pub kept_at : {X : Type 0} (x : Option X) (xs new : List X) (place : Option ℕ) → IsKept x xs new place → IsKeptAt x xs new place
kept_at None xs new place h = rw (h.0, h.1) (record { still = λ p at. (at, refl); held = tt; is = refl; named = λ i lt. inl lt })
kept_at (Some x) xs new place h =
    let size = length-append xs (x ∷ []) in
    rw (h.0, h.1) (record {
      still = λ p at. (place_more xs (x ∷ []) p at, item_kept xs (x ∷ []) p at);
      held = omega arith;
      is = item_last xs x;
      named = λ i lt. elim (cases_lt i (length xs)) [ inl less ↦ inl less | inr ge ↦ inr (ap Some (omega arith)) ];
    })

-- where nothing is added
pub kept_already : {X : Type 0} (xs : List X) (place : Option ℕ) → IsPlaceIn xs place → IsKeptAt (item_at xs place) xs xs place
kept_already xs place held = record { still = λ p at. (at, refl); held = held; is = refl; named = λ i lt. inl lt }

-- the item at its place is what is there
pub kept_itself : {X : Type 0} {x : Option X} {old new : List X} {place : Option ℕ} → IsKeptAt x old new place → IsKeptAt (item_at new place) old new place
kept_itself k = record { still = k.still; held = k.held; is = refl; named = k.named }

-- maps that agree on each member
pub map_agree : {X Y : Type 0} (f g : X → Y) (xs : List X) → All (λ x. f x ≡ g x) xs → map f xs ≡ map g xs
map_agree f g [] h = refl
map_agree f g (x ∷ xs) h = λ i. All-head (λ y. f y ≡ g y) x xs h i ∷ map_agree f g xs (All-tail (λ y. f y ≡ g y) x xs h) i

module _ {X : Type 0} (codes new : List X) (places : List (Option ℕ)) (place : Option ℕ) (code : Option X) (h : ArePlacesOf codes places) (k : IsKeptAt code codes new place) where
  pub places_more : ArePlacesOf new (places ++ place ∷ [])
  places_more =
      record {
        held = All-push (IsPlaceIn new) places place (λ i d lt. (k.still (get_or places i d) (h.held i d lt)).0) k.held;
        named = λ i lt. elim (k.named i lt) [
          | inl old ↦ Contains-append_left places (place ∷ []) (Some i) (h.named i old)
          | inr is ↦ Contains-append_right places (place ∷ []) (Some i) (subst (Contains (place ∷ [])) is (Contains-first place []))
        ];
      }

  pub codes_more : map (item_at new) (places ++ place ∷ []) ≡ map (item_at codes) places ++ code ∷ []
  codes_more =
      let old = map_agree (item_at new) (item_at codes) places (λ i d lt. (k.still (get_or places i d) (h.held i d lt)).1) in
      map-append (item_at new) places (place ∷ []) ∙ (λ i. old i ++ k.is i ∷ [])

-- ---- with other numbers, and without debug programs

module _ (r : Maps) (codes : List NumberedItem) (xs : List StoredMethod) where
  -- each code is some method's, so its numbers have images
  pub codes_mapped : ArePlacesOf codes (code_places xs) → All (IsHeldMethodMapped r) (map (held_in codes) xs) → All (HasPlaces r) codes
  codes_mapped h mapped = λ i d lt.
      let none : StoredMethod = record { number = 0; flags = 0; code = None; set = None; list = None } in
      let named = h.named i lt in
      let few : named.0 < length xs = omega (arith, named.1, length-map xs (λ (x : StoredMethod). x.code)) in
      let is = sym (get_or-map (λ (x : StoredMethod). x.code) xs named.0 none (Some i) few) ∙ named.2 in
      let one = all_seen (held_in codes) (IsHeldMethodMapped r) xs mapped named.0 none few in
      subst (λ o. IfSome o (HasPlaces r)) (ap (item_at codes) is ∙ slice_get-get_or codes i d lt) one.code_mapped

  pub numbers_mapped : All (IsHeldMethodMapped r) (map (held_in codes) xs) → All (IsStoredMethodMapped r) xs
  numbers_mapped mapped = λ k d lt. (all_seen (held_in codes) (IsHeldMethodMapped r) xs mapped k d lt).number_mapped

  pub list_remapped : map (held_in (map (renumbered_item r) codes)) (map (remapped_stored r) xs) ≡ map (remapped_method r) (map (held_in codes) xs)
  list_remapped = both_ways (remapped_stored r) (held_in (map (renumbered_item r) codes)) (held_in codes) (remapped_method r) (λ x. ap (held_with (remapped_stored r x)) (item_mapped (renumbered_item r) codes x.code)) xs

pub list_stripped : (codes : List NumberedItem) (xs : List StoredMethod) → map (held_in (map stripped_code codes)) xs ≡ map stripped_held (map (held_in codes) xs)
list_stripped codes xs = sym (map_both (held_in codes) stripped_held (held_in (map stripped_code codes)) xs (λ k d lt. let x = get_or xs k d in ap (held_with x) (sym (item_mapped stripped_code codes x.code))))

-- where each item is replaced, the places stay
pub codes_replaced : {X Y : Type 0} (f : X → Y) (codes : List X) (places : List (Option ℕ)) → ArePlacesOf codes places → ArePlacesOf (map f codes) places
codes_replaced f codes places h =
    let size = length-map codes f in
    record { held = λ k d lt. place_kept codes (map f codes) size (get_or places k d) (h.held k d lt); named = λ i lt. h.named i (omega arith) }

-- and so they do for methods with other numbers
pub methods_replaced : (r : Maps) (codes : List NumberedItem) (xs : List StoredMethod) → ArePlacesOf codes (code_places xs) → ArePlacesOf codes (code_places (map (remapped_stored r) xs))
methods_replaced r codes xs h = subst (ArePlacesOf codes) (sym (map_both (remapped_stored r) (λ (y : StoredMethod). y.code) (λ (y : StoredMethod). y.code) xs (λ k d lt. refl))) h
