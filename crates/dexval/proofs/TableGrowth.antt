-- Sets and lists added to tables of sets.
use Rattle.dexval.proofs.Common.{◌≡◌, ℕ, ◌+◌, List, [], ◌∷◌, ◌++◌, length, map, refl, ap, ◌∙◌, inl, inr, arith, Option, Some, None, slice_index_or, All, get_or_append_left, get_or-append-add, Contains-append_left, NumberedSet, NumberedTable, IsPlaceIn, HoldsLists, Extends, AreNewNamed, set_at, places_at, sets_at, ◌<◌, ◌≤◌, get_or, sym, subst, get_or-map, length-map, All-get_or, All-head, All-tail}
use Rattle.std.proofs.Common.{length-append}

-- ---- Lookups in tables of sets

-- a property of all models holds for the model of one member
pub mapped_at : {X Y : Type 0} (of : X → Y) (P : Y → Type 0) (xs : List X) (i : ℕ) (x : X) → i < length xs → x ≡ get_or xs i x → All P (map of xs) → P (of x)
mapped_at of P xs i x lt e all = subst P (get_or-map of xs i x (of x) lt ∙ ap of (sym e)) (All-get_or P (map of xs) i (of x) (omega (arith, lt, length-map xs of)) all)

-- a place of a list is a place of a longer list
pub place_later : {X Y : Type 0} (xs : List X) (ys : List Y) → length xs ≤ length ys → (place : Option ℕ) → IsPlaceIn xs place → IsPlaceIn ys place
place_later xs ys le None h = tt
place_later xs ys le (Some i) h = omega (arith, le, h)

-- two functions that are equal at each member map a list to equal lists
pub map_stays : {A X : Type 0} (f g : A → X) (P : A → Type 0) → ((a : A) → P a → g a ≡ f a) → (xs : List A) → All P xs → map g xs ≡ map f xs
map_stays f g P same [] h = refl
map_stays f g P same (x ∷ xs) h = ap (λ y. y ∷ map g xs) (same x (All-head P x xs h)) ∙ ap (λ ys. f x ∷ ys) (map_stays f g P same xs (All-tail P x xs h))

-- a property of all members implies another
pub all_as : {A : Type 0} (P Q : A → Type 0) → ((a : A) → P a → Q a) → (xs : List A) → All P xs → All Q xs
all_as P Q goes xs h = λ k d lt. goes _ (h k d lt)

-- ---- growth

pub extends_same : (t : NumberedTable) → Extends t t
extends_same t = record { sets_hold = λ place h. h; lists_hold = λ place h. h; sets_stay = λ place h. refl; lists_stay = λ place h. refl; listed_stay = λ i h. h }

pub extends_then : (t u v : NumberedTable) → Extends t u → Extends u v → Extends t v
extends_then t u v f g = record {
  sets_hold = λ place h. g.sets_hold place (f.sets_hold place h);
  lists_hold = λ place h. g.lists_hold place (f.lists_hold place h);
  sets_stay = λ place h. g.sets_stay place (f.sets_hold place h) ∙ f.sets_stay place h;
  lists_stay = λ place h. g.lists_stay place (f.lists_hold place h) ∙ f.lists_stay place h;
  listed_stay = λ i h. g.listed_stay i (f.listed_stay i h);
}

-- adding a set at the end keeps the places of the others
set_stays : (sets : List NumberedSet) (s : NumberedSet) (place : Option ℕ) → IsPlaceIn sets place → set_at (sets ++ s ∷ []) place ≡ set_at sets place
set_stays sets s None h = refl
set_stays sets s (Some i) h = get_or_append_left sets (s ∷ []) [] i h

-- the places of a list are those of sets
pub places_held : (t : NumberedTable) (place : Option ℕ) → HoldsLists t → IsPlaceIn t.lists place → All (IsPlaceIn t.sets) (places_at t.lists place)
places_held t None h lt = λ k d inside. absurd (omega (arith, inside))
places_held t (Some i) h lt = h i [] lt

pub set_added : (t : NumberedTable) (s : NumberedSet) → HoldsLists t → Extends t (record { sets = t.sets ++ s ∷ []; lists = t.lists })
set_added t s h = record {
  sets_hold = place_later t.sets (t.sets ++ s ∷ []) (omega (arith, length-append t.sets (s ∷ [])));
  lists_hold = λ place h. h;
  sets_stay = set_stays t.sets s;
  lists_stay = λ place lt. map_stays (set_at t.sets) (set_at (t.sets ++ s ∷ [])) (IsPlaceIn t.sets) (set_stays t.sets s) (places_at t.lists place) (places_held t place h lt);
  listed_stay = λ i listed. listed;
}

list_stays : (t : NumberedTable) (l : List (Option ℕ)) (place : Option ℕ) → IsPlaceIn t.lists place → sets_at (record { sets = t.sets; lists = t.lists ++ l ∷ [] }) place ≡ sets_at t place
list_stays t l None h = refl
list_stays t l (Some i) h = ap (map (set_at t.sets)) (get_or_append_left t.lists (l ∷ []) [] i h)

pub list_added : (t : NumberedTable) (l : List (Option ℕ)) → Extends t (record { sets = t.sets; lists = t.lists ++ l ∷ [] })
list_added t l = record {
  sets_hold = λ place h. h;
  lists_hold = place_later t.lists (t.lists ++ l ∷ []) (omega (arith, length-append t.lists (l ∷ [])));
  sets_stay = λ place h. refl;
  lists_stay = list_stays t l;
  listed_stay = λ i listed. (listed.0, Contains-append_left t.lists (l ∷ []) listed.0 listed.1, listed.2);
}

-- ---- names of new items

pub none_new : (S L : ℕ → Type 0) (t : NumberedTable) → AreNewNamed S L t t
none_new S L t = record { set_named = λ i lt. inl lt; list_named = λ i lt. inl lt }

-- the items that are new in two steps have the names of both steps
pub new_then : {S1 L1 S2 L2 S L : ℕ → Type 0} (t u v : NumberedTable) → ((i : ℕ) → S1 i → S i) → ((i : ℕ) → L1 i → L i) → ((i : ℕ) → S2 i → S i) → ((i : ℕ) → L2 i → L i)
    → AreNewNamed S1 L1 t u → AreNewNamed S2 L2 u v → AreNewNamed S L t v
new_then t u v s1 l1 s2 l2 h g = record {
  set_named = λ i lt. elim (g.set_named i lt) [
    | inl before ↦ elim (h.set_named i before) [ inl old ↦ inl old | inr name ↦ inr (s1 i name) ]
    | inr name ↦ inr (s2 i name)
  ];
  list_named = λ i lt. elim (g.list_named i lt) [
    | inl before ↦ elim (h.list_named i before) [ inl old ↦ inl old | inr name ↦ inr (l1 i name) ]
    | inr name ↦ inr (l2 i name)
  ];
}

-- the last element of a list
last_is : {X : Type 0} (xs : List X) (x : X) (i : ℕ) (d : X) → i ≡ length xs → slice_index_or (xs ++ x ∷ []) i d ≡ x
last_is xs x i d e = let place : i ≡ length xs + 0 = omega (arith, e) in ap (λ (k : ℕ). slice_index_or (xs ++ x ∷ []) k d) place ∙ get_or-append-add xs (x ∷ []) 0 d

-- the added item is at the new place
pub set_is_added : (t u : NumberedTable) (s : NumberedSet) (i : ℕ) → i ≡ length t.sets → u ≡ record { sets = t.sets ++ s ∷ []; lists = t.lists } → set_at u.sets (Some i) ≡ s
set_is_added t u s i e is = ap (λ (v : NumberedTable). set_at v.sets (Some i)) is ∙ last_is t.sets s i [] e

pub list_is_added : (t u : NumberedTable) (l : List (Option ℕ)) (i : ℕ) → i ≡ length t.lists → u ≡ record { sets = t.sets; lists = t.lists ++ l ∷ [] } → sets_at u (Some i) ≡ map (set_at t.sets) l
list_is_added t u l i e is = ap (λ (v : NumberedTable). sets_at v (Some i)) is ∙ ap (map (set_at t.sets)) (last_is t.lists l i [] e)
