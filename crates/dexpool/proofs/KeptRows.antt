-- Marked members of a list: which they are, where they are, and what more marks keep.
use Rattle.dexpool.proofs.Common.{◌≡◌, ◌≢◌, ◌⊎◌, ℕ, zero, suc, ◌+◌, ◌<◌, Bool, true, false, List, [], ◌∷◌, ◌++◌, length, get_or, map, set, drop, replicate, refl, sym, ap, ◌∙◌, arith, inl, inr, Ordering, Option, Some, None, slice_index, slice_index_or, All, Contains, flat_map, IsTotalOrder, cases_eq, cases_order, length-set, length-map, get_or-map, get_or-set_same, get_or-set_other, get_or_default, drop_more, Contains-nil, Contains-first, Contains-later, Contains-cons_cases, All-among, All-head, All-tail, Rises, AreDistinct-from_Rises, kept, places, MapsTo, image, KeepsOrder, IsMarked, mark_all, number_or_none, new_numbers}
use Rattle.std.proofs.lemmas.List.{set-get_or}
use Rattle.dexpool.proofs.KeptPlaces.{kept_among, length_places, marked_has, is_at, places_rise}
use Rattle.dexpool.proofs.Moved.{Keeps}

-- a marked number is one of the marks
pub mark_within : (marks : List Bool) (n : ℕ) → IsMarked marks n → n < length marks
mark_within [] n e = absurd cc
mark_within (mark ∷ marks) zero e = omega arith
mark_within (mark ∷ marks) (suc n) e = omega (arith, mark_within marks n e)

-- ---- members

-- a marked place that has this member
pub record KeptFrom {X : Type 0} (marks : List Bool) (xs : List X) (x : X) : Type 0 where
  pub at : ℕ
  pub marked : IsMarked marks at
  pub within : at < length xs
  pub is : (d : X) → get_or xs at d ≡ x

later_from : {X : Type 0} (mark : Bool) (marks : List Bool) (y : X) (xs : List X) (x : X) → KeptFrom marks xs x → KeptFrom (mark ∷ marks) (y ∷ xs) x
later_from mark marks y xs x k = record { at = suc k.at; marked = k.marked; within = omega (arith, k.within); is = k.is }

-- each member that is kept is at a marked place
pub kept_from : {X : Type 0} (marks : List Bool) (xs : List X) (x : X) → Contains (kept marks xs) x → KeptFrom marks xs x
kept_from (true ∷ marks) (y ∷ xs) x c = elim (Contains-cons_cases y x (kept marks xs) c) [
  | inl e ↦ record { at = 0; marked = refl; within = omega arith; is = λ d. e }
  | inr l ↦ later_from true marks y xs x (kept_from marks xs x l)
]
kept_from (false ∷ marks) (y ∷ xs) x c = later_from false marks y xs x (kept_from marks xs x c)
kept_from _ _ x c = absurd (Contains-nil x c)

-- and each member at a marked place is kept
pub kept_has : {X : Type 0} (marks : List Bool) (xs : List X) (n : ℕ) (d : X) → IsMarked marks n → n < length xs → Contains (kept marks xs) (get_or xs n d)
kept_has (mark ∷ marks) [] n d e lt = absurd (omega arith)
kept_has (true ∷ marks) (y ∷ xs) zero d e lt = Contains-first y (kept marks xs)
kept_has (true ∷ marks) (y ∷ xs) (suc n) d e lt = Contains-later y (get_or xs n d) (kept marks xs) (kept_has marks xs n d e (omega arith))
kept_has (false ∷ marks) (y ∷ xs) (suc n) d e lt = kept_has marks xs n d e (omega arith)
kept_has _ _ _ d e lt = absurd cc

-- what holds of all holds of those kept
pub kept_all : {X : Type 0} (P : X → Type 0) (marks : List Bool) (xs : List X) → All P xs → All P (kept marks xs)
kept_all P marks xs h = All-among P (kept marks xs) xs (kept_among marks xs) h

-- a cut of mapped members is the mapped cut
pub kept-map : {X Y : Type 0} (f : X → Y) (marks : List Bool) (xs : List X) → kept marks (map f xs) ≡ map f (kept marks xs)
kept-map f (true ∷ marks) (x ∷ xs) = λ i. f x ∷ kept-map f marks xs i
kept-map f (false ∷ marks) (x ∷ xs) = kept-map f marks xs
kept-map f _ _ = refl

-- what is kept of a rising list rises
pub kept_rises : {X : Type 0} (R : X → X → Ordering) (marks : List Bool) (xs : List X) → Rises R xs → Rises R (kept marks xs)
kept_rises R (true ∷ marks) (x ∷ xs) h = (λ y c. h.0 y (kept_among marks xs y c), kept_rises R marks xs h.1)
kept_rises R (false ∷ marks) (x ∷ xs) h = kept_rises R marks xs h.1
kept_rises _ _ _ h = tt

-- ---- the new numbers

pub length-new_numbers : (marks : List Bool) → length (new_numbers marks) ≡ length marks
length-new_numbers marks = length-map (places 0 marks) number_or_none ∙ length_places 0 marks

-- the test of marks
abbrev pub is_marked : List Bool → ℕ → Bool
is_marked marks n = slice_index_or marks n false

-- the new number of a marked one
pub new_number : (marks : List Bool) (n place : ℕ) → IsMarked marks n → get_or (places 0 marks) n None ≡ Some place → slice_index (new_numbers marks) n ≡ place
new_number marks n place marked e = get_or-map number_or_none (places 0 marks) n None 0 (omega (arith, length_places 0 marks, mark_within marks n marked)) ∙ ap number_or_none e

-- the member at a marked number is at its new number afterwards
pub kept_keeps : {X : Type 0} (marks : List Bool) (xs : List X) → length marks ≡ length xs → Keeps (is_marked marks) xs (kept marks xs) (new_numbers marks)
kept_keeps marks xs count = record {
  there = λ n marked. omega (arith, mark_within marks n marked, count);
  same = λ n d marked.
      let lt = mark_within marks n marked in
      let place = marked_has marks n 0 false None lt marked in
      let at = is_at marks xs n 0 place.0 None count lt place.1 in
      let is : slice_index (new_numbers marks) n ≡ at.among = new_number marks n place.0 marked place.1 ∙ omega (arith, at.place_is) in
      record { within = omega (arith, is, at.within); is = λ e. ap (λ k. get_or (kept marks xs) k e) is ∙ at.same e ∙ get_or_default xs n e d (omega (arith, lt, count)) };
}

-- ---- the images of numbers

some_within : {X : Type 0} (os : List (Option X)) (i : ℕ) (x : X) → get_or os i None ≡ Some x → i < length os
some_within [] i x e = absurd cc
some_within (o ∷ os) zero x e = omega arith
some_within (o ∷ os) (suc i) x e = omega (arith, some_within os i x e)

image_within : (marks : List Bool) (i j : ℕ) → image (places 0 marks) i ≡ Some j → i < length marks
image_within marks i j e = omega (arith, some_within (places 0 marks) i j e, length_places 0 marks)

-- the images of numbers of marked members are in the order of the numbers
pub places_keep : (marks : List Bool) → KeepsOrder (places 0 marks)
places_keep marks h i j k before e f = places_rise marks h i 0 j k None before (image_within marks i k f) e f

-- two places of a rising list have two members
two_places : {X : Type 0} (R : X → X → Ordering) → IsTotalOrder R → (xs : List X) → Rises R xs → (i j : ℕ) (d : X) → i < length xs → j < length xs → i ≢ j → get_or xs i d ≡ get_or xs j d → ⊥
two_places R o xs rising i j d lt less apart e = elim (cases_order i j) [
  | inl same ↦ apart same
  | inr (inl before) ↦ AreDistinct-from_Rises R o xs rising i j d before less e
  | inr (inr after) ↦ AreDistinct-from_Rises R o xs rising j i d after lt (sym e)
]

-- of a list without repeats a cut has just the marked members, whose numbers have images in their order
pub kept_maps : {X : Type 0} (R : X → X → Ordering) → IsTotalOrder R → (marks : List Bool) (xs : List X) → length marks ≡ length xs → Rises R xs → MapsTo xs (kept marks xs) (places 0 marks)
kept_maps R o marks xs count rising = record {
  count = length_places 0 marks ∙ count;
  same = λ i j d e.
      let lt = image_within marks i j e in
      let at = is_at marks xs i 0 j None count lt e in
      let is : j ≡ at.among = omega (arith, at.place_is) in
      record { within = omega (arith, is, at.within); is = λ z. ap (λ k. get_or (kept marks xs) k z) is ∙ at.same z ∙ get_or_default xs i z d (omega (arith, lt, count)) };
  none = λ i d lt e c.
      let k = kept_from marks xs (get_or xs i d) c in
      elim (cases_eq k.at i) [
        | inl same ↦ let place = marked_has marks k.at 0 false None (mark_within marks k.at k.marked) k.marked in
            let p : None ≡ Some place.0 = sym e ∙ ap (image (places 0 marks)) (sym same) ∙ place.1 in absurd cc
        | inr other ↦ absurd (two_places R o xs rising k.at i d k.within lt other (k.is d))
      ];
  rising = places_keep marks;
}

-- ---- more marks

pub length-mark_all : (marks : List Bool) (ns : List ℕ) → length (mark_all marks ns) ≡ length marks
length-mark_all marks [] = refl
length-mark_all marks (n ∷ ns) = length-mark_all (set marks n true) ns ∙ length-set marks n true

-- a mark stays
set_keeps : (marks : List Bool) (n k : ℕ) → IsMarked marks n → IsMarked (set marks k true) n
set_keeps marks n k e = elim (cases_eq n k) [
  | inl same ↦ ap (λ i. get_or (set marks k true) i false) same ∙ get_or-set_same marks k true false (omega (arith, same, mark_within marks n e))
  | inr other ↦ get_or-set_other marks k n true false other ∙ e
]

pub mark_stays : (marks : List Bool) (ns : List ℕ) (n : ℕ) → IsMarked marks n → IsMarked (mark_all marks ns) n
mark_stays marks [] n e = e
mark_stays marks (k ∷ ns) n e = mark_stays (set marks k true) ns n (set_keeps marks n k e)

-- each of the numbers is marked
pub mark_comes : (marks : List Bool) (ns : List ℕ) (n : ℕ) → n < length marks → Contains ns n → IsMarked (mark_all marks ns) n
mark_comes marks [] n lt c = absurd (Contains-nil n c)
mark_comes marks (k ∷ ns) n lt c = elim (Contains-cons_cases k n ns c) [
  | inl e ↦ mark_stays (set marks k true) ns n (ap (λ i. get_or (set marks k true) i false) (sym e) ∙ get_or-set_same marks k true false (omega (arith, e, lt)))
  | inr l ↦ mark_comes (set marks k true) ns n (omega (arith, lt, length-set marks k true)) l
]

-- and nothing else
pub mark_from : (marks : List Bool) (ns : List ℕ) (n : ℕ) → IsMarked (mark_all marks ns) n → IsMarked marks n ⊎ Contains ns n
mark_from marks [] n e = inl e
mark_from marks (k ∷ ns) n e = elim (mark_from (set marks k true) ns n e) [
  | inl old ↦ elim (cases_eq n k) [
    | inl same ↦ inr (0, omega arith, sym same)
    | inr other ↦ inl (sym (get_or-set_other marks k n true false other) ∙ old)
  ]
  | inr c ↦ inr (Contains-later k n ns c)
]

-- marks that are there already change nothing
pub marked_before : (marks : List Bool) (ns : List ℕ) → All (IsMarked marks) ns → mark_all marks ns ≡ marks
marked_before marks [] h = refl
marked_before marks (n ∷ ns) h =
    let same : set marks n true ≡ marks = ap (set marks n) (sym (All-head (IsMarked marks) n ns h)) ∙ set-get_or marks n false in
    ap (λ l. mark_all l ns) same ∙ marked_before marks ns (All-tail (IsMarked marks) n ns h)

-- marks on two lists of numbers, one after the other
pub mark_all-append : (marks : List Bool) (ms ns : List ℕ) → mark_all marks (ms ++ ns) ≡ mark_all (mark_all marks ms) ns
mark_all-append marks [] ns = refl
mark_all-append marks (m ∷ ms) ns = mark_all-append (set marks m true) ms ns

-- ---- a pass over rows

module _ {X : Type 0} (marks : List Bool) (xs : List X) (i : ℕ) (e : X) (lt : i < length xs) (count : length marks ≡ length xs) where
  -- a marked row comes first of those that are left
  pub kept_first : get_or marks i false ≡ true → kept (drop i marks) (drop i xs) ≡ get_or xs i e ∷ kept (drop (i + 1) marks) (drop (i + 1) xs)
  kept_first marked = rw (drop_more marks i false (omega (arith, lt, count)), drop_more xs i e lt, marked) refl

  -- another one is left out
  pub kept_next : get_or marks i false ≡ false → kept (drop i marks) (drop i xs) ≡ kept (drop (i + 1) marks) (drop (i + 1) xs)
  kept_next marked = rw (drop_more marks i false (omega (arith, lt, count)), drop_more xs i e lt, marked) refl

  module _ (old new all : List Bool) where
    -- a marked row's number is marked
    pub number_marked : (f : X → ℕ) → get_or marks i false ≡ true → new ≡ set old (f (get_or xs i e)) true → mark_all old (map f (kept (drop i marks) (drop i xs))) ≡ all → mark_all new (map f (kept (drop (i + 1) marks) (drop (i + 1) xs))) ≡ all
    number_marked f marked grown h = ap (λ l. mark_all l (map f (kept (drop (i + 1) marks) (drop (i + 1) xs)))) grown ∙ sym (ap (λ ks. mark_all old (map f ks)) (kept_first marked)) ∙ h

    -- and that of another is not
    pub number_left : (f : X → ℕ) → get_or marks i false ≡ false → new ≡ old → mark_all old (map f (kept (drop i marks) (drop i xs))) ≡ all → mark_all new (map f (kept (drop (i + 1) marks) (drop (i + 1) xs))) ≡ all
    number_left f marked same h = ap (λ l. mark_all l (map f (kept (drop (i + 1) marks) (drop (i + 1) xs)))) same ∙ sym (ap (λ ks. mark_all old (map f ks)) (kept_next marked)) ∙ h

    -- a marked row's numbers are marked
    pub numbers_marked : (f : X → List ℕ) → get_or marks i false ≡ true → new ≡ mark_all old (f (get_or xs i e)) → mark_all old (flat_map f (kept (drop i marks) (drop i xs))) ≡ all → mark_all new (flat_map f (kept (drop (i + 1) marks) (drop (i + 1) xs))) ≡ all
    numbers_marked f marked grown h =
        let rest = flat_map f (kept (drop (i + 1) marks) (drop (i + 1) xs)) in
        ap (λ l. mark_all l rest) grown ∙ sym (mark_all-append old (f (get_or xs i e)) rest) ∙ sym (ap (λ ks. mark_all old (flat_map f ks)) (kept_first marked)) ∙ h

    -- and those of another are not
    pub numbers_left : (f : X → List ℕ) → get_or marks i false ≡ false → new ≡ old → mark_all old (flat_map f (kept (drop i marks) (drop i xs))) ≡ all → mark_all new (flat_map f (kept (drop (i + 1) marks) (drop (i + 1) xs))) ≡ all
    numbers_left f marked same h = ap (λ l. mark_all l (flat_map f (kept (drop (i + 1) marks) (drop (i + 1) xs)))) same ∙ sym (ap (λ ks. mark_all old (flat_map f ks)) (kept_next marked)) ∙ h

-- no mark keeps nothing
pub kept_none : {X : Type 0} (n : ℕ) (marks : List Bool) (xs : List X) → marks ≡ replicate n false → kept marks xs ≡ []
kept_none n marks xs e = ap (λ bs. kept bs xs) e ∙ none n xs
  where
    none : {X : Type 0} (n : ℕ) (xs : List X) → kept (replicate n false) xs ≡ []
    none (suc n) (x ∷ xs) = none n xs
    none _ _ = refl
