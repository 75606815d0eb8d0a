-- Lists whose members are renumbered one at a time.
use Rattle.dexval.proofs.Common.{◌≡◌, ℕ, ◌+◌, ◌<◌, ◌≤◌, List, [], ◌∷◌, ◌++◌, length, drop, take, map, get_or, set, refl, ap, sym, ◌∙◌, arith, All, take_more_set, map-append, map_more, take_all, length-set, All-nil, All-cons, Maps, NumberedValue, NumberedAnnotation, values_of_list, elements_of_list, ThenNext, ThenNamed, renumbered, renumbered_values, renumbered_elements, renumbered_element, HasPlaces, HavePlaces, ElementsHavePlaces, ElementHasPlaces, AnnotationHasPlaces, SetHasPlaces, MapsUse, value_uses, values_uses, element_uses, elements_uses, annotation_uses, set_uses, all_prefix, all_back}
use Rattle.dexpool.proofs.InPlace.{same_at, rest_set}
use Rattle.dexval.proofs.TableGrowth.{mapped_at}

-- ---- a list that is changed member by member

-- the models of the first i members are changed, the other members are unchanged
pub record AreRemapped {X Y : Type 0} (of : X → Y) (f : Y → Y) (i : ℕ) (old new : List X) : Type 0 where
  pub prefix : map of (take i new) ≡ map f (map of (take i old))
  pub rest : drop i new ≡ drop i old
  pub size : length new ≡ length old

-- the next member is the old one
pub next_is : {X Y : Type 0} (of : X → Y) (f : Y → Y) (old new : List X) (i : ℕ) (x : X) → AreRemapped of f i old new → x ≡ get_or new i x → x ≡ get_or old i x
next_is of f old new i x h e = e ∙ same_at old new i h.rest x

-- a property of all old models holds for the next one
pub next_member : {X Y : Type 0} (of : X → Y) (f : Y → Y) (P : Y → Type 0) (old new : List X) (i : ℕ) (x : X) → AreRemapped of f i old new → i < length old → All P (map of old) → x ≡ get_or new i x → P (of x)
next_member of f P old new i x h lt all e = mapped_at of P old i x lt (next_is of f old new i x h e) all

-- one more member
pub remapped_more : {X Y : Type 0} (of : X → Y) (f : Y → Y) (old new : List X) (i : ℕ) (x y : X) → AreRemapped of f i old new → i < length old → x ≡ get_or new i x → of y ≡ f (of x) → AreRemapped of f (i + 1) old (set new i y)
remapped_more of f old new i x y h lt e is =
    let here : of y ≡ f (of (get_or old i x)) = is ∙ ap (λ z. f (of z)) (next_is of f old new i x h e) in
    record {
      prefix = ap (map of) (take_more_set new i y (omega (arith, h.size))) ∙ map-append of (take i new) (y ∷ []) ∙ ap (λ zs. zs ++ of y ∷ []) h.prefix ∙ ap (λ z. map f (map of (take i old)) ++ z ∷ []) here
          ∙ sym (map-append f (map of (take i old)) (of (get_or old i x) ∷ [])) ∙ ap (map f) (sym (map_more of old i x lt));
      rest = rest_set old new i h.rest y;
      size = length-set new i y ∙ h.size;
    }

-- all of them
pub all_remapped : {X Y : Type 0} (of : X → Y) (f : Y → Y) (old new : List X) (i : ℕ) → AreRemapped of f i old new → length old ≤ i → map of new ≡ map f (map of old)
all_remapped of f old new i h end = ap (map of) (sym (take_all i new (omega (arith, h.size)))) ∙ h.prefix ∙ ap (λ zs. map f (map of zs)) (take_all i old end)

-- ---- values and elements, as lists

pub values_renumbered : (r : Maps) (ys : List NumberedValue) → values_of_list (map (renumbered r) ys) ≡ renumbered_values r (values_of_list ys)
values_renumbered r [] = refl
values_renumbered r (y ∷ ys) = ap (ThenNext (renumbered r y)) (values_renumbered r ys)

pub elements_renumbered : (r : Maps) (ys : List (ℕ × NumberedValue)) → elements_of_list (map (renumbered_element r) ys) ≡ renumbered_elements r (elements_of_list ys)
elements_renumbered r [] = refl
elements_renumbered r ((name, y) ∷ ys) = let e = renumbered_element r (name, y) in ap (ThenNamed e.0 e.1) (elements_renumbered r ys)

pub values_placed : (r : Maps) (ys : List NumberedValue) → HavePlaces r (values_of_list ys) → All (HasPlaces r) ys
values_placed r [] h = All-nil (HasPlaces r)
values_placed r (y ∷ ys) h = let us = value_uses y in let vs = values_uses (values_of_list ys) in All-cons (HasPlaces r) y ys (all_prefix (MapsUse r) us vs h) (values_placed r ys (all_back (MapsUse r) us vs h))

pub elements_placed : (r : Maps) (ys : List (ℕ × NumberedValue)) → ElementsHavePlaces r (elements_of_list ys) → All (ElementHasPlaces r) ys
elements_placed r [] h = All-nil (ElementHasPlaces r)
elements_placed r ((name, y) ∷ ys) h =
    let us = element_uses (name, y) in let vs = elements_uses (elements_of_list ys) in All-cons (ElementHasPlaces r) (name, y) ys (all_prefix (MapsUse r) us vs h) (elements_placed r ys (all_back (MapsUse r) us vs h))

pub annotations_placed : (r : Maps) (xs : List NumberedAnnotation) → SetHasPlaces r xs → All (AnnotationHasPlaces r) xs
annotations_placed r [] h = All-nil (AnnotationHasPlaces r)
annotations_placed r (x ∷ xs) h = All-cons (AnnotationHasPlaces r) x xs (all_prefix (MapsUse r) (annotation_uses x) (set_uses xs) h) (annotations_placed r xs (all_back (MapsUse r) (annotation_uses x) (set_uses xs) h))
