-- Methods of class data, with their code and the places of their sets, as they are read one after the other.
use Rattle.dexmembers.proofs.Common.{◌≡◌, ℕ, ◌<◌, List, [], ◌∷◌, ◌++◌, length, map, refl, sym, ap, ◌∙◌, subst, arith, Option, All, IfSome, length-append, length-map, map-append, All-push, All-map, zip_with, NumberedItem}
use Rattle.dexmembers.specs.{HeldMethod, StoredMethod, ArePlacesOf, item_at, code_places, held_in}
use Rattle.dexmembers.specs.internal.Attaching.{EntriesRise, PlacesBelow, HaveSetsBelow, HaveListsBelow, held_codes, held_method, place_for}
use Rattle.dexmembers.specs.internal.Kept.{IsKeptAt}
use Rattle.dexmembers.specs.declared.class_data.EncodedMethod.{EncodedMethod as MethodRead}
use Rattle.dexmembers.proofs.MethodLists.{places_more, codes_more}

-- the method as it is stored, with the places of its code, its set and its list
abbrev stored_method : List (ℕ × ℕ) → List (ℕ × ℕ) → MethodRead → Option ℕ → StoredMethod
stored_method sets lists x place = record { number = x.index; flags = x.flags; code = place; set = place_for sets x.index; list = place_for lists x.index }

-- the code of methods as they are stored
abbrev pub stored_codes : List NumberedItem → List StoredMethod → List (Option NumberedItem)
stored_codes codes methods = map (item_at codes) (code_places methods)

-- the methods of a list were read
pub record HaveReadMethods (sets lists : List (ℕ × ℕ)) (xs : List MethodRead) (codes : List NumberedItem) (methods : List StoredMethod) : Type 0 where
  pub places : ArePlacesOf codes (code_places methods)
  pub many : length methods ≡ length xs
  pub stored : EntriesRise sets → EntriesRise lists → methods ≡ zip_with (stored_method sets lists) xs (code_places methods)
  pub sets_held : (limit : ℕ) → PlacesBelow limit sets → All (λ x. IfSome x.set (λ place. place < limit)) methods
  pub lists_held : (limit : ℕ) → PlacesBelow limit lists → All (λ x. IfSome x.list (λ place. place < limit)) methods

zip_last : {X Y Z : Type 0} (f : X → Y → Z) (xs : List X) (ys : List Y) (x : X) (y : Y) → length ys ≡ length xs → zip_with f (xs ++ x ∷ []) (ys ++ y ∷ []) ≡ zip_with f xs ys ++ f x y ∷ []
zip_last f [] [] x y e = refl
zip_last f (z ∷ xs) (w ∷ ys) x y e = ap (λ l. f z w ∷ l) (zip_last f xs ys x y (omega (arith, e)))
zip_last f [] (w ∷ ys) x y e = absurd (omega (arith, e))
zip_last f (z ∷ xs) [] x y e = absurd (omega (arith, e))

-- of none
pub no_codes_stored : (codes : List NumberedItem) (methods : List StoredMethod) → methods ≡ [] → stored_codes codes methods ≡ []
no_codes_stored codes methods none = ap (stored_codes codes) none

pub no_methods_read : (sets lists : List (ℕ × ℕ)) (codes : List NumberedItem) (methods : List StoredMethod) → codes ≡ [] → methods ≡ [] → HaveReadMethods sets lists [] codes methods
no_methods_read sets lists codes methods none none' = rw (none, none') (record {
  places = record { held = λ k d lt. absurd (omega (arith, lt)); named = λ i lt. absurd (omega (arith, lt)) };
  many = refl;
  stored = λ rise rise'. refl;
  sets_held = λ limit held k d lt. absurd (omega (arith, lt));
  lists_held = λ limit held k d lt. absurd (omega (arith, lt));
})

module _ (sets lists : List (ℕ × ℕ)) (xs : List MethodRead) (codes new : List NumberedItem) (methods more : List StoredMethod) (x : MethodRead) (flags : ℕ) (code : Option NumberedItem) (place set list : Option ℕ) (grown : more ≡ methods ++ record { number = x.index; flags = flags; code = place; set = set; list = list } ∷ [])
    (have : HaveReadMethods sets lists xs codes methods) (kept : IsKeptAt code codes new place) where
  abbrev method : StoredMethod
  method = record { number = x.index; flags = flags; code = place; set = set; list = list }

  places_are : code_places more ≡ code_places methods ++ place ∷ []
  places_are = ap code_places grown ∙ map-append (λ (y : StoredMethod). y.code) methods (method ∷ [])

  -- of one more
  pub one_more_method : flags ≡ x.flags → (EntriesRise sets → set ≡ place_for sets x.index) → (EntriesRise lists → list ≡ place_for lists x.index) → ((limit : ℕ) → PlacesBelow limit sets → IfSome set (λ p. p < limit)) → ((limit : ℕ) → PlacesBelow limit lists → IfSome list (λ p. p < limit))
      → HaveReadMethods sets lists (xs ++ x ∷ []) new more
  one_more_method flags_are set_is list_is set_held list_held = record {
    places = subst (ArePlacesOf new) (sym places_are) (places_more codes new (code_places methods) place code have.places kept);
    many = omega (arith, have.many, ap length grown, length-append methods (method ∷ []), length-append xs (x ∷ []));
    stored = λ rise rise'.
        let is = set_is rise in
        let is' = list_is rise' in
        grown
        ∙ (λ i. have.stored rise rise' i ++ record { number = x.index; flags = flags_are i; code = place; set = is i; list = is' i } ∷ [])
        ∙ sym (zip_last (stored_method sets lists) xs (code_places methods) x place (length-map methods (λ (y : StoredMethod). y.code) ∙ have.many))
        ∙ ap (zip_with (stored_method sets lists) (xs ++ x ∷ [])) (sym places_are);
    sets_held = λ limit held. let P = λ (y : StoredMethod). IfSome y.set (λ p. p < limit) in subst (All P) (sym grown) (All-push P methods method (have.sets_held limit held) (set_held limit held));
    lists_held = λ limit held. let P = λ (y : StoredMethod). IfSome y.list (λ p. p < limit) in subst (All P) (sym grown) (All-push P methods method (have.lists_held limit held) (list_held limit held));
  }

  -- its code is the last
  pub code_more : stored_codes new more ≡ stored_codes codes methods ++ code ∷ []
  code_more = ap (map (item_at new)) places_are ∙ codes_more codes new (code_places methods) place code have.places kept

-- ---- as they are held

-- the code of each
pub held_codes_are : (codes : List NumberedItem) (methods : List StoredMethod) → held_codes (map (held_in codes) methods) ≡ stored_codes codes methods
held_codes_are codes [] = refl
held_codes_are codes (x ∷ xs) = ap (λ l. item_at codes x.code ∷ l) (held_codes_are codes xs)

held_stored : (sets lists : List (ℕ × ℕ)) (codes : List NumberedItem) (xs : List MethodRead) (places : List (Option ℕ)) → map (held_in codes) (zip_with (stored_method sets lists) xs places) ≡ zip_with (held_method sets lists) xs (map (item_at codes) places)
held_stored sets lists codes [] places = refl
held_stored sets lists codes (x ∷ xs) [] = refl
held_stored sets lists codes (x ∷ xs) (p ∷ ps) = ap (λ l. held_method sets lists x (item_at codes p) ∷ l) (held_stored sets lists codes xs ps)

module _ (sets lists : List (ℕ × ℕ)) (xs : List MethodRead) (codes : List NumberedItem) (methods : List StoredMethod) (have : HaveReadMethods sets lists xs codes methods) where
  pub methods_held_are : EntriesRise sets → EntriesRise lists → map (held_in codes) methods ≡ zip_with (held_method sets lists) xs (held_codes (map (held_in codes) methods))
  methods_held_are rise rise' =
      ap (map (held_in codes)) (have.stored rise rise') ∙ held_stored sets lists codes xs (code_places methods) ∙ ap (zip_with (held_method sets lists) xs) (sym (held_codes_are codes methods))

  pub sets_below : (limit : ℕ) → PlacesBelow limit sets → HaveSetsBelow limit (map (held_in codes) methods)
  sets_below limit held = All-map (λ (y : HeldMethod). IfSome y.set (λ place. place < limit)) (held_in codes) methods (have.sets_held limit held)

  pub lists_below : (limit : ℕ) → PlacesBelow limit lists → HaveListsBelow limit (map (held_in codes) methods)
  lists_below limit held = All-map (λ (y : HeldMethod). IfSome y.list (λ place. place < limit)) (held_in codes) methods (have.lists_held limit held)
