-- Members put together: what the places of a directory are looked up to.
use Rattle.dexmembers.proofs.Common.{◌≡◌, ℕ, ◌<◌, Bool, true, false, cond, List, [], ◌∷◌, get_or, length, map, refl, sym, ap, ◌∙◌, subst, Option, Some, None, All, IfSome, unwrap_or, nat_cmp, is_eq, zip_with, annotated, map_both, NumberedItem, NumberedSet, NumberedTable, IsPlaceIn, set_at, sets_at}
use Rattle.std.specs.FinMap.Entries.{find}
use Rattle.dexmembers.specs.{HeldField, HeldMethod, field_of, method_of, IsHeldField, IsHeldMethod}
use Rattle.dexmembers.specs.internal.Attaching.{EntriesRise, place_for, held_field, held_method, field_with, method_with}
use Rattle.dexmembers.specs.declared.class_data.EncodedField.{EncodedField as FieldRead}
use Rattle.dexmembers.specs.declared.class_data.EncodedMethod.{EncodedMethod as MethodRead}

-- what is looked up at the place for a number is what the entries looked up have for it
look_placed : {Y : Type 0} (at : Option ℕ → List Y) → at None ≡ [] → (es : List (ℕ × ℕ)) (n : ℕ) → at (place_for es n) ≡ annotated nat_cmp (map (λ (e : ℕ × ℕ). (e.0, at (Some e.1))) es) n
look_placed at none [] n = none
look_placed {Y} at none (e ∷ es) n = step (is_eq (nat_cmp n e.0)) (look_placed at none es n)
  where
    step : (b : Bool) → at (place_for es n) ≡ annotated nat_cmp (map (λ (x : ℕ × ℕ). (x.0, at (Some x.1))) es) n
        → at (cond b (Some e.1) (find nat_cmp n es)) ≡ unwrap_or (cond b (Some (at (Some e.1))) (find nat_cmp n (map (λ (x : ℕ × ℕ). (x.0, at (Some x.1))) es))) []
    step true r = refl
    step false r = r

-- the fields of a list
pub fields_looked_up : (sets : List NumberedSet) (es : List (ℕ × ℕ)) (xs : List FieldRead) → map (field_of sets) (map (held_field es) xs) ≡ map (field_with (map (λ (e : ℕ × ℕ). (e.0, set_at sets (Some e.1))) es)) xs
fields_looked_up sets es xs =
    map_both (held_field es) (field_of sets) (field_with (map (λ (e : ℕ × ℕ). (e.0, set_at sets (Some e.1))) es)) xs
    (λ k d lt. let x = get_or xs k d in let set = look_placed (set_at sets) refl es x.index in λ i. record { number = x.index; flags = x.flags; annotations = set i })

-- the methods
pub methods_looked_up : (t : NumberedTable) (es ls : List (ℕ × ℕ)) (xs : List MethodRead) (cs : List (Option NumberedItem))
    → map (method_of t) (zip_with (held_method es ls) xs cs) ≡ zip_with (method_with (map (λ (e : ℕ × ℕ). (e.0, set_at t.sets (Some e.1))) es) (map (λ (e : ℕ × ℕ). (e.0, sets_at t (Some e.1))) ls)) xs cs
methods_looked_up t es ls [] cs = refl
methods_looked_up t es ls (x ∷ xs) [] = refl
methods_looked_up t es ls (x ∷ xs) (c ∷ cs) =
    let set = look_placed (set_at t.sets) refl es x.index in
    let list = look_placed (sets_at t) refl ls x.index in
    let rest = methods_looked_up t es ls xs cs in
    λ i. record { number = x.index; flags = x.flags; code = c; annotations = set i; parameter_annotations = list i } ∷ rest i

-- ---- places that are a table's

-- a place below the limit is one of a list of that length
pub place_held : {X : Type 0} (xs : List X) (place : Option ℕ) → IfSome place (λ i. i < length xs) → IsPlaceIn xs place
place_held xs None h = tt
place_held xs (Some i) h = h

-- each field's
pub fields_held : (sets : List NumberedSet) (fs : List HeldField) → All (λ (f : HeldField). IfSome f.set (λ i. i < length sets)) fs → All (IsHeldField sets) fs
fields_held sets fs h = λ k d lt. place_held sets _ (h k d lt)

-- each method's
pub methods_held : (t : NumberedTable) (xs : List HeldMethod) → All (λ (x : HeldMethod). IfSome x.set (λ i. i < length t.sets)) xs → All (λ (x : HeldMethod). IfSome x.list (λ i. i < length t.lists)) xs → All (IsHeldMethod t) xs
methods_held t xs h g = λ k d lt. record { set_held = place_held t.sets _ (h k d lt); list_held = place_held t.lists _ (g k d lt) }

-- ---- by other words for the lists

-- places below the limit, of the same entries
pub few_places : {es fs : List (ℕ × ℕ)} {limit : ℕ} → es ≡ fs → All (λ (e : ℕ × ℕ). e.1 < limit) fs → All (λ (e : ℕ × ℕ). e.1 < limit) es
few_places {es} {fs} {limit} same h = subst (All (λ (e : ℕ × ℕ). e.1 < limit)) (sym same) h

-- the fields of a list that were put together
pub fields_attached : {xs ys : List FieldRead} {es fs : List (ℕ × ℕ)} {held : List HeldField} (sets : List NumberedSet) → xs ≡ ys → es ≡ fs → EntriesRise fs → (EntriesRise es → held ≡ map (held_field es) xs)
    → map (field_of sets) held ≡ map (field_with (map (λ (e : ℕ × ℕ). (e.0, set_at sets (Some e.1))) fs)) ys
fields_attached {xs} {ys} {es} {fs} sets p q rise h =
    ap (map (field_of sets)) (h (subst (λ (l : List (ℕ × ℕ)). EntriesRise l) (sym q) rise) ∙ (λ i. map (held_field (q i)) (p i))) ∙ fields_looked_up sets fs ys

-- the methods
pub methods_attached : {xs ys : List MethodRead} {es fs ls ks : List (ℕ × ℕ)} {held : List HeldMethod} (t : NumberedTable) (cs : List (Option NumberedItem)) → xs ≡ ys → es ≡ fs → ls ≡ ks → EntriesRise fs → EntriesRise ks
    → (EntriesRise es → EntriesRise ls → held ≡ zip_with (held_method es ls) xs cs)
    → map (method_of t) held ≡ zip_with (method_with (map (λ (e : ℕ × ℕ). (e.0, set_at t.sets (Some e.1))) fs) (map (λ (e : ℕ × ℕ). (e.0, sets_at t (Some e.1))) ks)) ys cs
methods_attached {xs} {ys} {es} {fs} {ls} {ks} t cs p q e rise rise' h =
    ap (map (method_of t)) (h (subst (λ (l : List (ℕ × ℕ)). EntriesRise l) (sym q) rise) (subst (λ (l : List (ℕ × ℕ)). EntriesRise l) (sym e) rise') ∙ (λ i. zip_with (held_method (q i) (e i)) (p i) cs))
    ∙ methods_looked_up t fs ks ys cs
