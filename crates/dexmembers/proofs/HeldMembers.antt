-- Members as they are held, remapped and stripped: what is looked up for them then.
use Rattle.dexmembers.proofs.Common.{◌≡◌, ℕ, List, get_or, length, map, refl, sym, ap, ◌∙◌, arith, Option, Some, None, All, length-map, All-map, Maps, map_both, NumberedSet, renumbered_set, SetHasPlaces, NumberedTable, IsPlaceIn, IsRemappedSet, set_at, places_at}
use Rattle.dexmembers.specs.{NumberedField, NumberedMethod, AreFew, HeldField, HeldMethod, field_of, method_of, IsHeldField, IsHeldMethod, renumbered_field, renumbered_method, remapped_field, remapped_method, FieldHasPlaces, MethodHasPlaces, IsHeldFieldMapped, IsHeldMethodMapped, stripped_held, stripped_method}
use Rattle.dexmembers.proofs.RenumberingLists.{both_where, both_ways, all_seen}

-- ---- the images of the numbers of members

pub fields_mapped : (r : Maps) (sets : List NumberedSet) (fs : List HeldField) → All (FieldHasPlaces r) (map (field_of sets) fs) → All (IsHeldFieldMapped r) fs
fields_mapped r sets fs h = λ k d lt. (all_seen (field_of sets) (FieldHasPlaces r) fs h k d lt).number_mapped

pub methods_mapped : (r : Maps) (t : NumberedTable) (xs : List HeldMethod) → All (MethodHasPlaces r) (map (method_of t) xs) → All (IsHeldMethodMapped r) xs
methods_mapped r t xs h = λ k d lt. let one = all_seen (method_of t) (MethodHasPlaces r) xs h k d lt in record { number_mapped = one.number_mapped; code_mapped = one.code_mapped }

-- ---- remapped

module _ (r : Maps) (sets sets' : List NumberedSet) (remapped : (place : Option ℕ) → IsRemappedSet r (set_at sets place) (set_at sets' place)) where
  -- the fields of a list, and their sets in the table
  pub fields_remapped : (fs : List HeldField) → All (FieldHasPlaces r) (map (field_of sets) fs) → map (field_of sets') (map (remapped_field r) fs) ≡ map (renumbered_field r) (map (field_of sets) fs)
  fields_remapped fs h =
      both_where (remapped_field r) (field_of sets') (field_of sets) (renumbered_field r) (λ f. FieldHasPlaces r (field_of sets f))
      (λ f has. let set = (remapped f.set).0 has.annotations_mapped in λ i. record { number = (remapped_field r f).number; flags = f.flags; annotations = set i }) fs (all_seen (field_of sets) (FieldHasPlaces r) fs h)

  -- the sets of a list
  list_remapped : (places : List (Option ℕ)) → All (SetHasPlaces r) (map (set_at sets) places) → map (set_at sets') places ≡ map (renumbered_set r) (map (set_at sets) places)
  list_remapped places h = sym (map_both (set_at sets) (renumbered_set r) (set_at sets') places (λ k d lt. sym ((remapped (get_or places k d)).0 (all_seen (set_at sets) (SetHasPlaces r) places h k d lt))))

  -- the methods of a list
  pub methods_remapped : (lists lists' : List (List (Option ℕ))) → lists' ≡ lists → (xs : List HeldMethod) → All (MethodHasPlaces r) (map (method_of (record { sets = sets; lists = lists })) xs)
      → map (method_of (record { sets = sets'; lists = lists' })) (map (remapped_method r) xs) ≡ map (renumbered_method r) (map (method_of (record { sets = sets; lists = lists })) xs)
  methods_remapped lists lists' same xs h =
      let old = method_of (record { sets = sets; lists = lists }) in
      let new = method_of (record { sets = sets'; lists = lists' }) in
      both_where (remapped_method r) new old (renumbered_method r) (λ x. MethodHasPlaces r (old x))
      (λ x has.
      let set = (remapped x.set).0 has.annotations_mapped in
      let list = ap (λ (ls : List (List (Option ℕ))). map (set_at sets') (places_at ls x.list)) same ∙ list_remapped (places_at lists x.list) has.parameters_mapped in
      λ i. record { number = (remapped_method r x).number; flags = x.flags; code = (remapped_method r x).code; annotations = set i; parameter_annotations = list i }) xs (all_seen old (MethodHasPlaces r) xs h)

-- ---- places in a table of the same size

pub place_kept : {X Y : Type 0} (xs : List X) (ys : List Y) → length ys ≡ length xs → (place : Option ℕ) → IsPlaceIn xs place → IsPlaceIn ys place
place_kept xs ys size None h = tt
place_kept xs ys size (Some i) h = omega (arith, size, h)

pub fields_kept : (r : Maps) (sets sets' : List NumberedSet) → length sets' ≡ length sets → (fs : List HeldField) → All (IsHeldField sets) fs → All (IsHeldField sets') (map (remapped_field r) fs)
fields_kept r sets sets' size fs h = All-map (IsHeldField sets') (remapped_field r) fs (λ k d lt. place_kept sets sets' size (get_or fs k d).set (h k d lt))

pub methods_kept : (r : Maps) (t t' : NumberedTable) → length t'.sets ≡ length t.sets → t'.lists ≡ t.lists → (xs : List HeldMethod) → All (IsHeldMethod t) xs → All (IsHeldMethod t') (map (remapped_method r) xs)
methods_kept r t t' size same xs h =
    All-map (IsHeldMethod t') (remapped_method r) xs (λ k d lt. record { set_held = place_kept t.sets t'.sets size (get_or xs k d).set (h k d lt).set_held; list_held = place_kept t.lists t'.lists (ap length same) (get_or xs k d).list (h k d lt).list_held })

-- as many members are few
pub few_mapped : (f : NumberedField → NumberedField) (g : NumberedMethod → NumberedMethod) (ss is : List NumberedField) (ds vs : List NumberedMethod) → AreFew ss is ds vs → AreFew (map f ss) (map f is) (map g ds) (map g vs)
few_mapped f g ss is ds vs h = record {
  few_fields = omega (arith, h.few_fields, length-map ss f, length-map is f);
  few_methods = omega (arith, h.few_methods, length-map ds g, length-map vs g);
}

-- ---- stripped

-- the methods of a list, without their debug programs
pub methods_stripped : (t : NumberedTable) (xs : List HeldMethod) → map (method_of t) (map stripped_held xs) ≡ map stripped_method (map (method_of t) xs)
methods_stripped t = both_ways stripped_held (method_of t) (method_of t) stripped_method (λ x. refl)

pub stripped_kept : (t : NumberedTable) (xs : List HeldMethod) → All (IsHeldMethod t) xs → All (IsHeldMethod t) (map stripped_held xs)
stripped_kept t xs h = All-map (IsHeldMethod t) stripped_held xs (λ k d lt. record { set_held = (h k d lt).set_held; list_held = (h k d lt).list_held })

-- ---- by other words

pub same_few : {ss ss' is is' : List NumberedField} {ds ds' vs vs' : List NumberedMethod} → ss ≡ ss' → is ≡ is' → ds ≡ ds' → vs ≡ vs' → AreFew ss is ds vs → AreFew ss' is' ds' vs'
same_few p q e f h = record {
  few_fields = omega (arith, h.few_fields, ap length p, ap length q);
  few_methods = omega (arith, h.few_methods, ap length e, ap length f);
}

-- the numbers of fields are those of the ones that are held
pub field_numbers_held : (sets : List NumberedSet) (fs : List HeldField) → map (λ (f : HeldField). f.number) fs ≡ map (λ (f : NumberedField). f.number) (map (field_of sets) fs)
field_numbers_held sets fs = sym (map_both (field_of sets) (λ (f : NumberedField). f.number) (λ (f : HeldField). f.number) fs (λ k d lt. refl))

-- and of methods
pub method_numbers_held : (t : NumberedTable) (xs : List HeldMethod) → map (λ (x : HeldMethod). x.number) xs ≡ map (λ (x : NumberedMethod). x.number) (map (method_of t) xs)
method_numbers_held t xs = sym (map_both (method_of t) (λ (x : NumberedMethod). x.number) (λ (x : HeldMethod). x.number) xs (λ k d lt. refl))

pub stripped_few : {ss is : List NumberedField} {ds ds' vs vs' : List NumberedMethod} → map stripped_method ds ≡ ds' → map stripped_method vs ≡ vs' → AreFew ss is ds vs → AreFew ss is ds' vs'
stripped_few {ss} {is} {ds} {ds'} {vs} p q h = record {
  few_fields = h.few_fields;
  few_methods = omega (arith, h.few_methods, ap length p, ap length q, length-map ds stripped_method, length-map vs stripped_method);
}
