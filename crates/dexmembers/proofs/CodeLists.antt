-- Code as it is stored, with its debug programs beside it: with other numbers, and without debug programs.
use Rattle.dexmembers.proofs.Common.{◌≡◌, ℕ, ◌+◌, ◌<◌, List, [], ◌∷◌, ◌++◌, length, take, Option, map, get_or, refl, sym, ap, ◌∙◌, subst, arith, Some, None, All, map-append, All-map, All-nil, length-map, get_or-map, option_map, option_to_list, flat_map, map_both, Maps, NumberedItem, HasPlaces, renumbered_item, IsPlaceIn}
use Rattle.std.proofs.lemmas.List.{map_more}
use Rattle.std.proofs.lemmas.Option.{slice_get-get_or}
use Rattle.dexcode.specs.Numbered.{with_debug}
use Rattle.dexcode.proofs.CodeUses.{debug_part}
use Rattle.dexdebug.specs.Debug.{NumberedDebug, HasPlace, debug_uses, renumbered_debug}
use Rattle.dexmembers.specs.{AreStoredCodes, ArePlacesOf, IsAlone, IsStoredCodeMapped, code_with, codes_with, debug_places, item_at, remapped_code, stripped_code}
use Rattle.dexmembers.specs.declared.code_list.StoredCode.{StoredCode}
use Rattle.dexmembers.specs.internal.SharedCodes.{code_in, stored_in, stored_with}
use Rattle.dexpool.specs.declared.sharing.SharedItem.{SharedItem}
use Rattle.dexmembers.proofs.MethodLists.{codes_replaced, item_mapped}
use Rattle.dexmembers.proofs.RenumberingLists.{all_seen, both_ways}

-- used instead of code that is missing
abbrev no_code : StoredCode NumberedItem
no_code = record { code = record { body = record { registers = 0; ins = 0; outs = 0; pieces = [] }; tries = []; debug = None }; debug = None }

-- the code without a place of a debug program
abbrev pub unplaced : {C : Type 0} → StoredCode C → StoredCode C
unplaced x = record { code = x.code; debug = None }

module _ (r : Maps) (debugs : List NumberedDebug) (xs : List (StoredCode NumberedItem)) (stored : AreStoredCodes debugs xs) where
  pub codes_have_places : All (HasPlaces r) (codes_with debugs xs) → All (IsStoredCodeMapped r) xs
  codes_have_places mapped = λ k d lt.
      let one = all_seen (code_with debugs) (HasPlaces r) xs mapped k d lt in
      record {
        pieces_have = one.pieces_have;
        catches_have = one.catches_have;
        debug_has = subst (λ o. All (HasPlace r) (flat_map debug_uses (option_to_list o))) (sym (stored.alone k d lt)) (All-nil (HasPlace r));
      }

  -- each debug program is some code's
  pub debugs_have_places : All (HasPlaces r) (codes_with debugs xs) → All (λ d. All (HasPlace r) (debug_uses d)) debugs
  debugs_have_places mapped = λ i d lt.
      let named = stored.places.named i lt in
      let few : named.0 < length xs = omega (arith, named.1, length-map xs (λ (x : StoredCode NumberedItem). x.debug)) in
      let is = sym (get_or-map (λ (x : StoredCode NumberedItem). x.debug) xs named.0 no_code (Some i) few) ∙ named.2 in
      let one = all_seen (code_with debugs) (HasPlaces r) xs mapped named.0 no_code few in
      debug_part (HasPlace r) (item_at debugs (get_or xs named.0 no_code).debug) (get_or debugs i d) one.debug_has (ap (item_at debugs) is ∙ slice_get-get_or debugs i d lt)

  pub codes_remapped : codes_with (map (renumbered_debug r) debugs) (map (remapped_code r) xs) ≡ map (renumbered_item r) (codes_with debugs xs)
  codes_remapped = both_ways (remapped_code r) (code_with (map (renumbered_debug r) debugs)) (code_with debugs) (renumbered_item r) (λ x. ap (with_debug (renumbered_item r x.code)) (item_mapped (renumbered_debug r) debugs x.debug)) xs

  pub stored_remapped : AreStoredCodes (map (renumbered_debug r) debugs) (map (remapped_code r) xs)
  stored_remapped = record {
    alone = All-map IsAlone (remapped_code r) xs (λ k d lt. ap (option_map (renumbered_debug r)) (stored.alone k d lt));
    places = subst (ArePlacesOf (map (renumbered_debug r) debugs)) (sym (map_both (remapped_code r) (λ (y : StoredCode NumberedItem). y.debug) (λ (y : StoredCode NumberedItem). y.debug) xs (λ k d lt. refl))) (codes_replaced (renumbered_debug r) debugs (debug_places xs) stored.places);
  }

module _ (debugs : List NumberedDebug) (xs : List (StoredCode NumberedItem)) where
  pub codes_stripped : codes_with [] (map unplaced xs) ≡ map stripped_code (codes_with debugs xs)
  codes_stripped = both_ways unplaced (code_with []) (code_with debugs) stripped_code (λ x. refl) xs

  pub stored_stripped : AreStoredCodes debugs xs → AreStoredCodes [] (map unplaced xs)
  stored_stripped stored = record {
    alone = All-map IsAlone unplaced xs stored.alone;
    places = record {
      held = All-map (IsPlaceIn {X = NumberedDebug} []) (λ (y : StoredCode NumberedItem). y.debug) (map unplaced xs) (All-map (λ y. IsPlaceIn {X = NumberedDebug} [] y.debug) unplaced xs (λ k d lt. tt));
      named = λ i lt. absurd (omega (arith, lt));
    };
  }

-- ---- in memory that several lists share

-- the code at a place has the debug program at its own
pub shared_code_at : (debugs : List NumberedDebug) (items : List (StoredCode (SharedItem NumberedItem))) (place : Option ℕ) (x : StoredCode (SharedItem NumberedItem)) → item_at items place ≡ Some x
    → item_at (codes_with debugs (stored_in items)) place ≡ Some (with_debug (code_in x.code) (item_at debugs x.debug))
shared_code_at debugs items place x is = item_mapped (code_with debugs) (stored_in items) place ∙ ap (option_map (code_with debugs)) (item_mapped stored_with items place ∙ ap (option_map stored_with) is)

-- one more item was put, which is seen as one that is mapped
pub mapped_more : {X Y Z : Type 0} (f : X → Z) (g : Y → Z) (xs : List X) (i : ℕ) (d : X) (ys new : List Y) (y : Y) → i < length xs → new ≡ ys ++ y ∷ [] → map g ys ≡ map f (take i xs) → g y ≡ f (get_or xs i d) → map g new ≡ map f (take (i + 1) xs)
mapped_more f g xs i d ys new y lt more done is = ap (map g) more ∙ map-append g ys (y ∷ []) ∙ (λ k. done k ++ is k ∷ []) ∙ sym (map_more f xs i d lt)

-- without places of debug programs
pub stored_unplaced : (items : List (StoredCode (SharedItem NumberedItem))) → stored_in (map unplaced items) ≡ map unplaced (stored_in items)
stored_unplaced items = both_ways unplaced stored_with stored_with unplaced (λ x. refl) items
