-- Code and debug programs that are kept once, and their places by their offsets.
use Rattle.dexmembers.proofs.Common.{◌≡◌, ℕ, List, Option, Some, None, inl, inr, refl, sym, subst, ap, ◌∙◌, ◌∷◌, [], ◌++◌, get_or, length-map, map-append, All-push, option_map, IsPlaceIn, NumberedItem}
use Rattle.dexcode.specs.Numbered.{with_debug}
use Rattle.dexcode.proofs.Images.{all_back_map}
use Rattle.dexdebug.specs.Debug.{NumberedDebug}
use Rattle.dexmembers.specs.{AreStoredCodes, ArePlacesOf, IsAlone, code_with, codes_with, debug_places, item_at}
use Rattle.dexmembers.specs.declared.code_list.StoredCode.{StoredCode}
use Rattle.dexmembers.specs.declared.kept.Kept.{Kept}
use Rattle.dexmembers.specs.internal.Kept.{AreNoted, IsKept, IsKeptAt, NotesMore}
use Rattle.dexmembers.specs.internal.MethodCodes.{IsDebugKept}
use Rattle.dexmembers.proofs.MethodLists.{kept_at, map_agree, places_more}

-- a place was noted at one offset more
pub noted_more : {X : Type 0} (P Q : ℕ → Option ℕ → Type 0) (old new : Kept X) (off : ℕ) (place : Option ℕ) → ((q : ℕ) (p : Option ℕ) → P q p → Q q p) → AreNoted P old → NotesMore off old new place → Q off place → AreNoted Q new
noted_more P Q old new off place keeps h more here q p noted =
    elim (more q p noted) [ inl before ↦ keeps q p (h q p before) | inr both ↦ subst (Q q) both.1 (subst (λ (r : ℕ). Q r place) both.0 here) ]

-- ---- code, whose debug programs are kept beside it

-- the debug programs before stay where code is read
module _ (debugs debugs' : List NumberedDebug) where
  debugs_still : (code : Option (StoredCode NumberedItem)) → IsDebugKept code debugs debugs' → (p : Option ℕ) → IsPlaceIn debugs p → IsPlaceIn debugs' p × (item_at debugs' p ≡ item_at debugs p)
  debugs_still None same p at = rw same (at, refl)
  debugs_still (Some x) kept p at = kept.1.still p at

  -- and so the code before has those that it had
  codes_same : (code : Option (StoredCode NumberedItem)) → IsDebugKept code debugs debugs' → (xs : List (StoredCode NumberedItem)) → AreStoredCodes debugs xs → codes_with debugs' xs ≡ codes_with debugs xs
  codes_same code kept xs h =
      let placed = all_back_map (IsPlaceIn debugs) (λ (x : StoredCode NumberedItem). x.debug) xs h.places.held in
      map_agree (code_with debugs') (code_with debugs) xs (λ k d lt. ap (with_debug (get_or xs k d).code) (debugs_still code kept (get_or xs k d).debug (placed k d lt)).1)

  module _ (xs xs' : List (StoredCode NumberedItem)) (place : Option ℕ) (h : AreStoredCodes debugs xs) where
    codes_kept : (code : Option (StoredCode NumberedItem)) → IsDebugKept code debugs debugs' → IsKept code xs xs' place → IsKept (option_map (code_with debugs') code) (codes_with debugs xs) (codes_with debugs' xs') place
    codes_kept None same k = (ap (codes_with debugs') k.0 ∙ codes_same None same xs h, k.1)
    codes_kept (Some x) kept k = (
      ap (codes_with debugs') k.0 ∙ map-append (code_with debugs') xs (x ∷ []) ∙ ap (λ l. l ++ code_with debugs' x ∷ []) (codes_same (Some x) kept xs h),
      k.1 ∙ ap Some (sym (length-map xs (code_with debugs))),
    )

    pub codes_kept_at : (code : Option (StoredCode NumberedItem)) → IsDebugKept code debugs debugs' → IsKept code xs xs' place → IsKeptAt (option_map (code_with debugs') code) (codes_with debugs xs) (codes_with debugs' xs') place
    codes_kept_at code kept k = kept_at (option_map (code_with debugs') code) (codes_with debugs xs) (codes_with debugs' xs') place (codes_kept code kept k)

    -- the code that is kept then has all debug programs
    pub stored_more : (code : Option (StoredCode NumberedItem)) → IsDebugKept code debugs debugs' → IsKept code xs xs' place → AreStoredCodes debugs' xs'
    stored_more None same k = rw (same, k.0) h
    stored_more (Some x) kept k =
        rw k.0 (record {
          alone = All-push IsAlone xs x h.alone kept.0;
          places = subst (ArePlacesOf debugs') (sym (map-append (λ (y : StoredCode NumberedItem). y.debug) xs (x ∷ []))) (places_more debugs debugs' (debug_places xs) x.debug (item_at debugs' x.debug) h.places kept.1);
        })
