-- Handlers that catch no type have an address for all else, and the numbers of types have 32 bits.
use Rattle.dexcode.proofs.Common.{◌≡◌, ℕ, ◌+◌, ◌<◌, Bool, true, false, List, [], ◌∷◌, ◌++◌, length, map, get_or, ◌^◌, subst, sym, ap, if◌then◌else◌, arith, ints, All, list_any, All-map, All-push, All-get_or, length-map, unwrap_or, insert_key, Sequence, Maps, all_map, Catch, NumberedHandler, IsWhole, IsFormedHandler, same_handler, no_handler, CatchAt, CatchAllAt, HandlerAt, catch_use, handler_uses, HasTypePlace, remapped_type, renumbered_catch, renumbered_handler}
use Rattle.dexcode.proofs.Images.{all_back_map, seq_all}

-- a handler that was read is whole
module _ (starts : List Bool) (types : ℕ) (b : List ℕ) where
  one_fits : (o : ℕ) (c : Catch) (n : ℕ) → CatchAt starts types b o c n → c.typ < 2 ^ 32
  one_fits o c n at = at.index_is.spelled.in_range

  one_whole : (o : ℕ) (h : NumberedHandler) (n : ℕ) → HandlerAt starts types b o h n → IsWhole h
  one_whole o h n at none = omega (arith, ints, (subst (λ a. CatchAllAt starts at.count b (o + at.count_size + at.catches_size) a at.all_size) none at.all).0, at.many)

  one_formed : (o : ℕ) (h : NumberedHandler) (n : ℕ) → HandlerAt starts types b o h n → IsFormedHandler h
  one_formed o h n at = record { whole = one_whole o h n at; types_fit = seq_all (CatchAt starts types) (λ c. c.typ < 2 ^ 32) b one_fits (o + at.count_size) h.catches at.catches_size at.catches_are }

  pub all_formed : (o : ℕ) (hs : List NumberedHandler) (n : ℕ) → Sequence (HandlerAt starts types) b o hs n → All IsFormedHandler hs
  all_formed = seq_all (HandlerAt starts types) IsFormedHandler b one_formed

insert_formed : (there : Bool) (hs : List NumberedHandler) (h : NumberedHandler) → All IsFormedHandler hs → IsFormedHandler h → All IsFormedHandler (if there then hs else hs ++ h ∷ [])
insert_formed true hs h all formed = all
insert_formed false hs h all formed = All-push IsFormedHandler hs h all formed

-- with the handler of one more try they are formed
pub formed_more : (listed hs hs' : List NumberedHandler) (place : ℕ) → place < length listed → All IsFormedHandler listed → All IsFormedHandler hs → hs' ≡ insert_key same_handler hs (get_or listed place no_handler) → All IsFormedHandler hs'
formed_more listed hs hs' place lt formed all inserted =
    let h = get_or listed place no_handler in subst (All IsFormedHandler) (sym inserted) (insert_formed (list_any (same_handler h) hs) hs h all (All-get_or IsFormedHandler listed place no_handler lt formed))

-- types that have places, remapped
types_remapped : (r : Maps) (cs : List Catch) → All (HasTypePlace r) (map catch_use cs) → All (λ c. c.typ < 2 ^ 32) (map (renumbered_catch r) cs)
types_remapped r cs all = all_map (λ c. HasTypePlace r (catch_use c)) (λ c. c.typ < 2 ^ 32) (renumbered_catch r) cs place_fits (all_back_map (HasTypePlace r) catch_use cs all)
  where
    place_fits : (c : Catch) → HasTypePlace r (catch_use c) → remapped_type r c.typ < 2 ^ 32
    place_fits c place = let is : remapped_type r c.typ ≡ place.0 = ap (λ o. unwrap_or o c.typ) place.1 in omega (arith, is, place.2)

handler_remapped : (r : Maps) (h : NumberedHandler) → All (HasTypePlace r) (handler_uses h) → IsFormedHandler h → IsFormedHandler (renumbered_handler r h)
handler_remapped r h places formed = record {
  whole = λ none. let some = formed.whole none in omega (arith, some, length-map h.catches (renumbered_catch r));
  types_fit = types_remapped r h.catches places;
}

-- remapped handlers are formed
pub formed_remapped : (r : Maps) (hs : List NumberedHandler) → All (λ h. All (HasTypePlace r) (handler_uses h)) hs → All IsFormedHandler hs → All IsFormedHandler (map (renumbered_handler r) hs)
formed_remapped r hs places all = All-map IsFormedHandler (renumbered_handler r) hs (λ k d lt. handler_remapped r (get_or hs k d) (places k d lt) (all k d lt))
