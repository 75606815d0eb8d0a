-- What is known of the parts of well-formed code whose symbols are known.
use Rattle.dexspec.proofs.Common.{◌≡◌, ℕ, pos, nat_abs, ◌+◌, ◌<◌, ◌≤◌, ◌^◌, not, ◌&&◌, List, [], ◌∷◌, length, map, drop, Option, Some, None, ap, arith, inl, inr, slice_index, int_eq, signed_Decides, option_to_list, flat_map, length-drop, All, AllZip, AllByRecursion, All-contains, Contains, IfSome}
use Rattle.dexspec.proofs.Common.{All-from_recursion}
use Rattle.dexspec.specs.Symbols.{TypeSymbol}
use Rattle.dexspec.specs.Pieces.{Cut, AreCut, Piece, DenotesPiece, units_of, cut_units, is_payload_ident}
use Rattle.dexspec.specs.Code.{Catch, Handler, Try, IsStart, handlers_of, same_handler}
use Rattle.dexspec.specs.Debug.{Debug}
use Rattle.dexspec.specs.Mentions.{piece_symbols, handler_symbols, debug_symbols}
use Rattle.dexspec.specs.WellFormed.{ArePieces, IsHandlerOf, IsTryOf, IsDebug}
use Rattle.dexspec.proofs.lists.Members.{and_first, Contains-cons_cases, list_any-source}
use Rattle.dexspec.proofs.lists.Distinct.{distinct_has}
use Rattle.dexspec.proofs.merge.Depths.{Contains-map}
use Rattle.dexspec.proofs.wellformed.Blanked.{piece_bounds}
use Rattle.dexspec.proofs.wellformed.FormedRows.{all_from}
use Rattle.dexspec.proofs.written.HandlerPlaces.{handler_decides}
use Rattle.dexlisting.proofs.law.Reads.{IfAny}
use Rattle.dexlisting.proofs.law.Lists.{each_from_all, each_append, each_flat_map, each_map, each_both, each_so}
use Rattle.dexlisting.proofs.law.Symbols.{KnownSymbol}
use Rattle.dexlisting.proofs.law.Goods.{Knows}
use Rattle.dexlisting.proofs.law.Pieces.{FitsUnits, denotes_fits}
use Rattle.dexlisting.proofs.law.PieceLines.{KnownPiece}
use Rattle.dexlisting.proofs.law.Tries.{KnownHandler, KnownTry}
use Rattle.dexlisting.proofs.law.Debugs.{KnownDebug}

-- ---- pieces

-- they fit their units
all_fit : (us : List ℕ) (cuts : List Cut) (ps : List Piece) → AllZip (λ c p. DenotesPiece (λ i s. i ≡ 0) (cut_units us c) p) cuts ps → AllByRecursion FitsUnits ps
all_fit us [] [] z = tt
all_fit us [] (p ∷ ps) z = absurd z
all_fit us (c ∷ cs) [] z = absurd z
all_fit us (c ∷ cs) (p ∷ ps) z = (denotes_fits (cut_units us c) p z.0, all_fit us cs ps z.1)

-- all that is known of each
all_known : (ps : List Piece) → AllByRecursion FitsUnits ps → AllByRecursion (λ p. AllByRecursion (λ u. u < 2 ^ 16) (units_of p)) ps → AllByRecursion (λ p. Knows (piece_symbols p)) ps → AllByRecursion KnownPiece ps
all_known [] fit units named = tt
all_known (p ∷ ps) fit units named = ((fit.0, units.0, named.0), all_known ps fit.1 units.1 named.1)

-- pieces of code
pub known_pieces : (ps : List Piece) (cuts : List Cut) → ArePieces ps cuts → Knows (flat_map piece_symbols ps) → AllByRecursion KnownPiece ps
known_pieces ps cuts are named = all_known ps (all_fit (flat_map units_of ps) cuts ps are.pieces)
    (each_flat_map (λ u. u < 2 ^ 16) units_of ps (each_from_all (λ u. u < 2 ^ 16) (flat_map units_of ps) are.units)) (each_flat_map KnownSymbol piece_symbols ps named)

-- ---- tries

-- a piece begins within the units
cut_below : (most at : ℕ) (us : List ℕ) (cs : List Cut) → at + length us ≤ most → AreCut at us cs [] → (c : Cut) → Contains cs c → c.unit ≤ most
cut_below most at us [] le h c k = absurd (omega (arith, k.1))
cut_below most at us (d ∷ cs) le h c k = elim (Contains-cons_cases d c cs k) [
  | inl same ↦ omega (arith, ap (λ (x : Cut). x.unit) same, h.0, le)
  | inr later ↦ cut_below most (at + d.units) (drop d.units us) cs (omega (arith, le, length-drop d.units us, (piece_bounds at d.units us h.1).1)) h.2 c later
]

module _ (us : List ℕ) (cuts : List Cut) (cut : AreCut 0 us cuts []) (short : length us < 2 ^ 32) where
  -- so the start of an instruction is within them
  start_below : (address : ℕ) → IsStart us cuts address → address < 2 ^ 64
  start_below address s =
      let w = list_any-source (λ (c : Cut). int_eq (pos c.unit) (pos address) && not (is_payload_ident (slice_index us c.unit))) cuts s in
      let at : pos w.0.unit ≡ pos address = (signed_Decides (pos w.0.unit) (pos address)).0 (and_first (int_eq (pos w.0.unit) (pos address)) (not (is_payload_ident (slice_index us w.0.unit))) w.2) in
      let place : w.0.unit ≡ address = ap nat_abs at in
      omega (arith, place, cut_below (length us) 0 us cuts (omega arith) cut w.0 w.1, short)

  -- or there is none
  optional_below : (address : Option ℕ) → IfSome address (IsStart us cuts) → IfAny (λ p. p < 2 ^ 64) address
  optional_below None h = tt
  optional_below (Some address) h = start_below address h

  -- a handler
  known_handler : (h : Handler) → IsHandlerOf us cuts h → Knows (handler_symbols h) → KnownHandler h
  known_handler h is named =
      let types = each_map KnownSymbol (λ (c : Catch). TypeSymbol c.type) h.catches named in
      let starts = each_so (λ (c : Catch). IsStart us cuts c.address) (λ c s. start_below c.address s) h.catches (each_from_all (λ (c : Catch). IsStart us cuts c.address) h.catches is.catches) in
      (each_both (λ (c : Catch). KnownSymbol (TypeSymbol c.type)) (λ (c : Catch). c.address < 2 ^ 64) h.catches types starts, optional_below h.catch_all is.catch_all)

  -- a try
  known_try : (t : Try) → IsTryOf us cuts t → Knows (handler_symbols t.handler) → KnownTry t
  known_try t is named = (omega (arith, is.within, short), (omega (arith, is.count), known_handler t.handler is.handler named))

  -- tries
  pub known_tries : (ts : List Try) → All (IsTryOf us cuts) ts → Knows (flat_map handler_symbols (handlers_of ts)) → AllByRecursion KnownTry ts
  known_tries ts are named =
      let hs = handlers_of ts in
      let each = each_flat_map KnownSymbol handler_symbols hs named in
      each_from_all KnownTry ts (all_from KnownTry ts (λ t c.
      let among = distinct_has same_handler (λ x y. (handler_decides x y).0) (map (λ (u : Try). u.handler) ts) t.handler (Contains-map (λ (u : Try). u.handler) ts t c) in
      known_try t (All-contains (IsTryOf us cuts) ts t are c) (All-contains (λ h. Knows (handler_symbols h)) hs t.handler (All-from_recursion (λ h. Knows (handler_symbols h)) hs each) among)))

-- ---- debug programs

-- an optional debug program
pub known_debug : (d : Option Debug) → IfSome d IsDebug → Knows (flat_map debug_symbols (option_to_list d)) → IfAny KnownDebug d
known_debug None is named = tt
known_debug (Some d) is named = (is, (each_append KnownSymbol (debug_symbols d) [] named).0)
