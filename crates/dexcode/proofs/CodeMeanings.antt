-- What the numbers in code items denote.
use Rattle.dexcode.proofs.Common.{◌≡◌, ◌<◌, List, [], ◌∷◌, ◌++◌, length, map, Option, Some, None, option_to_list, refl, sym, ◌∙◌, subst, All, AllZip, flat_map, IfSome, IsSome, option_map, All-head, All-map, All-tail, TypeSymbol, Symbol, Mentions, piece_symbols, handler_symbols, debug_symbols, code_symbols, Marks, AreRising, AreMarksOf, Maps, AllMapTo, HasMark, IsUseOf, IsMappedUse, uses_of, NumberedDebug, HasPlace, renumbered_debug, debug_uses, debug_in, IsKnownDebug, piece_in, all_of, all_parts, distinct, Catch, handler_decides, NumberedHandler, NumberedTry, NumberedItem, DenotesCode, IsKnownTry, IsKnownCode, code_in, same_handler, handlers_of, catch_meant, handler_meant, try_meant, catch_use, handler_uses, tries_uses, item_uses, HasTypePlace, HasPlaces, HasImages, remapped_type, renumbered_catch, renumbered_try, renumbered_item}
use Rattle.dexspec.specs.Code as symbolic
use Rattle.dexpool.specs.declared.symbols.SymbolKind.TheVariants as kinds
use Rattle.dexpool.proofs.Numbers.{number_remapped, number_used, zip-append, all_used, all_kept, one_kept, all_marked}
use Rattle.dexinsn.proofs.Meanings as pieces
use Rattle.dexcode.proofs.CodeUses.{optional_debug_uses, if_debug}
use Rattle.dexdebug.proofs.DebugMeanings as debugs
use Rattle.dexcode.proofs.Images.{all_back_map, all_distinct}
use Rattle.dexcode.proofs.TryRows.{IsInRange, handlers_meant}
use Rattle.dexcode.proofs.TypesRemapped.{all_from_distinct}

-- ---- other numbers

-- each caught type has an image
abbrev HaveTypeImages : Maps → NumberedHandler → Type 0
HaveTypeImages r h = All (IsMappedUse r) (handler_uses h)

module _ (m n : Mentions) (r : Maps) (l : AllMapTo m n r) where
  catch_kept : (c : Catch) → IsMappedUse r (catch_use c) → (remapped_type r c.typ < length n.types) × (catch_meant n (renumbered_catch r c) ≡ catch_meant m c)
  catch_kept c image = let kept = number_remapped m n r l kinds.Typ c.typ image in (kept.0, λ i. record { type = kept.1 i; address = c.addr })

  try_kept : (t : NumberedTry) → HaveTypeImages r t.handler → IsKnownTry n (renumbered_try r t) × (try_meant n (renumbered_try r t) ≡ try_meant m t)
  try_kept t images =
      let catches = all_kept (λ c. c.typ < length n.types) (catch_meant n) (λ c. IsMappedUse r (catch_use c)) (renumbered_catch r) (catch_meant m) catch_kept t.handler.catches (all_back_map (IsMappedUse r) catch_use t.handler.catches images) in (
        catches.0,
        λ i. record { start = t.start_addr; count = t.insn_count; handler = record { catches = catches.1 i; catch_all = t.handler.catch_all_addr } },
      )

  -- if each number has an image from one numbering to another, the code has the same symbols
  pub code_kept : (c : NumberedItem) → HasImages r c → IsKnownCode m c → IsKnownCode n (renumbered_item r c) × (code_in n (renumbered_item r c) ≡ code_in m c)
  code_kept c all known =
      let handlers = map (λ (t : NumberedTry). t.handler) c.tries in
      let instructions = pieces.renumbered_denote m n r c.body.pieces (map (piece_in m) c.body.pieces) l all.pieces_have (record { known = known.pieces_known; mean = refl }) in
      let tries = all_kept (IsKnownTry n) (try_meant n) (λ t. HaveTypeImages r t.handler) (renumbered_try r) (try_meant m) try_kept c.tries
      (all_back_map (HaveTypeImages r) (λ (t : NumberedTry). t.handler) c.tries (all_from_distinct same_handler handler_decides (HaveTypeImages r) handlers (all_parts (IsMappedUse r) handler_uses (distinct same_handler handlers) all.catches_have))) in
      let debug = one_kept (IsKnownDebug n) (debug_in n) (λ d. All (IsMappedUse r) (debug_uses d)) (renumbered_debug r) (debug_in m) (debugs.debug_kept m n r l) c.debug (if_debug (IsMappedUse r) c.debug all.debug_has) in (
        record { pieces_known = instructions.known; tries_known = tries.0; debug_known = debug.0 },
        λ i. record { registers = c.body.registers; ins = c.body.ins; outs = c.body.outs; pieces = instructions.mean i; tries = tries.1 i; debug = debug.1 i },
      )

pub renumbered_denotes : (m n : Mentions) (r : Maps) (c : NumberedItem) (x : symbolic.Code) → AllMapTo m n r → HasImages r c → DenotesCode m c x → DenotesCode n (renumbered_item r c) x
renumbered_denotes m n r c x l all h = let kept = code_kept m n r l c all h.known in record { known = kept.0; means = kept.1 ∙ h.means }

-- numbers that have places have images
pub images_of_places : (r : Maps) (c : NumberedItem) → HasPlaces r c → HasImages r c
images_of_places r c h = record {
  pieces_have = pieces.images_of_places r c.body.pieces h.pieces_have;
  catches_have = all_of (HasTypePlace r) (IsMappedUse r) (tries_uses c.tries) (λ u place. subst IsSome (sym place.1) refl) h.catches_have;
  debug_has = all_of (HasPlace r) (IsMappedUse r) (optional_debug_uses c.debug) (λ u place. subst IsSome (sym place.1) refl) h.debug_has;
}

-- ---- the symbols that occur

module _ (m : Mentions) where
  handler_used : (cs : List Catch) → All (λ c. c.typ < length m.types) cs → AllZip (IsUseOf m) (map catch_use cs) (map (λ (c : symbolic.Catch). TypeSymbol c.type) (map (catch_meant m) cs))
  handler_used [] all = tt
  handler_used (c ∷ cs) all = (number_used m kinds.Typ c.typ (All-head (λ (c : Catch). c.typ < length m.types) c cs all), handler_used cs (All-tail (λ (c : Catch). c.typ < length m.types) c cs all))

  debug_used : (o : Option NumberedDebug) → IfSome o (IsKnownDebug m) → AllZip (IsUseOf m) (optional_debug_uses o) (flat_map debug_symbols (option_to_list (option_map (debug_in m) o)))
  debug_used None h = tt
  debug_used (Some d) h = zip-append (IsUseOf m) (debug_uses d) (debug_symbols (debug_in m d)) [] [] (debugs.uses_encoded m d (debug_in m d) (record { known = h; means = refl })) tt

  -- the symbols of the numbers that occur
  abbrev pub symbols_in : NumberedItem → List Symbol
  symbols_in c = flat_map piece_symbols (map (piece_in m) c.body.pieces)
      ++ (flat_map handler_symbols (map (handler_meant m) (handlers_of c.tries)) ++ flat_map debug_symbols (option_to_list (option_map (debug_in m) c.debug)))

  pub parts_used : (c : NumberedItem) → IsKnownCode m c → AllZip (IsUseOf m) (item_uses c) (symbols_in c)
  parts_used c known =
      let debug = option_map (debug_in m) c.debug in
      let handlers = all_distinct (IsInRange m) same_handler (map (λ (t : NumberedTry). t.handler) c.tries) (All-map (IsInRange m) (λ (t : NumberedTry). t.handler) c.tries known.tries_known) in
      zip-append (IsUseOf m) (uses_of c.body.pieces) (flat_map piece_symbols (map (piece_in m) c.body.pieces)) (tries_uses c.tries ++ optional_debug_uses c.debug) (flat_map handler_symbols (map (handler_meant m) (handlers_of c.tries)) ++ flat_map debug_symbols (option_to_list debug))
      (pieces.uses_encoded m c.body.pieces (map (piece_in m) c.body.pieces) (record { known = known.pieces_known; mean = refl }))
      (zip-append (IsUseOf m) (tries_uses c.tries) (flat_map handler_symbols (map (handler_meant m) (handlers_of c.tries))) (optional_debug_uses c.debug) (flat_map debug_symbols (option_to_list debug))
      (all_used (IsInRange m) (handler_meant m) m handler_uses handler_symbols (λ h all. handler_used h.catches all) (handlers_of c.tries) handlers) (debug_used c.debug known.debug_known))

  -- where symbols rise, handlers are distinct just where their types are
  pub uses_encoded : (c : NumberedItem) (x : symbolic.Code) → AreRising m → DenotesCode m c x → AllZip (IsUseOf m) (item_uses c) (code_symbols x)
  uses_encoded c x rising h =
      let tries = handlers_meant m rising c.tries (All-map (IsInRange m) (λ (t : NumberedTry). t.handler) c.tries h.known.tries_known) in
      subst (λ y. AllZip (IsUseOf m) (item_uses c) (code_symbols y)) h.means
      (subst (λ hs. AllZip (IsUseOf m) (item_uses c) (flat_map piece_symbols (map (piece_in m) c.body.pieces) ++ (flat_map handler_symbols hs ++ flat_map debug_symbols (option_to_list (option_map (debug_in m) c.debug))))) (sym tries) (parts_used c h.known))

-- there is a mark for each
pub marks_there : (m : Mentions) (marks : Marks) (c : NumberedItem) (x : symbolic.Code) → AreMarksOf m marks → DenotesCode m c x → All (HasMark marks) (item_uses c)
marks_there m marks c x are h = all_marked m marks (item_uses c) (symbols_in m c) are (parts_used m c h.known)
