-- Numbers are the ranks of what they mean, so code of two numberings, mapped to a third, is the same there just where
-- it means the same.
use Rattle.dexcode.proofs.Common.{◌≡◌, ℕ, ◌<◌, length, map, Some, refl, ap, sym, ◌∙◌, ◌↔◌, option_map, AreRising, Mentions, Piece, Maps, AllMapTo, NumberedPiece, Instruction, Payload, kind_in, debug_in, IsKnownDebug, Catch, IsKnownPiece, piece_in, code_in, IsKnownTry, IsKnownCode, NumberedTry, NumberedItem, catch_meant, try_meant, HasImages, renumbered_item}
use Rattle.dexspec.specs.Pieces as pieces
use Rattle.dexspec.specs.Code as symbolic
use Rattle.dexspec.specs.Spellings.{symbol_index, type_index}
use Rattle.dexpool.specs.declared.symbols.SymbolKind.TheVariants as kinds
use Rattle.dexpool.proofs.Numbers.{number_ranked, all_back, one_back}
use Rattle.dexdebug.proofs.DebugRanked.{ranked_debug, debug_back}
use Rattle.dexcode.proofs.CodeMeanings.{code_kept}

-- ---- ranks instead of symbols

module _ (m : Mentions) where
  abbrev ranked_piece : Piece → NumberedPiece
  ranked_piece (pieces.Instruction us s) = Instruction us (option_map (symbol_index m) s)
  ranked_piece (pieces.Payload us) = Payload us

  abbrev ranked_catch : symbolic.Catch → Catch
  ranked_catch c = record { typ = type_index m c.type; addr = c.address }

  abbrev ranked_try : symbolic.Try → NumberedTry
  ranked_try t = record { start_addr = t.start; insn_count = t.count; handler = record { catches = map ranked_catch t.handler.catches; catch_all_addr = t.handler.catch_all } }

  abbrev pub ranked_code : symbolic.Code → NumberedItem
  ranked_code x = record {
    body = record { registers = x.registers; ins = x.ins; outs = x.outs; pieces = map ranked_piece x.pieces };
    tries = map ranked_try x.tries;
    debug = option_map (ranked_debug m) x.debug;
  }

-- ---- the ranks are the numbers

module _ (m : Mentions) (rising : AreRising m) where
  piece_back : (p : NumberedPiece) → IsKnownPiece m p → ranked_piece m (piece_in m p) ≡ p
  piece_back (Instruction us (Some n)) h = ap (λ (i : ℕ). Instruction us (Some i)) (number_ranked m rising (kind_in us) n h.1)
  piece_back _ h = refl

  catch_back : (c : Catch) → c.typ < length m.types → ranked_catch m (catch_meant m c) ≡ c
  catch_back c lt = let typ = number_ranked m rising kinds.Typ c.typ lt in λ i. record { typ = typ i; addr = c.addr }

  try_back : (t : NumberedTry) → IsKnownTry m t → ranked_try m (try_meant m t) ≡ t
  try_back t h =
      let catches = all_back (λ (c : Catch). c.typ < length m.types) (catch_meant m) (ranked_catch m) catch_back t.handler.catches h in
      λ i. record { start_addr = t.start_addr; insn_count = t.insn_count; handler = record { catches = catches i; catch_all_addr = t.handler.catch_all_addr } }

  pub code_back : (c : NumberedItem) → IsKnownCode m c → ranked_code m (code_in m c) ≡ c
  code_back c h =
      λ i. record {
        body = record {
          registers = c.body.registers;
          ins = c.body.ins;
          outs = c.body.outs;
          pieces = (all_back (IsKnownPiece m) (piece_in m) (ranked_piece m) piece_back c.body.pieces h.pieces_known) i;
        };
        tries = (all_back (IsKnownTry m) (try_meant m) (ranked_try m) try_back c.tries h.tries_known) i;
        debug = (one_back (IsKnownDebug m) (debug_in m) (ranked_debug m) (debug_back m rising) c.debug h.debug_known) i;
      }

-- ---- other numbers

module _ (m n whole : Mentions) (r s : Maps) (rising : AreRising whole) (from_first : AllMapTo m whole r) (from_second : AllMapTo n whole s) where
  pub same_code : (c d : NumberedItem) → HasImages r c → HasImages s d → IsKnownCode m c → IsKnownCode n d → (renumbered_item r c ≡ renumbered_item s d) ↔ (code_in m c ≡ code_in n d)
  same_code c d images images' known known' =
      let mine = code_kept m whole r from_first c images known in
      let theirs = code_kept n whole s from_second d images' known' in (
        λ same. sym mine.1 ∙ ap (code_in whole) same ∙ theirs.1,
        λ same. sym (code_back whole rising (renumbered_item r c) mine.0) ∙ ap (ranked_code whole) (mine.1 ∙ same ∙ sym theirs.1) ∙ code_back whole rising (renumbered_item s d) theirs.0,
      )
