-- Numbers are the ranks of what they mean, so debug programs of two numberings, mapped to a third, are the same there
-- just where they mean the same.
use Rattle.dexdebug.proofs.Common.{◌≡◌, ℕ, ◌<◌, length, map, Option, refl, ap, sym, ◌∙◌, ◌↔◌, All, option_map, Text, Mentions, Maps, AllMapTo, AreRising, IsMappedUse, Operation, AdvancePc, AdvanceLine, StartLocal, StartLocalExtended, EndLocal, RestartLocal, SetPrologueEnd, SetEpilogueBegin, SetFile, Special, NumberedDebug, debug_uses, renumbered_debug, text_at, type_at, debug_in, IsKnownText, IsKnownType, IsKnownOperation, IsKnownDebug}
use Rattle.dexdebug.specs.Meaning.{operation_in}
use Rattle.dexspec.specs.Debug as debugs
use Rattle.dexspec.specs.Spellings.{text_index, type_index}
use Rattle.dexpool.specs.declared.symbols.SymbolKind.TheVariants as kinds
use Rattle.dexpool.proofs.Numbers.{number_ranked, all_back, one_back}
use Rattle.dexdebug.proofs.DebugMeanings.{debug_kept}

-- ---- ranks instead of symbols

module _ (m : Mentions) where
  abbrev ranked_operation : debugs.Operation → Operation
  ranked_operation (debugs.AdvancePc addresses) = AdvancePc addresses
  ranked_operation (debugs.AdvanceLine lines) = AdvanceLine lines
  ranked_operation (debugs.StartLocal register s t) = StartLocal register (option_map (text_index m) s) (option_map (type_index m) t)
  ranked_operation (debugs.StartLocalExtended register s t u) = StartLocalExtended register (option_map (text_index m) s) (option_map (type_index m) t) (option_map (text_index m) u)
  ranked_operation (debugs.EndLocal register) = EndLocal register
  ranked_operation (debugs.RestartLocal register) = RestartLocal register
  ranked_operation debugs.SetPrologueEnd = SetPrologueEnd
  ranked_operation debugs.SetEpilogueBegin = SetEpilogueBegin
  ranked_operation (debugs.SetFile s) = SetFile (option_map (text_index m) s)
  ranked_operation (debugs.Special opcode) = Special opcode

  abbrev pub ranked_debug : debugs.Debug → NumberedDebug
  ranked_debug d = record { line_start = d.line_start; parameter_names = map (option_map (text_index m)) d.parameter_names; operations = map ranked_operation d.operations }

-- ---- the ranks are the numbers

module _ (m : Mentions) (rising : AreRising m) where
  text_back : (i : Option ℕ) → IsKnownText m i → option_map (text_index m) (option_map (text_at m) i) ≡ i
  text_back = one_back (λ n. n < length m.texts) (text_at m) (text_index m) (number_ranked m rising kinds.Text)

  type_back : (i : Option ℕ) → IsKnownType m i → option_map (type_index m) (option_map (type_at m) i) ≡ i
  type_back = one_back (λ n. n < length m.types) (type_at m) (type_index m) (number_ranked m rising kinds.Typ)

  operation_back : (op : Operation) → IsKnownOperation m op → ranked_operation m (operation_in m op) ≡ op
  operation_back (StartLocal register name typ) h = λ i. StartLocal register (text_back name h.name_known i) (type_back typ h.type_known i)
  operation_back (StartLocalExtended register name typ signature) h = λ i. StartLocalExtended register (text_back name h.name_known i) (type_back typ h.type_known i) (text_back signature h.signature_known i)
  operation_back (SetFile name) h = ap SetFile (text_back name h.name_known)
  operation_back _ h = refl

  pub debug_back : (d : NumberedDebug) → IsKnownDebug m d → ranked_debug m (debug_in m d) ≡ d
  debug_back d h =
      let names = all_back (IsKnownText m) (option_map (text_at m)) (option_map (text_index m)) text_back d.parameter_names h.names_known in
      let operations = all_back (IsKnownOperation m) (operation_in m) (ranked_operation m) operation_back d.operations h.operations_known in
      λ i. record { line_start = d.line_start; parameter_names = names i; operations = operations i }

-- ---- other numbers

module _ (m n whole : Mentions) (r s : Maps) (rising : AreRising whole) (from_first : AllMapTo m whole r) (from_second : AllMapTo n whole s) where
  pub same_debug : (d e : NumberedDebug) → All (IsMappedUse r) (debug_uses d) → All (IsMappedUse s) (debug_uses e) → (renumbered_debug r d ≡ renumbered_debug s e) ↔ (debug_in m d ≡ debug_in n e)
  same_debug d e images images' =
      let mine = debug_kept m whole r from_first d images in
      let theirs = debug_kept n whole s from_second e images' in (
        λ same. sym mine.1 ∙ ap (debug_in whole) same ∙ theirs.1,
        λ same. sym (debug_back whole rising (renumbered_debug r d) mine.0) ∙ ap (ranked_debug whole) (mine.1 ∙ same ∙ sym theirs.1) ∙ debug_back whole rising (renumbered_debug s e) theirs.0,
      )
