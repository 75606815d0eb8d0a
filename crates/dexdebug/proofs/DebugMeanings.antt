-- What the numbers in debug programs denote.
use Rattle.dexdebug.proofs.Common.{All-weaker, ◌≡◌, ℕ, ◌+◌, ◌*◌, ◌<◌, ◌≤◌, List, [], ◌∷◌, ◌++◌, length, map, Option, Some, None, refl, ap, sym, ◌∙◌, subst, arith, length-append, ℤ, pos, ◌+ℤ◌, sum_by, All, AllZip, flat_map, IfSome, IsSome, option_map, append-nil, sum_by-le-sum_by, plus_one, uleb128, uleb128p1, Text, Mentions, optional_text, optional_type, operation_symbols, debug_symbols, operands, debug_weight, sum_by-at_most, AreRising, AreMarksOf, Maps, image_of, AllMapTo, HasMark, IsUseOf, IsMappedUse, all_prefix, all_back, all_parts, Operation, AdvancePc, AdvanceLine, StartLocal, StartLocalExtended, EndLocal, RestartLocal, SetPrologueEnd, SetEpilogueBegin, SetFile, Special, NumberedDebug, unindexed_operation, unindexed, operation_weight, numbered_operation_bytes, numbered_debug_bytes, number_uses, operation_uses, debug_uses, HasPlace, image_or_none, renumbered_operation, renumbered_debug, DenotesDebug, IsKnownDebug, IsKnownOperation, IsKnownText, IsKnownType, debug_in, length-map, sum_by-map, name_at, count_of, text_at, type_at}
use Rattle.std.proofs.lemmas.List.Concat.{length-flat_map}
use Rattle.dexspec.specs.Debug as symbolic
use Rattle.dexspec.specs.Spellings.{optional_text_bytes, optional_type_bytes, operation_bytes, debug_bytes}
use Rattle.dexspec.proofs.size.SizeItems.{uleb128-size, sleb128-size}
use Rattle.dexpool.specs.declared.symbols.SymbolKind.{SymbolKind}
use Rattle.dexpool.specs.declared.symbols.SymbolKind.TheVariants as kinds
use Rattle.dexpool.specs.declared.marks.Marks.{Marks}
use Rattle.dexpool.proofs.Numbers.{number_ranked, number_keeps, number_used, some_of, zip-append, all_used, flat_mapped, all_kept, all_marked}
use Rattle.dexdebug.specs.Meaning.{operation_in}
use Rattle.dexdebug.specs.Positions as recorded
use Rattle.dexdebug.proofs.DebugUses.{use_of, name_part, type_part, signature_part}

-- ---- What a debug program weighs, added up operation by operation

-- the weight, by the lists
pub weight_is : (d : NumberedDebug) → debug_weight (unindexed d) ≡ 11 + 5 * length d.parameter_names + sum_by operation_weight d.operations
weight_is d = omega (arith, length-map {A = Option ℕ} {B = Option Text} d.parameter_names (λ i. None), sum_by-map (λ op. 1 + 5 * operands op) unindexed_operation d.operations)

-- ---- the bytes

module _ (m : Mentions) (rising : AreRising m) where
  text_bytes : (i : Option ℕ) → IsKnownText m i → optional_text_bytes m (option_map (text_at m) i) ≡ uleb128p1 i
  text_bytes None h = refl
  text_bytes (Some n) h = ap (λ (k : ℕ). uleb128p1 (Some k)) (number_ranked m rising kinds.Text n h)

  type_bytes : (i : Option ℕ) → IsKnownType m i → optional_type_bytes m (option_map (type_at m) i) ≡ uleb128p1 i
  type_bytes None h = refl
  type_bytes (Some n) h = ap (λ (k : ℕ). uleb128p1 (Some k)) (number_ranked m rising kinds.Typ n h)

  operation_is : (op : Operation) → IsKnownOperation m op → operation_bytes m (operation_in m op) ≡ numbered_operation_bytes op
  operation_is (StartLocal register name typ) h = λ i. 0x03 ∷ (uleb128 register ++ (text_bytes name h.name_known i ++ type_bytes typ h.type_known i))
  operation_is (StartLocalExtended register name typ signature) h =
      λ i. 0x04 ∷ (uleb128 register ++ (text_bytes name h.name_known i ++ (type_bytes typ h.type_known i ++ text_bytes signature h.signature_known i)))
  operation_is (SetFile name) h = ap (λ bs. 0x09 ∷ bs) (text_bytes name h.name_known)
  operation_is _ h = refl

  bytes_in : (d : NumberedDebug) → IsKnownDebug m d → debug_bytes m (debug_in m d) ≡ numbered_debug_bytes d
  unfolding numbered_debug_bytes debug_bytes
  bytes_in d h =
      let names = flat_mapped (IsKnownText m) (optional_text_bytes m) (option_map (text_at m)) uleb128p1 text_bytes d.parameter_names h.names_known in
      let operations = flat_mapped (IsKnownOperation m) (operation_bytes m) (operation_in m) numbered_operation_bytes operation_is d.operations h.operations_known in
      λ i. uleb128 d.line_start ++ (uleb128 (length-map d.parameter_names (option_map (text_at m)) i) ++ (names i ++ (operations i ++ 0x00 ∷ [])))

pub bytes_are : (m : Mentions) (d : NumberedDebug) (x : symbolic.Debug) → AreRising m → DenotesDebug m d x → numbered_debug_bytes d ≡ debug_bytes m x
bytes_are m d x rising h = sym (bytes_in m rising d h.known) ∙ ap (debug_bytes m) h.means

-- ---- how many bytes

index-size : (i : Option ℕ) → length (uleb128p1 i) ≤ 5
index-size i = uleb128-size (plus_one i)

pub operation-size : (op : Operation) → length (numbered_operation_bytes op) ≤ operation_weight op
operation-size (AdvancePc addresses) = omega (arith, uleb128-size addresses)
operation-size (AdvanceLine lines) = omega (arith, sleb128-size lines)
operation-size (StartLocal register name typ) = omega (arith, length-append {A = ℕ}, uleb128-size register, index-size name, index-size typ)
operation-size (StartLocalExtended register name typ signature) = omega (arith, length-append {A = ℕ}, uleb128-size register, index-size name, index-size typ, index-size signature)
operation-size (EndLocal register) = omega (arith, uleb128-size register)
operation-size (RestartLocal register) = omega (arith, uleb128-size register)
operation-size SetPrologueEnd = omega arith
operation-size SetEpilogueBegin = omega arith
operation-size (SetFile name) = omega (arith, index-size name)
operation-size (Special opcode) = omega arith

pub bytes_few : (d : NumberedDebug) → length (numbered_debug_bytes d) ≤ debug_weight (unindexed d)
unfolding numbered_debug_bytes
bytes_few d =
    omega (
      arith,
      weight_is d,
      length-append {A = ℕ},
      uleb128-size d.line_start,
      uleb128-size (length d.parameter_names),
      length-flat_map uleb128p1 d.parameter_names,
      length-flat_map numbered_operation_bytes d.operations,
      (sum_by-at_most (λ i. length (uleb128p1 i)) 5 d.parameter_names index-size),
      (sum_by-le-sum_by (λ op. length (numbered_operation_bytes op)) operation_weight d.operations operation-size),
    )

-- an operation has four operands at most
operation-light : (op : Operation) → operation_weight op ≤ 21
operation-light (AdvancePc addresses) = omega arith
operation-light _ = omega arith

-- no more bytes than five for each name and 21 for each operation
pub bytes_most : (d : NumberedDebug) → length (numbered_debug_bytes d) ≤ 11 + 5 * length d.parameter_names + 21 * length d.operations
bytes_most d = omega (arith, bytes_few d, weight_is d, sum_by-at_most operation_weight 21 d.operations operation-light)

-- ---- weight and positions

operands_are : (m : Mentions) (op : Operation) → operands (unindexed_operation op) ≡ operands (operation_in m op)
operands_are m (AdvancePc addresses) = refl
operands_are m _ = refl

pub weights_are : (m : Mentions) (d : NumberedDebug) (x : symbolic.Debug) → DenotesDebug m d x → debug_weight (unindexed d) ≡ debug_weight x
weights_are m d x h = by ∙ ap debug_weight h.means
  where
    operations : sum_by (λ op. 1 + 5 * operands (unindexed_operation op)) d.operations ≡ sum_by (λ op. 1 + 5 * operands (operation_in m op)) d.operations
    operations = λ i. sum_by (λ op. 1 + 5 * operands_are m op i) d.operations

    by : debug_weight (unindexed d) ≡ debug_weight (debug_in m d)
    by = omega (arith, weight_is d, length-map d.parameter_names (option_map (text_at m)), sum_by-map (λ op. 1 + 5 * operands op) (operation_in m) d.operations, operations)

-- only special operations record positions, and no number is in those
positions_from_are : (m : Mentions) (ops : List Operation) (address : ℕ) (line : ℤ) → recorded.positions_from address line (map unindexed_operation ops) ≡ recorded.positions_from address line (map (operation_in m) ops)
positions_from_are m [] address line = refl
positions_from_are m (AdvancePc addresses ∷ ops) address line = positions_from_are m ops (address + addresses) (line +ℤ pos 0)
positions_from_are m (AdvanceLine lines ∷ ops) address line = positions_from_are m ops (address + 0) (line +ℤ lines)
positions_from_are m (Special opcode ∷ ops) address line =
    let after = address + recorded.address_step (symbolic.Special opcode) in
    let on = line +ℤ recorded.line_step (symbolic.Special opcode) in
    ap (λ ps. (after, on) ∷ ps) (positions_from_are m ops after on)
positions_from_are m (_ ∷ ops) address line = positions_from_are m ops (address + 0) (line +ℤ pos 0)

pub positions_are : (m : Mentions) (d : NumberedDebug) (x : symbolic.Debug) → DenotesDebug m d x → recorded.positions (unindexed d) ≡ recorded.positions x
positions_are m d x h = positions_from_are m d.operations 0 (pos d.line_start) ∙ ap recorded.positions h.means

-- ---- other numbers

module _ (m n : Mentions) (r : Maps) (l : AllMapTo m n r) where
  index_kept : (kind : SymbolKind) (i : Option ℕ) → All (IsMappedUse r) (number_uses kind i) → IfSome (image_or_none r kind i) (λ j. j < count_of kind n) × (option_map (name_at n kind) (image_or_none r kind i) ≡ option_map (name_at m kind) i)
  index_kept kind None all = (tt, refl)
  index_kept kind (Some i) all =
      let image = some_of (image_of r kind i) (use_of (IsMappedUse r) kind (Some i) i all refl) in
      let kept = number_keeps m n r l kind i image.0 image.1 in
      subst (λ o. IfSome o (λ j. j < count_of kind n) × (option_map (name_at n kind) o ≡ Some (name_at m kind i))) (sym image.1) (kept.0, ap Some kept.1)

  operation_kept : (op : Operation) → All (IsMappedUse r) (operation_uses op) → IsKnownOperation n (renumbered_operation r op) × (operation_in n (renumbered_operation r op) ≡ operation_in m op)
  operation_kept (StartLocal register name typ) all =
      let s = index_kept kinds.Text name (name_part (IsMappedUse r) (StartLocal register name typ) all) in
      let t = index_kept kinds.Typ typ (type_part (IsMappedUse r) (StartLocal register name typ) all) in
      (record { name_known = s.0; type_known = t.0; signature_known = tt }, λ i. symbolic.StartLocal register (s.1 i) (t.1 i))
  operation_kept (StartLocalExtended register name typ signature) all =
      let op = StartLocalExtended register name typ signature in
      let s = index_kept kinds.Text name (name_part (IsMappedUse r) op all) in
      let t = index_kept kinds.Typ typ (type_part (IsMappedUse r) op all) in
      let u = index_kept kinds.Text signature (signature_part (IsMappedUse r) op all) in
      (record { name_known = s.0; type_known = t.0; signature_known = u.0 }, λ i. symbolic.StartLocalExtended register (s.1 i) (t.1 i) (u.1 i))
  operation_kept (SetFile name) all = let s = index_kept kinds.Text name (name_part (IsMappedUse r) (SetFile name) all) in (record { name_known = s.0; type_known = tt; signature_known = tt }, ap symbolic.SetFile s.1)
  operation_kept (AdvancePc addresses) all = (record { name_known = tt; type_known = tt; signature_known = tt }, refl)
  operation_kept _ all = (record { name_known = tt; type_known = tt; signature_known = tt }, refl)

  pub debug_kept : (d : NumberedDebug) → All (IsMappedUse r) (debug_uses d) → IsKnownDebug n (renumbered_debug r d) × (debug_in n (renumbered_debug r d) ≡ debug_in m d)
  debug_kept d all =
      let names = all_kept (IsKnownText n) (option_map (text_at n)) (λ i. All (IsMappedUse r) (number_uses kinds.Text i)) (image_or_none r kinds.Text) (option_map (text_at m)) (index_kept kinds.Text) d.parameter_names
      (all_parts (IsMappedUse r) (number_uses kinds.Text) d.parameter_names (all_prefix (IsMappedUse r) (flat_map (number_uses kinds.Text) d.parameter_names) (flat_map operation_uses d.operations) all)) in
      let operations = all_kept (IsKnownOperation n) (operation_in n) (λ op. All (IsMappedUse r) (operation_uses op)) (renumbered_operation r) (operation_in m) operation_kept d.operations
      (all_parts (IsMappedUse r) operation_uses d.operations (all_back (IsMappedUse r) (flat_map (number_uses kinds.Text) d.parameter_names) (flat_map operation_uses d.operations) all)) in (
        record { names_known = names.0; operations_known = operations.0 },
        λ i. record { line_start = d.line_start; parameter_names = names.1 i; operations = operations.1 i },
      )

pub renumbered_denotes : (m n : Mentions) (r : Maps) (d : NumberedDebug) (x : symbolic.Debug) → AllMapTo m n r → All (IsMappedUse r) (debug_uses d) → DenotesDebug m d x → DenotesDebug n (renumbered_debug r d) x
renumbered_denotes m n r d x l all h = let kept = debug_kept m n r l d all in record { known = kept.0; means = kept.1 ∙ h.means }

pub images_of_places : (r : Maps) (d : NumberedDebug) → All (HasPlace r) (debug_uses d) → All (IsMappedUse r) (debug_uses d)
images_of_places r d h = All-weaker (HasPlace r) (IsMappedUse r) (λ u p. subst IsSome (sym p.1) refl) (debug_uses d) h

-- ---- the symbols that occur

module _ (m : Mentions) where
  text_used : (i : Option ℕ) → IsKnownText m i → AllZip (IsUseOf m) (number_uses kinds.Text i) (optional_text (option_map (text_at m) i))
  text_used None h = tt
  text_used (Some i) h = (number_used m kinds.Text i h, tt)

  type_used : (i : Option ℕ) → IsKnownType m i → AllZip (IsUseOf m) (number_uses kinds.Typ i) (optional_type (option_map (type_at m) i))
  type_used None h = tt
  type_used (Some i) h = (number_used m kinds.Typ i h, tt)

  operation_used : (op : Operation) → IsKnownOperation m op → AllZip (IsUseOf m) (operation_uses op) (operation_symbols (operation_in m op))
  operation_used (StartLocal register i j) h =
      zip-append (IsUseOf m) (number_uses kinds.Text i) (optional_text (option_map (text_at m) i)) (number_uses kinds.Typ j ++ []) (optional_type (option_map (type_at m) j)) (text_used i h.name_known)
      (subst (λ us. AllZip (IsUseOf m) us (optional_type (option_map (type_at m) j))) (sym (append-nil (number_uses kinds.Typ j))) (type_used j h.type_known))
  operation_used (StartLocalExtended register i j k) h =
      zip-append (IsUseOf m) (number_uses kinds.Text i) (optional_text (option_map (text_at m) i)) (number_uses kinds.Typ j ++ number_uses kinds.Text k) (optional_type (option_map (type_at m) j) ++ optional_text (option_map (text_at m) k)) (text_used i h.name_known)
      (zip-append (IsUseOf m) (number_uses kinds.Typ j) (optional_type (option_map (type_at m) j)) (number_uses kinds.Text k) (optional_text (option_map (text_at m) k)) (type_used j h.type_known) (text_used k h.signature_known))
  operation_used (SetFile i) h = subst (λ us. AllZip (IsUseOf m) us (optional_text (option_map (text_at m) i))) (sym (append-nil (number_uses kinds.Text i))) (text_used i h.name_known)
  operation_used _ h = tt

  pub uses_encoded : (d : NumberedDebug) (x : symbolic.Debug) → DenotesDebug m d x → AllZip (IsUseOf m) (debug_uses d) (debug_symbols x)
  uses_encoded d x h =
      subst (λ y. AllZip (IsUseOf m) (debug_uses d) (debug_symbols y)) h.means (zip-append (IsUseOf m) (flat_map (number_uses kinds.Text) d.parameter_names) (flat_map optional_text (map (option_map (text_at m)) d.parameter_names)) (flat_map operation_uses d.operations) (flat_map operation_symbols (map (operation_in m) d.operations))
      (all_used (IsKnownText m) (option_map (text_at m)) m (number_uses kinds.Text) optional_text text_used d.parameter_names h.known.names_known)
      (all_used (IsKnownOperation m) (operation_in m) m operation_uses operation_symbols operation_used d.operations h.known.operations_known))

pub marks_there : (m : Mentions) (marks : Marks) (d : NumberedDebug) (x : symbolic.Debug) → AreMarksOf m marks → DenotesDebug m d x → All (HasMark marks) (debug_uses d)
marks_there m marks d x are h = all_marked m marks (debug_uses d) (debug_symbols x) are (uses_encoded m d x h)
