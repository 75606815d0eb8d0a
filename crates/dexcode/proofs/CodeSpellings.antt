-- Code items of numbers: their bytes and their weight are those of the code that they denote.
use Rattle.dexcode.proofs.Common.{◌≡◌, ℕ, ◌+◌, ◌%◌, ◌<◌, ◌==◌, if◌then◌else◌, List, [], ◌∷◌, ◌++◌, length, map, option_to_list, refl, ap, sym, ◌∙◌, arith, append_assoc, pos, ◌-ℤ◌, option_map_or, All, flat_map, All-head, All-tail, length-map, ushort, uint, uleb128, sleb128, Mentions, tries_weight, code_weight, AreRising, NumberedPiece, Denote, numbered_units, numbered_bytes, Catch, NumberedHandler, NumberedTry, NumberedItem, catch_meant, handler_meant, try_meant, same_handler, handlers_of, DenotesCode, code_in, piece_in, All-map, numbered_catch_bytes, handler_count, numbered_handler_bytes, numbered_handler_off, numbered_try_bytes, numbered_list_bytes, numbered_table_bytes, numbered_tries_bytes, unit_count, numbered_item_bytes, numbered_code_bytes, numbered_tries_weight, numbered_code_weight}
use Rattle.dexspec.specs.Code as symbolic
use Rattle.dexspec.specs.Pieces as pieces
use Rattle.dexspec.specs.Spellings as spelled
use Rattle.dexspec.proofs.size.SizeCode.{length-units}
use Rattle.dexcode.proofs.TryRows.{IsInRange, same_meant, handlers_meant, weight_meant}
use Rattle.dexcode.proofs.Images.{all_back_map, all_distinct}
use Rattle.dexpool.proofs.Numbers.{number_ranked, flat_mapped}
use Rattle.dexpool.specs.declared.symbols.SymbolKind.TheVariants as kinds

-- ---- bytes

module _ (m : Mentions) (rising : AreRising m) where
  catch_bytes_are : (c : Catch) → c.typ < length m.types → spelled.catch_bytes m (catch_meant m c) ≡ numbered_catch_bytes c
  catch_bytes_are c lt = ap (λ (n : ℕ). uleb128 n ++ uleb128 c.addr) (number_ranked m rising kinds.Typ c.typ lt)

  catches_bytes_are : (cs : List Catch) → All (λ c. c.typ < length m.types) cs → flat_map (spelled.catch_bytes m) (map (catch_meant m) cs) ≡ flat_map numbered_catch_bytes cs
  catches_bytes_are = flat_mapped (λ c. c.typ < length m.types) (spelled.catch_bytes m) (catch_meant m) numbered_catch_bytes catch_bytes_are

  count_is : (h : NumberedHandler) → spelled.handler_count (handler_meant m h) ≡ handler_count h
  count_is h = ap (λ (n : ℕ). option_map_or (λ address. pos 0 -ℤ pos n) h.catch_all_addr (pos n)) (length-map h.catches (catch_meant m))

  handler_bytes_are : (h : NumberedHandler) → IsInRange m h → spelled.handler_bytes m (handler_meant m h) ≡ numbered_handler_bytes h
  handler_bytes_are h all = λ i. sleb128 ((count_is h) i) ++ ((catches_bytes_are h.catches all) i ++ flat_map uleb128 (option_to_list h.catch_all_addr))

  handlers_bytes_are : (hs : List NumberedHandler) → All (IsInRange m) hs → flat_map (spelled.handler_bytes m) (map (handler_meant m) hs) ≡ flat_map numbered_handler_bytes hs
  handlers_bytes_are = flat_mapped (IsInRange m) (spelled.handler_bytes m) (handler_meant m) numbered_handler_bytes handler_bytes_are

  off_is : (from : ℕ) (hs : List NumberedHandler) (h : NumberedHandler) → All (IsInRange m) hs → IsInRange m h → spelled.handler_off m from (map (handler_meant m) hs) (handler_meant m h) ≡ numbered_handler_off from hs h
  off_is from [] h all own = refl
  off_is from (k ∷ ks) h all own =
      let range = All-head (IsInRange m) k ks all in
      let step : spelled.handler_off m (from + length (spelled.handler_bytes m (handler_meant m k))) (map (handler_meant m) ks) (handler_meant m h) ≡ spelled.handler_off m (from + length (numbered_handler_bytes k)) (map (handler_meant m) ks) (handler_meant m h) =
      ap (λ (bs : List ℕ). spelled.handler_off m (from + length bs) (map (handler_meant m) ks) (handler_meant m h)) (handler_bytes_are k range) in
      λ i. if (same_meant m rising k h range own) i then from else (step ∙ (off_is (from + length (numbered_handler_bytes k)) ks h (All-tail (IsInRange m) k ks all) own)) i

  list_bytes_are : (hs : List NumberedHandler) → All (IsInRange m) hs → spelled.handler_list_bytes m (map (handler_meant m) hs) ≡ numbered_list_bytes hs
  list_bytes_are hs all = λ i. uleb128 ((length-map hs (handler_meant m)) i) ++ (handlers_bytes_are hs all) i

  try_bytes_are : (hs : List NumberedHandler) (t : NumberedTry) → All (IsInRange m) hs → IsInRange m t.handler → spelled.try_bytes m (map (handler_meant m) hs) (try_meant m t) ≡ numbered_try_bytes hs t
  try_bytes_are hs t all own =
      let off = ap (λ (n : ℕ). spelled.handler_off m (length (uleb128 n)) (map (handler_meant m) hs) (handler_meant m t.handler)) (length-map hs (handler_meant m)) ∙ off_is (length (uleb128 (length hs))) hs t.handler all own in
      ap (λ (n : ℕ). uint t.start_addr ++ (ushort t.insn_count ++ ushort n)) off

  all_try_bytes_are : (hs : List NumberedHandler) (ts : List NumberedTry) → All (IsInRange m) hs → All (IsInRange m) (map (λ t. t.handler) ts) → flat_map (spelled.try_bytes m (map (handler_meant m) hs)) (map (try_meant m) ts) ≡ flat_map (numbered_try_bytes hs) ts
  all_try_bytes_are hs ts all own =
      flat_mapped (λ t. IsInRange m t.handler) (spelled.try_bytes m (map (handler_meant m) hs)) (try_meant m) (numbered_try_bytes hs) (λ t own. try_bytes_are hs t all own) ts (all_back_map (IsInRange m) (λ (t : NumberedTry). t.handler) ts own)

  handlers_in_range : (ts : List NumberedTry) → All (IsInRange m) (map (λ t. t.handler) ts) → All (IsInRange m) (handlers_of ts)
  handlers_in_range ts all = all_distinct (IsInRange m) same_handler (map (λ (t : NumberedTry). t.handler) ts) all

  table_bytes_are : (ts : List NumberedTry) → All (IsInRange m) (map (λ t. t.handler) ts)
      → flat_map (spelled.try_bytes m (symbolic.handlers_of (map (try_meant m) ts))) (map (try_meant m) ts) ++ spelled.handler_list_bytes m (symbolic.handlers_of (map (try_meant m) ts)) ≡ numbered_table_bytes (handlers_of ts) ts
  table_bytes_are ts all =
      let hs = handlers_of ts in
      let range = handlers_in_range ts all in
      ap (λ gs. flat_map (spelled.try_bytes m gs) (map (try_meant m) ts) ++ spelled.handler_list_bytes m gs) (handlers_meant m rising ts all) ∙ (λ i. (all_try_bytes_are hs ts range all) i ++ (list_bytes_are hs range) i)

  pub tries_bytes_are : (count : ℕ) (ts : List NumberedTry) → All (IsInRange m) (map (λ t. t.handler) ts) → spelled.tries_bytes m count (map (try_meant m) ts) ≡ numbered_tries_bytes count ts
  tries_bytes_are count [] all = refl
  tries_bytes_are count (t ∷ ts) all = ap (λ (bs : List ℕ). (if count % 2 == 1 then ushort 0 else []) ++ bs) (table_bytes_are (t ∷ ts) all)

  pub tries_weigh : (ts : List NumberedTry) → All (IsInRange m) (map (λ t. t.handler) ts) → tries_weight (map (try_meant m) ts) ≡ numbered_tries_weight ts
  tries_weigh [] all = refl
  tries_weigh (t ∷ ts) all = omega (arith, ap symbolic.handlers_weight (handlers_meant m rising (t ∷ ts) all) ∙ weight_meant m (handlers_of (t ∷ ts)), length-map ts (try_meant m))

-- ---- the whole

abbrev pub UnitsLaw : Type 0
UnitsLaw = (m : Mentions) (ps : List NumberedPiece) (qs : List pieces.Piece) → AreRising m → Denote m ps qs → flat_map numbered_units ps ≡ flat_map (spelled.piece_units m) qs

pub code_bytes_are : UnitsLaw → (m : Mentions) (debug_off : ℕ) (c : NumberedItem) (x : symbolic.Code) → AreRising m → DenotesCode m c x → numbered_code_bytes debug_off c ≡ spelled.code_bytes m debug_off x
unfolding numbered_item_bytes numbered_bytes spelled.code_bytes
code_bytes_are law m debug_off c x rising h =
    let units = law m c.body.pieces (map (piece_in m) c.body.pieces) rising (record { known = h.known.pieces_known; mean = refl }) in
    let all = All-map (IsInRange m) (λ (t : NumberedTry). t.handler) c.tries h.known.tries_known in
    let count : length c.tries ≡ length (map (try_meant m) c.tries) = sym (length-map c.tries (try_meant m)) in
    let tries : numbered_tries_bytes (unit_count c.body) c.tries ≡ spelled.tries_bytes m (length (flat_map (spelled.piece_units m) (map (piece_in m) c.body.pieces))) (map (try_meant m) c.tries) =
    sym (tries_bytes_are m rising (unit_count c.body) c.tries all) ∙ (λ i. spelled.tries_bytes m (length (units i)) (map (try_meant m) c.tries)) in
    joined (ushort c.body.registers) (ushort c.body.ins) (ushort c.body.outs) (ushort (length c.tries)) (uint debug_off) (uint (unit_count c.body)) (flat_map ushort (flat_map numbered_units c.body.pieces) ++ numbered_tries_bytes (unit_count c.body) c.tries)
    ∙ (λ i. ushort c.body.registers ++ (ushort c.body.ins ++ (ushort c.body.outs ++ (ushort (count i) ++ (uint debug_off ++ (uint (length (units i)) ++ (flat_map ushort (units i) ++ tries i)))))))
    ∙ ap (spelled.code_bytes m debug_off) h.means
  where
    joined : (a b c d e f g : List ℕ) → (a ++ (b ++ (c ++ (d ++ (e ++ f))))) ++ g ≡ a ++ (b ++ (c ++ (d ++ (e ++ (f ++ g)))))
    joined a b c d e f g =
        append_assoc a (b ++ (c ++ (d ++ (e ++ f)))) g ∙ ap (λ (xs : List ℕ). a ++ xs) (append_assoc b (c ++ (d ++ (e ++ f))) g) ∙ ap (λ (xs : List ℕ). a ++ (b ++ xs)) (append_assoc c (d ++ (e ++ f)) g)
        ∙ ap (λ (xs : List ℕ). a ++ (b ++ (c ++ xs))) (append_assoc d (e ++ f) g) ∙ ap (λ (xs : List ℕ). a ++ (b ++ (c ++ (d ++ xs)))) (append_assoc e f g)

pub code_weighs : UnitsLaw → (m : Mentions) (c : NumberedItem) (x : symbolic.Code) → AreRising m → DenotesCode m c x → numbered_code_weight c ≡ code_weight x
code_weighs law m c x rising h = by ∙ ap code_weight h.means
  where
    by : numbered_code_weight c ≡ code_weight (code_in m c)
    by = omega (
      arith,
      ap length (law m c.body.pieces (map (piece_in m) c.body.pieces) rising (record { known = h.known.pieces_known; mean = refl })) ∙ length-units m (map (piece_in m) c.body.pieces),
      tries_weigh m rising c.tries (All-map (IsInRange m) (λ (t : NumberedTry). t.handler) c.tries h.known.tries_known),
    )
