-- A code item is at the offset of its canonical bytes, if each symbol is in the row of its index.
use Rattle.dexspec.proofs.Common.{◌≡◌, ◌≢◌, ℕ, ◌+◌, ◌*◌, ◌%◌, ◌<◌, ◌≤◌, ◌^◌, ◌&&◌, List, [], ◌∷◌, ◌++◌, length, nat_abs, All, Option, Some, None, refl, sym, ap, ◌∙◌, subst, arith, inl, inr, length-append, if◌then◌else◌, ◌==◌, pos, IfSome, Contains, flat_map, int_eq, signed_Decides, not, slice_index, map, option_to_list, AllZip, cases_lt, cond-true, cond-false, ne_eqb, Decides-eqb, append_assoc, flat_map-append, All-contains, Contains-append_left, All-head, All-tail, Debug, Code, Mentions}
use Rattle.dexspec.specs.{SymbolRow, OrNone, SomeAt, Sequence, ushort, uint, uint_at, ushort_at, ushorts_at, BytesAt, uleb128, AreUnits, data_off, Cut, IsCode, is_payload_ident, Piece, units_of, DenotesPiece, cut_units, DebugAt, Catch, Handler, Try, IsStart, AreApart, same_handler, handlers_of, handlers_weight, code_units, RegistersAt, HandlerAt, TryAt, TryItemsAt, TriesAt, CodeAt, piece_symbols, handler_symbols, debug_symbols, code_symbols, piece_units, handler_bytes, handler_off, try_bytes, handler_list_bytes, tries_bytes, code_bytes, IsHandlerOf, IsTryOf, IsCodeItem}
use Rattle.dexspec.specs.internal.IndexPlaces.{IndexFits}
use Rattle.dexspec.proofs.lists.{and_first, Contains-flat_map, list_any-source, map_source, distinct_source, distinct_has}
use Rattle.dexspec.proofs.merge.Depths.{Contains-map}
use Rattle.dexspec.proofs.written.PlacedBytes.{is_at_within, is_at, length_rows}
use Rattle.dexspec.proofs.numbers.ByteNumbers.{length-ushort, length-uint, ushort_at-encodes, uint_at-encodes}
use Rattle.dexspec.proofs.wellformed.FormedRows.{all_from}
use Rattle.dexspec.proofs.size.SizeCode.{handler_list_bytes-size, handler_off-size}
use Rattle.dexspec.proofs.written.NumbersWritten.{prefix_is_at, suffix_is_at, uleb128_written, AreInRows, prefix_in_rows, back_in_rows}
use Rattle.dexspec.proofs.written.DebugWritten.{sequence_of}
use Rattle.dexspec.proofs.written.HandlersWritten.{handler_written}
use Rattle.dexspec.proofs.written.HandlerPlaces.{handler_decides, handler_place, handlers_few, catches_few}
use Rattle.dexspec.proofs.wellformed.FilledCode.{FilledCode, filled_code, filled_units}

-- units that were written are read
units_read : (b : List ℕ) (o : ℕ) (us : List ℕ) → AreUnits us → BytesAt b o (flat_map ushort us) → ushorts_at b o (length us) ≡ us
units_read b o [] are h = refl
units_read b o (u ∷ us) are h =
    let unit = λ (v : ℕ). v < 65536 in
    let rest = flat_map ushort us in
    let first : ushort_at b o ≡ u = ushort_at-encodes (All-head unit u us are) (prefix_is_at (ushort u) rest h) in
    let others : ushorts_at b (o + 2) (length us) ≡ us = units_read b (o + 2) us (All-tail unit u us are) (is_at (omega (arith, length-ushort u)) (suffix_is_at (ushort u) rest h)) in
    λ i. first i ∷ others i

-- the offset of a debug program, if there is one, has 32 bits
debug_small : (b : List ℕ) (o : ℕ) (d : Option Debug) → length b < 2 ^ 32 → OrNone (SomeAt DebugAt) None b o d → o < 2 ^ 32
debug_small b o d short (inl h) = omega (arith, h.0)
debug_small b o None short (inr h) = absurd h.1
debug_small b o (Some d) short (inr h) = omega (arith, is_at_within h.1.end, short)

-- ---- handlers

module _ (us vs : List ℕ) (cuts : List Cut) (starts : (a : ℕ) → IsStart us cuts a → IsStart vs cuts a) where
  -- an optional address
  optional_start : (a : Option ℕ) → IfSome a (IsStart us cuts) → IfSome a (IsStart vs cuts)
  optional_start None h = tt
  optional_start (Some a) h = starts a h

  -- a handler of the units without indices is one of those with them
  handler_still : (h : Handler) → IsHandlerOf us cuts h → IsHandlerOf vs cuts h
  handler_still h is = record {
    catches = all_from (λ (c : Catch). IsStart vs cuts c.address) h.catches (λ c l. starts c.address (All-contains (λ (d : Catch). IsStart us cuts d.address) h.catches c is.catches l));
    catch_all = optional_start h.catch_all is.catch_all;
    some = is.some;
  }

-- a start is within the units
start_within : (vs : List ℕ) (cuts : List Cut) (a : ℕ) → ((c : Cut) → Contains cuts c → c.unit < length vs) → IsStart vs cuts a → a < length vs
start_within vs cuts a within s =
    let w = list_any-source (λ (c : Cut). int_eq (pos c.unit) (pos a) && not (is_payload_ident (slice_index vs c.unit))) cuts s in
    let at : pos w.0.unit ≡ pos a = (signed_Decides (pos w.0.unit) (pos a)).0 (and_first (int_eq (pos w.0.unit) (pos a)) (not (is_payload_ident (slice_index vs w.0.unit))) w.2) in
    let place : w.0.unit ≡ a = ap nat_abs at in
    omega (arith, place, within w.0 w.1)

-- an optional address is within the units
optional_within : (vs : List ℕ) (cuts : List Cut) (a : Option ℕ) → length vs < 2 ^ 32 → ((c : Cut) → Contains cuts c → c.unit < length vs) → IfSome a (IsStart vs cuts) → IfSome a (λ p. p < 2 ^ 32)
optional_within vs cuts None short within s = tt
optional_within vs cuts (Some a) short within s = omega (arith, start_within vs cuts a within s, short)

-- ---- tries

module _ (b : List ℕ) (m : Mentions) (vs : List ℕ) (cuts : List Cut) (few_types : length m.types ≤ 65536) (short : length vs < 2 ^ 32) (within : (c : Cut) → Contains cuts c → c.unit < length vs) where
  -- handlers are at the offset of their bytes
  handlers_written : (o : ℕ) (hs : List Handler) → ((h : Handler) → Contains hs h → IsHandlerOf vs cuts h × (length h.catches < 2 ^ 31) × AreInRows b m (handler_symbols h)) → BytesAt b o (flat_map (handler_bytes m) hs)
      → Sequence (HandlerAt vs cuts) b o hs (length (flat_map (handler_bytes m) hs))
  handlers_written o hs are h =
      sequence_of (HandlerAt vs cuts) (handler_bytes m) b hs
      (λ p k c s.
      let w = are k c in
      handler_written vs cuts b m p k w.0 w.1
      (all_from (λ (x : Catch). x.address < 2 ^ 32) k.catches (λ x l. omega (arith, start_within vs cuts x.address within (All-contains (λ (d : Catch). IsStart vs cuts d.address) k.catches x w.0.catches l), short)))
      (optional_within vs cuts k.catch_all short within w.0.catch_all) w.2 s) o h

  -- a try is at the offset of its bytes
  try_written : (list : ℕ) (hs : List Handler) → handlers_weight hs ≤ 65535
      → ((before after : List Handler) (h : Handler) → hs ≡ before ++ h ∷ after → Sequence (HandlerAt vs cuts) b (list + length (uleb128 (length hs))) before (length (flat_map (handler_bytes m) before)))
      → (o : ℕ) (t : Try) → IsTryOf vs cuts t → Contains hs t.handler → BytesAt b o (try_bytes m hs t) → TryAt vs cuts list (length (uleb128 (length hs))) hs b o t (length (try_bytes m hs t))
  try_written list hs light front o t is c h =
      let size = length (uleb128 (length hs)) in
      let off = handler_off m size hs t.handler in
      let x = uint t.start in
      let y = ushort t.count in
      let z = ushort off in
      let small : off < 2 ^ 16 = omega (arith, handler_off-size m hs t.handler, handler_list_bytes-size m few_types hs, light) in
      let following : BytesAt b (o + 4) (y ++ z) = is_at (omega (arith, length-uint t.start)) (suffix_is_at x (y ++ z) h) in
      let last : BytesAt b (o + 6) z = is_at (omega (arith, length-ushort t.count)) (suffix_is_at y z following) in
      let off_is : ushort_at b (o + 6) ≡ off = ushort_at-encodes small last in
      let place = handler_place m size hs t.handler c in
      record {
        start = uint_at-encodes (omega (arith, is.within, short)) (prefix_is_at x (y ++ z) h);
        count = ushort_at-encodes is.count (prefix_is_at y z following);
        some = is.some;
        within = is.within;
        handler = record {
          before = place.before;
          after = place.after;
          before_size = length (flat_map (handler_bytes m) place.before);
          parts = place.parts;
          encodes = front place.before place.after t.handler place.parts;
          place = off_is ∙ place.place;
        };
        size = omega (arith, length-append x (y ++ z), length-append y z, length-uint t.start, length-ushort t.count, length-ushort off);
      }

  -- tries and the handlers that they name
  try_items_written : (o count : ℕ) (ts : List Try) → All (IsTryOf vs cuts) ts → AreApart ts → handlers_weight (handlers_of ts) ≤ 65535 → AreInRows b m (flat_map handler_symbols (handlers_of ts)) → count ≡ length ts
      → BytesAt b o (flat_map (try_bytes m (handlers_of ts)) ts ++ handler_list_bytes m (handlers_of ts)) → TryItemsAt vs cuts b o count ts
  try_items_written o count ts are apart light rows e h =
      let hs = handlers_of ts in
      let head = uleb128 (length hs) in
      let body = flat_map (handler_bytes m) hs in
      let items = flat_map (try_bytes m hs) ts in
      let eight : (t : Try) → length (try_bytes m hs t) ≡ 8 = λ t.
      let off = handler_off m (length head) hs t.handler in
      omega (arith, length-append (uint t.start) (ushort t.count ++ ushort off), length-append (ushort t.count) (ushort off), length-uint t.start, length-ushort t.count, length-ushort off) in
      let size : length items ≡ 8 * count = omega (arith, length_rows (try_bytes m hs) 8 eight ts, e) in
      let following : BytesAt b (o + 8 * count) (head ++ body) = is_at (omega (arith, size)) (suffix_is_at items (head ++ body) h) in
      let list = suffix_is_at head body following in
      let try_of = λ (t : Try) (c : Contains ts t). All-contains (IsTryOf vs cuts) ts t are c in
      let named : (k : Handler) → Contains hs k → IsHandlerOf vs cuts k = λ k c.
      let w = map_source (λ (t : Try). t.handler) ts k (distinct_source same_handler (map (λ (t : Try). t.handler) ts) k c) in
      subst (IsHandlerOf vs cuts) w.2 (try_of w.0 w.1).handler in
      let each : (k : Handler) → Contains hs k → IsHandlerOf vs cuts k × (length k.catches < 2 ^ 31) × AreInRows b m (handler_symbols k) =
      λ k c. (named k c, omega (arith, catches_few hs k c, light), λ t l. rows t (Contains-flat_map handler_symbols hs k t c l)) in
      let front : (before after : List Handler) (k : Handler) → hs ≡ before ++ k ∷ after → Sequence (HandlerAt vs cuts) b (o + 8 * count + length head) before (length (flat_map (handler_bytes m) before)) = λ before after k parts.
      let cut : body ≡ flat_map (handler_bytes m) before ++ flat_map (handler_bytes m) (k ∷ after) = ap (flat_map (handler_bytes m)) parts ∙ flat_map-append (handler_bytes m) before (k ∷ after) in
      handlers_written (o + 8 * count + length head) before (λ x c. each x (subst (λ (l : List Handler). Contains l x) (sym parts) (Contains-append_left before (k ∷ after) x c)))
      (prefix_is_at (flat_map (handler_bytes m) before) (flat_map (handler_bytes m) (k ∷ after)) (subst (BytesAt b (o + 8 * count + length head)) cut list)) in
      record {
        many = sym e;
        handlers = hs;
        count_size = length head;
        handlers_size = length body;
        list_count = uleb128_written b (o + 8 * count) (length hs) (omega (arith, handlers_few hs, light)) (prefix_is_at head body following);
        list = handlers_written (o + 8 * count + length head) hs each list;
        items =
            subst (λ (n : ℕ). Sequence (TryAt vs cuts (o + 8 * count) (length head) hs) b o ts n) size
            (sequence_of (TryAt vs cuts (o + 8 * count) (length head) hs) (try_bytes m hs) b ts
            (λ p t c s. try_written (o + 8 * count) hs light front p t (try_of t c) (distinct_has same_handler (λ x y. (handler_decides x y).0) (map (λ (u : Try). u.handler) ts) t.handler (Contains-map (λ (u : Try). u.handler) ts t c)) s) o
            (prefix_is_at items (head ++ body) h));
        apart = apart;
        few = light;
      }

-- ---- the whole

-- the fixed part of a code item is read
record CodeRead (b : List ℕ) (o debug_off : ℕ) (vs : List ℕ) (c : Code) (tail : List ℕ) : Type 0 where
  registers : RegistersAt b o c.registers c.ins c.outs
  tries : ushort_at b (o + 6) ≡ length c.tries
  debug : uint_at b (o + 8) ≡ debug_off
  count : uint_at b (o + 12) ≡ length vs
  units : code_units b o ≡ vs
  within : o + (16 + 2 * length vs) ≤ length b
  following : BytesAt b (o + 16 + 2 * length vs) tail

-- units have two bytes each
units_size : (vs : List ℕ) → length (flat_map ushort vs) ≡ 2 * length vs
units_size vs = length_rows ushort 2 length-ushort vs

code_read : (b : List ℕ) (m : Mentions) (o debug_off : ℕ) (c : Code) → IsCodeItem c → AreUnits (flat_map (piece_units m) c.pieces) → length (flat_map (piece_units m) c.pieces) < 2 ^ 32 → debug_off < 2 ^ 32 → BytesAt b o (code_bytes m debug_off c)
    → CodeRead b o debug_off (flat_map (piece_units m) c.pieces) c (tries_bytes m (length (flat_map (piece_units m) c.pieces)) c.tries)
unfolding code_bytes
code_read b m o debug_off c is units short small h =
    let vs = flat_map (piece_units m) c.pieces in
    let tries = tries_bytes m (length vs) c.tries in
    let n0 = ushort c.registers in
    let n1 = ushort c.ins in
    let n2 = ushort c.outs in
    let n3 = ushort (length c.tries) in
    let n4 = uint debug_off in
    let n5 = uint (length vs) in
    let x = flat_map ushort vs in
    let r6 = x ++ tries in
    let r5 = n5 ++ r6 in
    let r4 = n4 ++ r5 in
    let r3 = n3 ++ r4 in
    let r2 = n2 ++ r3 in
    let r1 = n1 ++ r2 in
    let h1 : BytesAt b (o + 2) r1 = is_at (omega (arith, length-ushort c.registers)) (suffix_is_at n0 r1 h) in
    let h2 : BytesAt b (o + 4) r2 = is_at (omega (arith, length-ushort c.ins)) (suffix_is_at n1 r2 h1) in
    let h3 : BytesAt b (o + 6) r3 = is_at (omega (arith, length-ushort c.outs)) (suffix_is_at n2 r3 h2) in
    let h4 : BytesAt b (o + 8) r4 = is_at (omega (arith, length-ushort (length c.tries))) (suffix_is_at n3 r4 h3) in
    let h5 : BytesAt b (o + 12) r5 = is_at (omega (arith, length-uint debug_off)) (suffix_is_at n4 r5 h4) in
    let h6 : BytesAt b (o + 16) r6 = is_at (omega (arith, length-uint (length vs))) (suffix_is_at n5 r6 h5) in
    let count : uint_at b (o + 12) ≡ length vs = uint_at-encodes short (prefix_is_at n5 r6 h5) in
    let sized : length (n5 ++ x) ≡ 4 + 2 * length vs = omega (arith, length-append n5 x, length-uint (length vs), units_size vs) in
    let both : BytesAt b (o + 12) (n5 ++ x) = prefix_is_at (n5 ++ x) tries (subst (BytesAt b (o + 12)) (sym (append_assoc n5 x tries)) h5) in
    record {
      registers = record {
        registers_size = ushort_at-encodes is.registers (prefix_is_at n0 r1 h);
        ins_size = ushort_at-encodes is.ins (prefix_is_at n1 r2 h1);
        outs_size = ushort_at-encodes is.outs (prefix_is_at n2 r3 h2);
      };
      tries = ushort_at-encodes is.many (prefix_is_at n3 r4 h3);
      debug = uint_at-encodes small (prefix_is_at n4 r5 h4);
      count = count;
      units = ap (ushorts_at b (o + 16)) count ∙ units_read b (o + 16) vs units (prefix_is_at x tries h6);
      within = omega (arith, is_at_within both, sized);
      following = is_at (omega (arith, units_size vs)) (suffix_is_at x tries h6);
    }

-- the tries of a code item whose count is not 0, after a gap of one ushort or none
tries_by : (b : List ℕ) (o n : ℕ) (cuts : List Cut) (ts : List Try) (body : List ℕ) → uint_at b (o + 12) ≡ n → ushort_at b (o + 6) ≢ 0 → BytesAt b (o + 16 + 2 * n) ((if n % 2 == 1 then ushort 0 else []) ++ body)
    → ((p : ℕ) → BytesAt b p body → TryItemsAt (code_units b o) cuts b p (ushort_at b (o + 6)) ts) → TriesAt b o cuts ts
tries_by b o n cuts ts body e some h items =
    elim (cases_lt (n % 2) 1) [
      | inl even ↦
          let none : (if n % 2 == 1 then ushort 0 else []) ≡ [] = cond-false (n % 2 == 1) (ushort 0) [] (ne_eqb (n % 2) 1 (λ is. omega (arith, is, even))) in
          let encodes : BytesAt b (o + 16 + 2 * uint_at b (o + 12)) body = is_at (omega (arith, e)) (subst (λ (gap : List ℕ). BytesAt b (o + 16 + 2 * n) (gap ++ body)) none h) in
          inr (some, inl (omega (arith, e, even), items (o + 16 + 2 * uint_at b (o + 12)) encodes))
      | inr odd ↦
          let is_one : n % 2 ≡ 1 = omega (arith, odd) in
          let one : (if n % 2 == 1 then ushort 0 else []) ≡ ushort 0 = cond-true (n % 2 == 1) (ushort 0) [] ((Decides-eqb (n % 2) 1).1 is_one) in
          let gap : BytesAt b (o + 16 + 2 * n) (ushort 0 ++ body) = subst (λ (x : List ℕ). BytesAt b (o + 16 + 2 * n) (x ++ body)) one h in
          let zero_is : ushort_at b (o + 16 + 2 * n) ≡ 0 = ushort_at-encodes (omega arith) (prefix_is_at (ushort 0) body gap) in
          let place : o + 16 + 2 * n ≡ o + 16 + 2 * uint_at b (o + 12) = omega (arith, e) in
          let encodes : BytesAt b (o + 18 + 2 * uint_at b (o + 12)) body = is_at (omega (arith, e, length-ushort 0)) (suffix_is_at (ushort 0) body gap) in
          inr (some, inr (omega (arith, e, is_one), subst (λ (p : ℕ). ushort_at b p ≡ 0) place zero_is, items (o + 18 + 2 * uint_at b (o + 12)) encodes))
    ]

-- a code item is at the offset of its bytes, in the data
pub code_written : (b : List ℕ) (m : Mentions) (o debug_off : ℕ) (c : Code) → length b < 2 ^ 32 → length m.types ≤ 65536 → IsCodeItem c → AreInRows b m (code_symbols c) → All (IndexFits m) c.pieces → data_off b ≤ o → o % 4 ≡ 0
    → OrNone (SomeAt DebugAt) None b debug_off c.debug → BytesAt b o (code_bytes m debug_off c) → CodeAt b o c
code_written b m o debug_off c short few_types is rows fits following aligned debug h =
    let us = flat_map units_of c.pieces in
    let vs = flat_map (piece_units m) c.pieces in
    let hs = handlers_of c.tries in
    let pieces_rows = prefix_in_rows b m (flat_map piece_symbols c.pieces) (flat_map handler_symbols hs ++ flat_map debug_symbols (option_to_list c.debug)) rows in
    let others = back_in_rows b m (flat_map piece_symbols c.pieces) (flat_map handler_symbols hs ++ flat_map debug_symbols (option_to_list c.debug)) rows in
    let handler_rows = prefix_in_rows b m (flat_map handler_symbols hs) (flat_map debug_symbols (option_to_list c.debug)) others in
    let each = λ (p : Piece) (k : Contains c.pieces p). All-contains (IndexFits m) c.pieces p fits k in
    let f = filled_code b m is.cuts c.pieces is.pieces.code is.pieces.pieces pieces_rows each in
    let units = filled_units b m c.pieces is.pieces.units pieces_rows each in
    let count : length vs < 2 ^ 32 = omega (arith, f.size, is.pieces.count) in
    let read = code_read b m o debug_off c is units count (debug_small b debug_off c.debug short debug) h in
    record {
      registers = read.registers;
      cuts = is.cuts;
      pieces = record {
        in_data = record { following = following; within = omega (arith, read.within, read.count) };
        aligned = aligned;
        code = subst (λ (l : List ℕ). IsCode l is.cuts) (sym read.units) f.code;
        pieces = subst (λ (l : List ℕ). AllZip (λ k p. DenotesPiece (SymbolRow b) (cut_units l k) p) is.cuts c.pieces) (sym read.units) f.pieces;
      };
      tries = tries_of c.tries read.tries is.tries is.apart is.few handler_rows f read.count read.units read.following;
      debug = subst (λ (p : ℕ). OrNone (SomeAt DebugAt) None b p c.debug) (sym read.debug) debug;
    }
  where
    tries_of : (ts : List Try) → ushort_at b (o + 6) ≡ length ts → All (IsTryOf (flat_map units_of c.pieces) is.cuts) ts → AreApart ts → handlers_weight (handlers_of ts) ≤ 65535 → AreInRows b m (flat_map handler_symbols (handlers_of ts))
        → FilledCode b (flat_map units_of c.pieces) (flat_map (piece_units m) c.pieces) is.cuts c.pieces → uint_at b (o + 12) ≡ length (flat_map (piece_units m) c.pieces) → code_units b o ≡ flat_map (piece_units m) c.pieces
        → BytesAt b (o + 16 + 2 * length (flat_map (piece_units m) c.pieces)) (tries_bytes m (length (flat_map (piece_units m) c.pieces)) ts) → TriesAt b o is.cuts ts
    tries_of [] reported are apart light named f count units_are s = inl (reported, refl)
    tries_of (t ∷ ts) reported are apart light named f count units_are s =
        let us = flat_map units_of c.pieces in
        let vs = flat_map (piece_units m) c.pieces in
        let all = t ∷ ts in
        let hs = handlers_of all in
        let still : All (IsTryOf vs is.cuts) all = all_from (IsTryOf vs is.cuts) all (λ x k.
        let w = All-contains (IsTryOf us is.cuts) all x are k in
        record { some = w.some; count = w.count; within = omega (arith, w.within, f.size); handler = handler_still us vs is.cuts (λ a y. f.starts (pos a) ∙ y) x.handler w.handler }) in
        tries_by b o (length vs) is.cuts all (flat_map (try_bytes m hs) all ++ handler_list_bytes m hs) count (λ none. omega (arith, none, reported)) s
        (λ p at. subst (λ (l : List ℕ). TryItemsAt l is.cuts b p (ushort_at b (o + 6)) all) (sym units_are)
        (try_items_written b m vs is.cuts few_types (omega (arith, f.size, is.pieces.count)) f.within p (ushort_at b (o + 6)) all still apart light named reported at))
