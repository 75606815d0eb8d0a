-- Code items of a list of bytes are well formed; so the collection that an accepted file denotes is well formed.
use Rattle.dexspec.proofs.Common.{◌≡◌, ℕ, ◌+◌, ◌*◌, ◌/◌, ◌%◌, ◌<◌, ◌≤◌, ◌^◌, Bool, true, false, List, [], ◌∷◌, length, drop, nat_abs, All, Option, Some, None, sym, ◌∙◌, subst, arith, inl, inr, if◌then◌else◌, IfSome, IfNone, ℤ, pos, negsuc, ◌<ℤ◌, slice_set, Contains, flat_map, ints, All-take, All-drop, All-set, All-contains, Contains-append_right, Contains-append_cases, Debug, Code}
use Rattle.dexspec.specs.{OrNone, SomeAt, Sequence, uint_at, ushort_at, Text, AreUnits, Symbol, SymbolRow, Cut, Piece, Instruction, Payload, units_of, DenotesPiece, cut_units, is_wide_index, Operation, StartLocal, StartLocalExtended, SetPrologueEnd, SetEpilogueBegin, SetFile, Special, DebugAt, OperationAt, Catch, Handler, Try, IsStart, AreApart, handlers_of, handlers_weight, most_handlers, code_units, CatchAt, CatchAllAt, HandlerAt, TryAt, TryItemsAt, TriesAt, CodeAt, MethodDef, Body, ClassRow, MakesMethod, declared_methods, Collection, definitions, Denotes, FitsUshort, IsHandlerOf, IsTryOf, IsOperation, IsDebug, IsCodeItem, AreWellFormed, Condition, IsAccepted}
use Rattle.dexspec.proofs.lists.{Contains-first, Contains-flat_map_source, sequence_source}
use Rattle.dexspec.proofs.written.PlacedBytes.{is_at_within}
use Rattle.dexspec.proofs.wellformed.Fitting.{zip_source}
use Rattle.dexspec.proofs.wellformed.ShortStrings.{ushort_bound, ushorts_bound}
use Rattle.dexspec.proofs.wellformed.FormedRows.{all_from, uint_bound, length-ushorts_at}
use Rattle.dexspec.proofs.wellformed.FormedMembers.{members_rise, row_formed}
use Rattle.dexspec.proofs.wellformed.BlankedCode.{blanked_code}
use Rattle.dexspec.proofs.wellformed.DenotedGood.{accepted_classes, member_row}

-- ---- debug programs

-- an operation has a byte
operation_some : (b : List ℕ) (o : ℕ) (op : Operation) (n : ℕ) → OperationAt b o op n → 0 < n
operation_some b o (StartLocal register name type) n h = omega (arith, h.7)
operation_some b o (StartLocalExtended register name type signature) n h = omega (arith, h.9)
operation_some b o SetPrologueEnd n h = omega (arith, h.1)
operation_some b o SetEpilogueBegin n h = omega (arith, h.1)
operation_some b o _ n h = omega (arith, h.3)

-- operations have at least as many bytes as there are operations
operations_few : (b : List ℕ) (o : ℕ) (ops : List Operation) (n : ℕ) → Sequence OperationAt b o ops n → length ops ≤ n
operations_few b o [] n h = omega arith
operations_few b o (op ∷ ops) n h = omega (arith, h.4, operation_some b o op h.0 h.2, operations_few b (o + h.0) ops h.1 h.3)

-- an operation is well formed
operation_formed : (b : List ℕ) (o : ℕ) (op : Operation) (n : ℕ) → OperationAt b o op n → IsOperation op
operation_formed b o (StartLocal register name type) n h = h.4.spelled.in_range
operation_formed b o (StartLocalExtended register name type signature) n h = h.5.spelled.in_range
operation_formed b o SetPrologueEnd n h = tt
operation_formed b o SetEpilogueBegin n h = tt
operation_formed b o (SetFile name) n h = tt
operation_formed b o (Special opcode) n h = (h.1, h.2)
operation_formed b o _ n h = h.2.spelled.in_range

-- a debug program is well formed
debug_formed : (b : List ℕ) (o : ℕ) (d : Debug) → length b ≤ 2 ^ 30 → DebugAt b o d → IsDebug d
debug_formed b o d small h =
    let place = o + h.start_size + h.count_size + h.names_size in
    record {
      line_start = h.line_start.spelled.in_range;
      names = h.count.spelled.in_range;
      operations = all_from IsOperation d.operations (λ op c. let w = sequence_source OperationAt b place d.operations h.operations_size op h.operations c in operation_formed b w.0 op w.1 w.2);
      few = omega (arith, operations_few b place d.operations h.operations_size h.operations, is_at_within h.end, small);
    }

-- an optional debug program
some_debug_formed : (b : List ℕ) (o : ℕ) (d : Option Debug) → length b ≤ 2 ^ 30 → OrNone (SomeAt DebugAt) None b o d → IfSome d IsDebug
some_debug_formed b o None small h = tt
some_debug_formed b o (Some d) small (inl h) = absurd (let e : Some d ≡ None = h.1 in cc)
some_debug_formed b o (Some d) small (inr h) = debug_formed b o d small h.1

-- ---- units

-- units with zero for an index are units
put_units : (w : List ℕ) (t : Bool) → AreUnits w → AreUnits (if t then slice_set (slice_set w 1 (0 % 65536)) 2 (0 / 65536) else slice_set w 1 0)
put_units w true h = All-set (λ (u : ℕ). u < 65536) (slice_set w 1 0) 2 0 (omega arith) (All-set (λ (u : ℕ). u < 65536) w 1 0 (omega arith) h)
put_units w false h = All-set (λ (u : ℕ). u < 65536) w 1 0 (omega arith) h

-- the units of a piece are units
piece_units : (N : ℕ → Symbol → Type 0) (w : List ℕ) (p : Piece) → DenotesPiece N w p → AreUnits w → AreUnits (units_of p)
piece_units N w (Instruction xs None) h units = subst AreUnits (sym h.2) units
piece_units N w (Instruction xs (Some s)) h units = subst AreUnits (sym h.2) (put_units w (is_wide_index w) units)
piece_units N w (Payload xs) h units = subst AreUnits (sym h.1) units

-- ---- tries

-- a positive count
count_some : (z : ℤ) (n : ℕ) → pos 0 <ℤ z → nat_abs z ≡ n → 0 < n
count_some (pos m) n h e = omega (arith, ints, h, e)
count_some (negsuc m) n h e = absurd (omega (arith, ints, h))

module _ (us vs : List ℕ) (cuts : List Cut) (starts : (address : ℕ) → IsStart us cuts address → IsStart vs cuts address) (b : List ℕ) where
  -- the catch-all address is a start
  catch_all_formed : (size : ℤ) (o : ℕ) (a : Option ℕ) (n : ℕ) → CatchAllAt us cuts size b o a n → IfSome a (IsStart vs cuts)
  catch_all_formed size o None n h = tt
  catch_all_formed size o (Some a) n h = starts a h.2

  -- without a catch-all there is a catch
  catches_some : (size : ℤ) (o : ℕ) (a : Option ℕ) (n m : ℕ) → nat_abs size ≡ m → CatchAllAt us cuts size b o a n → IfNone a (0 < m)
  catches_some size o None n m e h = count_some size m h.0 e
  catches_some size o (Some a) n m e h = tt

  -- a handler is well formed
  handler_formed : (o : ℕ) (x : Handler) (n : ℕ) → HandlerAt us cuts b o x n → IsHandlerOf vs cuts x
  handler_formed o x n h = record {
    catches = all_from (λ (c : Catch). IsStart vs cuts c.address) x.catches (λ c m. let w = sequence_source (CatchAt us cuts) b (o + h.count_size) x.catches h.catches_size c h.catches m in starts c.address w.2.start);
    catch_all = catch_all_formed h.count (o + h.count_size + h.catches_size) x.catch_all h.all_size h.all;
    some = catches_some h.count (o + h.count_size + h.catches_size) x.catch_all h.all_size (length x.catches) h.many h.all;
  }

  -- the conditions on tries
  record TriesFormed (ts : List Try) : Type 0 where
    many : FitsUshort (length ts)
    tries : All (IsTryOf vs cuts) ts
    apart : AreApart ts
    few : handlers_weight (handlers_of ts) ≤ most_handlers

  -- tries are well formed
  items_formed : All (λ byte. byte < 256) b → length vs ≡ length us → (o count : ℕ) (ts : List Try) → count < 65536 → TryItemsAt us cuts b o count ts → TriesFormed ts
  items_formed bytes size o count ts small h = record {
    many = omega (arith, h.many, small);
    tries = all_from (IsTryOf vs cuts) ts (λ t c.
        let w = sequence_source (TryAt us cuts (o + 8 * count) h.count_size h.handlers) b o ts (8 * count) t h.items c in
        let in_list = subst (λ (hs : List Handler). Contains hs t.handler) (sym w.2.handler.parts) (Contains-append_right w.2.handler.before (t.handler ∷ w.2.handler.after) t.handler (Contains-first t.handler w.2.handler.after)) in
        let v = sequence_source (HandlerAt us cuts) b (o + 8 * count + h.count_size) h.handlers h.handlers_size t.handler h.list in_list in
        record {
          some = w.2.some;
          count = omega (arith, w.2.count, ushort_bound b (w.0 + 4) bytes);
          within = omega (arith, w.2.within, size);
          handler = handler_formed v.0 t.handler v.1 v.2;
        });
    apart = h.apart;
    few = h.few;
  }

  -- no tries
  no_tries : TriesFormed []
  no_tries = record { many = omega arith; tries = λ k d lt. absurd (omega arith); apart = tt; few = omega arith }

-- the tries of a code item are well formed
tries_formed : (b : List ℕ) (vs : List ℕ) (o : ℕ) (cuts : List Cut) (starts : (address : ℕ) → IsStart (code_units b o) cuts address → IsStart vs cuts address)
    → All (λ byte. byte < 256) b → length vs ≡ length (code_units b o) → (ts : List Try) → TriesAt b o cuts ts → TriesFormed (code_units b o) vs cuts starts b ts
tries_formed b vs o cuts starts bytes size ts (inl h) = subst (TriesFormed (code_units b o) vs cuts starts b) (sym h.1) (no_tries (code_units b o) vs cuts starts b)
tries_formed b vs o cuts starts bytes size ts (inr (n, inl h)) = items_formed (code_units b o) vs cuts starts b bytes size (o + 16 + 2 * uint_at b (o + 12)) (ushort_at b (o + 6)) ts (ushort_bound b (o + 6) bytes) h.1
tries_formed b vs o cuts starts bytes size ts (inr (n, inr h)) = items_formed (code_units b o) vs cuts starts b bytes size (o + 18 + 2 * uint_at b (o + 12)) (ushort_at b (o + 6)) ts (ushort_bound b (o + 6) bytes) h.2

-- ---- code items

-- a code item is well formed
code_formed : (b : List ℕ) (o : ℕ) (c : Code) → All (λ byte. byte < 256) b → length b ≤ 2 ^ 30 → CodeAt b o c → IsCodeItem c
code_formed b o c bytes small h =
    let us = code_units b o in
    let vs = flat_map units_of c.pieces in
    let blanked = blanked_code (SymbolRow b) us h.cuts c.pieces h.pieces.code h.pieces.pieces in
    let starts = λ (address : ℕ) (s : IsStart us h.cuts address). blanked.starts (pos address) ∙ s in
    let tries = tries_formed b vs o h.cuts starts bytes blanked.size c.tries h.tries in
    let unit = λ (u : ℕ). u < 65536 in
    let all = ushorts_bound b (o + 16) (uint_at b (o + 12)) bytes in
    record {
      registers = omega (arith, h.registers.registers_size, ushort_bound b o bytes);
      ins = omega (arith, h.registers.ins_size, ushort_bound b (o + 2) bytes);
      outs = omega (arith, h.registers.outs_size, ushort_bound b (o + 4) bytes);
      cuts = h.cuts;
      pieces = record {
        code = blanked.code;
        pieces = blanked.pieces;
        units = all_from unit vs (λ u m.
            let w = Contains-flat_map_source units_of c.pieces u m in
            let v = zip_source (λ (cut : Cut) (q : Piece). DenotesPiece (SymbolRow b) (cut_units us cut) q) h.cuts c.pieces w.0 h.pieces.pieces w.1 in
            All-contains unit (units_of w.0) u (piece_units (SymbolRow b) (cut_units us v.0) w.0 v.2 (All-take unit v.0.units (drop v.0.unit us) (All-drop unit v.0.unit us all))) w.2);
        count = omega (arith, blanked.size, length-ushorts_at b (o + 16) (uint_at b (o + 12)), uint_bound b (o + 12) bytes);
      };
      many = tries.many;
      tries = tries.tries;
      apart = tries.apart;
      few = tries.few;
      debug = some_debug_formed b (uint_at b (o + 8)) c.debug small h.debug;
    }

-- an optional code item
some_code_formed : (b : List ℕ) (o : ℕ) (c : Option Code) → All (λ byte. byte < 256) b → length b ≤ 2 ^ 30 → OrNone (SomeAt CodeAt) None b o c → IfSome c IsCodeItem
some_code_formed b o None bytes small h = tt
some_code_formed b o (Some c) bytes small (inl h) = absurd (let e : Some c ≡ None = h.1 in cc)
some_code_formed b o (Some c) bytes small (inr h) = code_formed b o c bytes small h.1

-- ---- the denoted collection

-- the code of a class row's methods is well formed
row_code_formed : (b : List ℕ) → All (λ byte. byte < 256) b → length b ≤ 2 ^ 30 → (r : ℕ) (name : Text) (c : Body) → ClassRow b r name c → (m : MethodDef) → Contains (declared_methods c) m → IfSome m.code IsCodeItem
row_code_formed b bytes small r name c h m d = elim (Contains-append_cases c.direct_methods c.virtual_methods m d) [
  | inl l ↦ let w = zip_source (MakesMethod b h.directory) h.members.direct_methods c.direct_methods m h.direct_methods l in some_code_formed b w.0.code_off m.code bytes small w.2.code
  | inr l ↦ let w = zip_source (MakesMethod b h.directory) h.members.virtual_methods c.virtual_methods m h.virtual_methods l in some_code_formed b w.0.code_off m.code bytes small w.2.code
]

-- the collection that an accepted list of bytes denotes is well formed
pub denoted_well_formed : (b : List ℕ) → All (λ byte. byte < 256) b → IsAccepted b → (K : Collection) → Denotes b K → AreWellFormed (definitions K)
denoted_well_formed b bytes h K denotes d c =
    let w = member_row b h K denotes d c in
    let classes = accepted_classes b h in
    let small = (h Condition.Size 0 (omega arith)).most in
    let rise = members_rise b classes.strings classes.types (h Condition.Protos) (h Condition.Fields) (h Condition.Methods) in
    row_formed b bytes classes.few rise w.0 d.0 d.1 w.1 (h Condition.Members w.0 w.1.row) (h Condition.Values w.0 w.1.row) (row_code_formed b bytes small w.0 d.0 d.1 w.1)
