-- Tests of code and debug programs, each with what it implies.
use Rattle.dexexamples.proofs.Common.{◌≡◌, ℕ, ◌+◌, ◌<◌, Bool, true, false, not, ◌&&◌, ◌||◌, nat_lt, nat_le, ◌==◌, List, [], ◌∷◌, length, drop, Option, Some, None, refl, ap, arith, ltb-true, leb-true, eqb-true, IfNone, is_some, is_none, ℤ, pos, negsuc, ◌^◌, slice_index, FitsSigned, flat_map, list_all, AllZip, same_text, Pool, StringPool, TypePool, ProtoPool, FieldPool, MethodPool, pool_of, Cut, AreCut, piece_size, has_right_targets, is_payload_ident, is_instruction_start, all_of_option, Piece, Instruction, Payload, units_of, index_pool, index_in, with_index, DenotesPiece, cut_units, Handler, Try, Code, IsStart, AreApart, handlers_of, handlers_weight, most_handlers, ArePieces, IsHandlerOf, IsTryOf, IsOperation, IsDebug, IsCodeItem, and_first, and_second}
use Rattle.std.specs.Int.{w8, w16, w32, w64}
use Rattle.std.proofs.lemmas.Int.{ints}
use Rattle.dexspec.specs.Debug.{Operation, AdvancePc, AdvanceLine, StartLocal, StartLocalExtended, EndLocal, RestartLocal, SetPrologueEnd, SetEpilogueBegin, SetFile, Special, Debug}
use Rattle.dexexamples.proofs.NameTests.{all_by, some_by, are_true, each, fits_uint, uint_by, fits_ushort, ushort_by, text_is}

-- ---- signed numbers

-- whether a number is at least -m and less than m
abbrev pub is_below : ℕ → ℤ → Bool
is_below m (pos n) = nat_lt n m
is_below m (negsuc n) = nat_lt n m

pub byte_by : (z : ℤ) → is_below 128 z ≡ true → FitsSigned w8 z
byte_by (pos n) e = omega (arith, ints, ltb-true n 128 e)
byte_by (negsuc n) e = omega (arith, ints, ltb-true n 128 e)

pub short_by : (z : ℤ) → is_below 32768 z ≡ true → FitsSigned w16 z
short_by (pos n) e = omega (arith, ints, ltb-true n 32768 e)
short_by (negsuc n) e = omega (arith, ints, ltb-true n 32768 e)

pub int_by : (z : ℤ) → is_below 2147483648 z ≡ true → FitsSigned w32 z
int_by (pos n) e = omega (arith, ints, ltb-true n 2147483648 e)
int_by (negsuc n) e = omega (arith, ints, ltb-true n 2147483648 e)

pub long_by : (z : ℤ) → is_below 9223372036854775808 z ≡ true → FitsSigned w64 z
long_by (pos n) e = omega (arith, ints, ltb-true n 9223372036854775808 e)
long_by (negsuc n) e = omega (arith, ints, ltb-true n 9223372036854775808 e)

-- ---- units and pieces

-- the cuts of pieces in sequence
abbrev cuts_from : ℕ → List Piece → List Cut
cuts_from at [] = []
cuts_from at (p ∷ ps) = record { unit = at; units = length (units_of p) } ∷ cuts_from (at + length (units_of p)) ps

abbrev is_size : Option ℕ → ℕ → Bool
is_size None n = false
is_size (Some m) n = m == n

size_by : (o : Option ℕ) (n : ℕ) → is_size o n ≡ true → o ≡ Some n
size_by None n e = absurd cc
size_by (Some m) n e = ap Some (eqb-true m n e)

abbrev are_cut : ℕ → List ℕ → List Cut → Bool
are_cut at us [] = same_text us []
are_cut at us (c ∷ cs) = c.unit == at && (is_size (piece_size at us) c.units && are_cut (at + c.units) (drop c.units us) cs)

cut_by : (at : ℕ) (us : List ℕ) (cs : List Cut) → are_cut at us cs ≡ true → AreCut at us cs []
cut_by at us [] e = text_is us [] e
cut_by at us (c ∷ cs) e =
    let here = c.unit == at in
    let size = is_size (piece_size at us) c.units in
    let rest = are_cut (at + c.units) (drop c.units us) cs in
    let others = and_second here (size && rest) e in
    (eqb-true c.unit at (and_first here (size && rest) e), size_by (piece_size at us) c.units (and_first size rest others), cut_by (at + c.units) (drop c.units us) cs (and_second size rest others))

abbrev is_pool : Option Pool → Pool → Bool
is_pool (Some StringPool) StringPool = true
is_pool (Some TypePool) TypePool = true
is_pool (Some ProtoPool) ProtoPool = true
is_pool (Some FieldPool) FieldPool = true
is_pool (Some MethodPool) MethodPool = true
is_pool _ _ = false

pool_by : (o : Option Pool) (p : Pool) → is_pool o p ≡ true → o ≡ Some p
pool_by (Some StringPool) StringPool e = refl
pool_by (Some TypePool) TypePool e = refl
pool_by (Some ProtoPool) ProtoPool e = refl
pool_by (Some FieldPool) FieldPool e = refl
pool_by (Some MethodPool) MethodPool e = refl
pool_by _ _ e = absurd cc

denied : (b : Bool) → not b ≡ true → b ≡ false
denied true e = absurd cc
denied false e = refl

absent : (o : Option Pool) → is_none o ≡ true → o ≡ None
absent None e = refl
absent (Some p) e = absurd cc

abbrev piece_tests : List ℕ → Piece → List Bool
piece_tests us (Instruction xs None) = not (is_payload_ident (slice_index us 0)) ∷ is_none (index_pool us) ∷ same_text xs us ∷ []
piece_tests us (Instruction xs (Some s)) = is_pool (index_pool us) (pool_of s) ∷ (index_in us == 0) ∷ same_text xs (with_index 0 us) ∷ []
piece_tests us (Payload xs) = is_payload_ident (slice_index us 0) ∷ same_text xs us ∷ []

piece_by : (us : List ℕ) (p : Piece) → are_true (piece_tests us p) ≡ true → DenotesPiece (λ i s. i ≡ 0) us p
piece_by us (Instruction xs None) e =
    let h = each (piece_tests us (Instruction xs None)) e in
    (denied (is_payload_ident (slice_index us 0)) (h 0 (omega arith)), absent (index_pool us) (h 1 (omega arith)), text_is xs us (h 2 (omega arith)))
piece_by us (Instruction xs (Some s)) e =
    let h = each (piece_tests us (Instruction xs (Some s))) e in
    (pool_by (index_pool us) (pool_of s) (h 0 (omega arith)), eqb-true (index_in us) 0 (h 1 (omega arith)), text_is xs (with_index 0 us) (h 2 (omega arith)))
piece_by us (Payload xs) e =
    let h = each (piece_tests us (Payload xs)) e in
    (h 0 (omega arith), text_is xs us (h 1 (omega arith)))

abbrev are_encoded : List ℕ → List Cut → List Piece → Bool
are_encoded us [] [] = true
are_encoded us (c ∷ cs) (p ∷ ps) = are_true (piece_tests (cut_units us c) p) && are_encoded us cs ps
are_encoded us _ _ = false

denoted_by : (us : List ℕ) (cs : List Cut) (ps : List Piece) → are_encoded us cs ps ≡ true → AllZip (λ c p. DenotesPiece (λ i s. i ≡ 0) (cut_units us c) p) cs ps
denoted_by us [] [] e = tt
denoted_by us (c ∷ cs) (p ∷ ps) e =
    let one = are_true (piece_tests (cut_units us c) p) in
    let rest = are_encoded us cs ps in
    (piece_by (cut_units us c) p (and_first one rest e), denoted_by us cs ps (and_second one rest e))
denoted_by us [] (p ∷ ps) e = absurd cc
denoted_by us (c ∷ cs) [] e = absurd cc

abbrev pieces_tests : List ℕ → List Cut → List Piece → List Bool
pieces_tests us cs ps =
    nat_lt 0 (length us) ∷ are_cut 0 us cs ∷ list_all (has_right_targets us cs) cs ∷ are_encoded us cs ps ∷ list_all (λ u. nat_lt u (2 ^ 16)) us ∷ fits_uint (length us) ∷ []

pieces_by : (ps : List Piece) (cs : List Cut) → are_true (pieces_tests (flat_map units_of ps) cs ps) ≡ true → ArePieces ps cs
pieces_by ps cs e =
    let us = flat_map units_of ps in
    let h = each (pieces_tests us cs ps) e in
    record {
      code = record {
        some = ltb-true 0 (length us) (h 0 (omega arith));
        cut = cut_by 0 us cs (h 1 (omega arith));
        targets = all_by (λ c. has_right_targets us cs c ≡ true) (has_right_targets us cs) (λ c t. t) cs (h 2 (omega arith));
      };
      pieces = denoted_by us cs ps (h 3 (omega arith));
      units = all_by (λ u. u < 2 ^ 16) (λ u. nat_lt u (2 ^ 16)) (λ u. ltb-true u (2 ^ 16)) us (h 4 (omega arith));
      count = uint_by (length us) (h 5 (omega arith));
    }

-- ---- tries

-- there is a catch-all, or there are catches
some_caught : (o : Option ℕ) (n : ℕ) → (is_some o || nat_lt 0 n) ≡ true → IfNone o (0 < n)
some_caught None n e = ltb-true 0 n e
some_caught (Some address) n e = tt

module _ (us : List ℕ) (cs : List Cut) where
  abbrev is_start : ℕ → Bool
  is_start address = is_instruction_start us cs (pos address)

  abbrev handler_tests : Handler → List Bool
  handler_tests h = list_all (λ c. is_start c.address) h.catches ∷ all_of_option is_start h.catch_all ∷ (is_some h.catch_all || nat_lt 0 (length h.catches)) ∷ []

  handler_by : (h : Handler) → are_true (handler_tests h) ≡ true → IsHandlerOf us cs h
  handler_by h e =
      let t = each (handler_tests h) e in
      record {
        catches = all_by (λ c. IsStart us cs c.address) (λ c. is_start c.address) (λ c s. s) h.catches (t 0 (omega arith));
        catch_all = some_by (IsStart us cs) is_start (λ a s. s) h.catch_all (t 1 (omega arith));
        some = some_caught h.catch_all (length h.catches) (t 2 (omega arith));
      }

  abbrev try_tests : Try → List Bool
  try_tests t = nat_lt 0 t.count ∷ fits_ushort t.count ∷ nat_le (t.start + t.count) (length us) ∷ are_true (handler_tests t.handler) ∷ []

  try_by : (t : Try) → are_true (try_tests t) ≡ true → IsTryOf us cs t
  try_by t e =
      let h = each (try_tests t) e in
      record {
        some = ltb-true 0 t.count (h 0 (omega arith));
        count = ushort_by t.count (h 1 (omega arith));
        within = leb-true (t.start + t.count) (length us) (h 2 (omega arith));
        handler = handler_by t.handler (h 3 (omega arith));
      }

abbrev are_apart : List Try → Bool
are_apart [] = true
are_apart (t ∷ []) = true
are_apart (t ∷ u ∷ ts) = nat_le (t.start + t.count) u.start && are_apart (u ∷ ts)

apart_by : (ts : List Try) → are_apart ts ≡ true → AreApart ts
apart_by [] e = tt
apart_by (t ∷ []) e = tt
apart_by (t ∷ u ∷ ts) e =
    let here = nat_le (t.start + t.count) u.start in
    (leb-true (t.start + t.count) u.start (and_first here (are_apart (u ∷ ts)) e), apart_by (u ∷ ts) (and_second here (are_apart (u ∷ ts)) e))

-- ---- debug programs

abbrev is_operation : Operation → Bool
is_operation (AdvancePc addresses) = fits_uint addresses
is_operation (AdvanceLine lines) = is_below 2147483648 lines
is_operation (StartLocal register name type) = fits_uint register
is_operation (StartLocalExtended register name type signature) = fits_uint register
is_operation (EndLocal register) = fits_uint register
is_operation (RestartLocal register) = fits_uint register
is_operation (Special opcode) = nat_le 0x0a opcode && nat_le opcode 0xff
is_operation _ = true

operation_by : (op : Operation) → is_operation op ≡ true → IsOperation op
operation_by (AdvancePc addresses) e = uint_by addresses e
operation_by (AdvanceLine lines) e = int_by lines e
operation_by (StartLocal register name type) e = uint_by register e
operation_by (StartLocalExtended register name type signature) e = uint_by register e
operation_by (EndLocal register) e = uint_by register e
operation_by (RestartLocal register) e = uint_by register e
operation_by (Special opcode) e = (leb-true 0x0a opcode (and_first (nat_le 0x0a opcode) (nat_le opcode 0xff) e), leb-true opcode 0xff (and_second (nat_le 0x0a opcode) (nat_le opcode 0xff) e))
operation_by SetPrologueEnd e = tt
operation_by SetEpilogueBegin e = tt
operation_by (SetFile name) e = tt

abbrev debug_tests : Debug → List Bool
debug_tests d = fits_uint d.line_start ∷ fits_uint (length d.parameter_names) ∷ list_all is_operation d.operations ∷ nat_lt (length d.operations) (2 ^ 30) ∷ []

debug_by : (d : Debug) → are_true (debug_tests d) ≡ true → IsDebug d
debug_by d e =
    let h = each (debug_tests d) e in
    record {
      line_start = uint_by d.line_start (h 0 (omega arith));
      names = uint_by (length d.parameter_names) (h 1 (omega arith));
      operations = all_by IsOperation is_operation operation_by d.operations (h 2 (omega arith));
      few = ltb-true (length d.operations) (2 ^ 30) (h 3 (omega arith));
    }

-- ---- code items

abbrev code_tests : Code → List Bool
code_tests c =
    fits_ushort c.registers ∷ fits_ushort c.ins ∷ fits_ushort c.outs ∷ are_true (pieces_tests (flat_map units_of c.pieces) (cuts_from 0 c.pieces) c.pieces) ∷ fits_ushort (length c.tries)
    ∷ list_all (λ t. are_true (try_tests (flat_map units_of c.pieces) (cuts_from 0 c.pieces) t)) c.tries ∷ are_apart c.tries ∷ nat_le (handlers_weight (handlers_of c.tries)) most_handlers
    ∷ all_of_option (λ d. are_true (debug_tests d)) c.debug ∷ []

abbrev pub is_code_item : Code → Bool
is_code_item c = are_true (code_tests c)

pub code_by : (c : Code) → is_code_item c ≡ true → IsCodeItem c
code_by c e =
    let h = each (code_tests c) e in
    let us = flat_map units_of c.pieces in
    let cs = cuts_from 0 c.pieces in
    record {
      registers = ushort_by c.registers (h 0 (omega arith));
      ins = ushort_by c.ins (h 1 (omega arith));
      outs = ushort_by c.outs (h 2 (omega arith));
      cuts = cs;
      pieces = pieces_by c.pieces cs (h 3 (omega arith));
      many = ushort_by (length c.tries) (h 4 (omega arith));
      tries = all_by (IsTryOf us cs) (λ t. are_true (try_tests us cs t)) (try_by us cs) c.tries (h 5 (omega arith));
      apart = apart_by c.tries (h 6 (omega arith));
      few = leb-true (handlers_weight (handlers_of c.tries)) most_handlers (h 7 (omega arith));
      debug = some_by IsDebug (λ d. are_true (debug_tests d)) debug_by c.debug (h 8 (omega arith));
    }
