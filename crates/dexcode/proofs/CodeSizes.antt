-- How many bytes a code item of numbers has, against what it weighs.
use Rattle.dexcode.proofs.Common.{◌≡◌, ℕ, ◌+◌, ◌*◌, ◌%◌, ◌^◌, ◌<◌, ◌≤◌, ◌==◌, Bool, true, if◌then◌else◌, nat_lt, List, [], ◌∷◌, ◌++◌, length, Option, Some, None, option_to_list, refl, ap, sym, arith, length-append, All, flat_map, lt-ltb, length-map, All-head, All-tail, sum_by-cons, ushort, uint, uleb128, size_u, length-ushort, length-uint, NumberedPiece, NumberedCode, numbered_units, numbered_bytes, Catch, Try, NumberedHandler, NumberedTry, NumberedItem, named, all_named, handlers_of, handlers_weight, AreStored, HasShortTypes, handler_count, numbered_catch_bytes, numbered_handler_bytes, numbered_handler_off, numbered_try_bytes, numbered_list_bytes, numbered_table_bytes, gap_bytes, numbered_tries_bytes, numbered_head_bytes, unit_count, numbered_item_bytes, numbered_code_bytes, numbered_tries_weight, numbered_code_weight, false}
use Rattle.dexspec.proofs.numbers.Groups.{length-groups}
use Rattle.dexspec.proofs.written.PlacedBytes.{length_rows}
use Rattle.dexspec.proofs.size.SizeItems.{uleb128-size, sleb128-size, if-size}

-- ---- units

pub units_length : (ps : List NumberedPiece) → length (numbered_bytes ps) ≡ 2 * length (flat_map numbered_units ps)
unfolding numbered_bytes
units_length ps = length_rows ushort 2 length-ushort (flat_map numbered_units ps)

-- ---- tries

try_length : (hs : List NumberedHandler) (t : NumberedTry) → length (numbered_try_bytes hs t) ≡ 8
try_length hs t = let off = numbered_handler_off (length (uleb128 (length hs))) hs t.handler in omega (arith, length-append {A = ℕ}, length-uint t.start_addr, length-ushort t.insn_count, length-ushort off)

pub tries_length : (hs : List NumberedHandler) (ts : List NumberedTry) → length (flat_map (numbered_try_bytes hs) ts) ≡ 8 * length ts
tries_length hs = length_rows (numbered_try_bytes hs) 8 (try_length hs)

-- the bytes after the units, where there are tries
pub tries_parts : (count : ℕ) (hs : List NumberedHandler) (ts : List Try) → AreStored hs ts → (ts ≡ [] → ⊥) → numbered_tries_bytes count (all_named hs ts) ≡ gap_bytes count ++ numbered_table_bytes hs (all_named hs ts)
tries_parts count hs [] stored some = absurd (some refl)
tries_parts count hs (t ∷ ts) stored some = ap (λ gs. gap_bytes count ++ numbered_table_bytes gs (all_named hs (t ∷ ts))) (sym stored.used)

-- ---- handlers

three : (b c : Bool) → (if b then 1 else (if c then 2 else 3)) ≤ 3
three true c = omega arith
three false true = omega arith
three false false = omega arith

-- a number of 16 bits has three bytes at most
short_length : (v : ℕ) → v < 0x10000 → length (uleb128 v) ≤ 3
short_length v lt = let size : size_u v ≤ 3 = rw (lt-ltb v 0x200000 (omega (arith, lt))) (three (nat_lt v 0x80) (nat_lt v 0x4000)) in omega (arith, length-groups (size_u v) v, size)

catches_length : (cs : List Catch) → All (λ c. c.typ < 2 ^ 16) cs → length (flat_map numbered_catch_bytes cs) ≤ 8 * length cs
catches_length [] all = omega arith
catches_length (c ∷ cs) all =
    omega (arith, length-append {A = ℕ}, short_length c.typ (All-head (λ (c : Catch). c.typ < 2 ^ 16) c cs all), uleb128-size c.addr, catches_length cs (All-tail (λ (c : Catch). c.typ < 2 ^ 16) c cs all))

catch_all_length : (o : Option ℕ) → length (flat_map uleb128 (option_to_list o)) ≤ 5
catch_all_length None = omega arith
catch_all_length (Some address) = omega (arith, length-append (uleb128 address) [], uleb128-size address)

-- a handler has no more than ten bytes for each catch and ten
catches_most : (cs : List Catch) → length (flat_map numbered_catch_bytes cs) ≤ 10 * length cs
catches_most [] = omega arith
catches_most (c ∷ cs) = omega (arith, length-append {A = ℕ}, uleb128-size c.typ, uleb128-size c.addr, catches_most cs)

pub handler_most : (h : NumberedHandler) → length (numbered_handler_bytes h) ≤ 10 + 10 * length h.catches
handler_most h = let all = flat_map uleb128 (option_to_list h.catch_all_addr) in omega (arith, length-append {A = ℕ}, sleb128-size (handler_count h), catches_most h.catches, catch_all_length h.catch_all_addr)

handlers_most : (hs : List NumberedHandler) → 10 + length (flat_map numbered_handler_bytes hs) ≤ 2 * handlers_weight hs
handlers_most [] = omega arith
handlers_most (h ∷ hs) = omega (arith, length-append (numbered_handler_bytes h) (flat_map numbered_handler_bytes hs), sum_by-cons (λ (h : NumberedHandler). 10 + 8 * length h.catches) h hs, handler_most h, handlers_most hs)

pub list_most : (hs : List NumberedHandler) → length (numbered_list_bytes hs) ≤ 2 * handlers_weight hs
list_most hs = omega (arith, length-append (uleb128 (length hs)) (flat_map numbered_handler_bytes hs), uleb128-size (length hs), handlers_most hs)

pub handler_length : (h : NumberedHandler) → HasShortTypes h → length (numbered_handler_bytes h) ≤ 10 + 8 * length h.catches
handler_length h typed =
    let all = flat_map uleb128 (option_to_list h.catch_all_addr) in omega (arith, length-append {A = ℕ}, sleb128-size (handler_count h), catches_length h.catches typed, catch_all_length h.catch_all_addr)

handlers_length : (hs : List NumberedHandler) → All HasShortTypes hs → 5 + length (flat_map numbered_handler_bytes hs) ≤ handlers_weight hs
handlers_length [] typed = omega arith
handlers_length (h ∷ hs) typed =
    omega (arith, length-append (numbered_handler_bytes h) (flat_map numbered_handler_bytes hs), sum_by-cons (λ (h : NumberedHandler). 10 + 8 * length h.catches) h hs, handler_length h (All-head HasShortTypes h hs typed), handlers_length hs (All-tail HasShortTypes h hs typed))

pub list_length : (hs : List NumberedHandler) → All HasShortTypes hs → length (numbered_list_bytes hs) ≤ handlers_weight hs
list_length hs typed = omega (arith, length-append (uleb128 (length hs)) (flat_map numbered_handler_bytes hs), uleb128-size (length hs), handlers_length hs typed)

-- ---- the whole

after_length : (count : ℕ) (ts : List NumberedTry) → All HasShortTypes (handlers_of ts) → length (numbered_tries_bytes count ts) ≤ 2 + numbered_tries_weight ts
after_length count [] typed = omega arith
after_length count (t ∷ ts) typed =
    let hs = handlers_of (t ∷ ts) in omega (arith, length-append {A = ℕ}, if-size (count % 2 == 1) 2 (ushort 0) [] (omega (arith, length-ushort 0)) (omega arith), tries_length hs (t ∷ ts), list_length hs typed)

pub head_length : (debug_off tries : ℕ) (c : NumberedCode) (units : ℕ) → length (numbered_head_bytes debug_off tries c units) ≡ 16
head_length debug_off tries c units =
    let x3 = ushort c.outs ++ (ushort tries ++ (uint debug_off ++ uint units)) in omega (arith, length-append {A = ℕ}, length-ushort c.registers, length-ushort c.ins, length-ushort c.outs, length-ushort tries, length-uint debug_off, length-uint units)

pub item_length : (debug_off : ℕ) (c : NumberedCode) (ts : List NumberedTry) → length (numbered_item_bytes debug_off c ts) ≡ 16 + 2 * unit_count c + length (numbered_tries_bytes (unit_count c) ts)
unfolding numbered_item_bytes
item_length debug_off c ts = let tries = numbered_tries_bytes (unit_count c) ts in omega (arith, length-append {A = ℕ}, head_length debug_off (length ts) c (unit_count c), units_length c.pieces)

-- without tries there is nothing after the units
pub item_alone : (debug_off : ℕ) (c : NumberedCode) (hs : List NumberedHandler) (ts : List Try) → ts ≡ [] → length (numbered_item_bytes debug_off c (all_named hs ts)) ≡ 16 + 2 * unit_count c
item_alone debug_off c hs ts none = omega (arith, item_length debug_off c (all_named hs ts), ap (λ us. length (numbered_tries_bytes (unit_count c) (all_named hs us))) none)

-- with tries there are these and their list
pub item_after : (debug_off : ℕ) (c : NumberedCode) (hs : List NumberedHandler) (ts : List Try) → AreStored hs ts → (ts ≡ [] → ⊥)
    → length (numbered_item_bytes debug_off c (all_named hs ts)) ≡ 16 + 2 * unit_count c + length (gap_bytes (unit_count c)) + 8 * length ts + length (numbered_list_bytes hs)
item_after debug_off c hs ts stored some =
    let us = all_named hs ts in omega (arith, item_length debug_off c us, ap length (tries_parts (unit_count c) hs ts stored some), length-append {A = ℕ}, tries_length hs us, length-map ts (named hs))

-- with the bytes of its alignment it has no more than it weighs
pub code_length : (debug_off : ℕ) (c : NumberedItem) → All HasShortTypes (handlers_of c.tries) → length (numbered_code_bytes debug_off c) + 3 ≤ numbered_code_weight c
code_length debug_off c typed = omega (arith, item_length debug_off c.body c.tries, after_length (unit_count c.body) c.tries typed)
