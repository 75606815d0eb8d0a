-- An upper bound on the bytes of a code item, by its weight.
use Rattle.dexspec.proofs.Common.{◌≡◌, ℕ, ◌+◌, ◌*◌, ◌%◌, ◌/◌, ◌<◌, ◌≤◌, Bool, true, false, List, [], ◌∷◌, length, Option, Some, None, refl, ◌∙◌, arith, flat_map, option_to_list, if◌then◌else◌, nat_lt, ◌==◌, length-append, length-set, slice_set, lt-ltb, sum_by-le-sum_by, count_by-le-length, length-flat_map, is_lt, Code, Mentions}
use Rattle.dexspec.specs.{ushort, uleb128, size_u, Text, text_cmp, Piece, Instruction, units_of, with_index, is_wide_index, same_handler, Catch, Handler, Try, handlers_of, handlers_weight, type_index, symbol_index, piece_units, catch_bytes, handler_count, handler_bytes, handler_off, try_bytes, handler_list_bytes, tries_bytes, code_bytes, tries_weight, code_weight}
use Rattle.dexspec.proofs.numbers.{length-ushort, length-uint, length-groups}
use Rattle.dexspec.proofs.size.SizeSums.{sum_by-at_most}
use Rattle.dexspec.proofs.size.SizeItems.{uleb128-size, sleb128-size, if-size}

-- ---- units

if-length : (b : Bool) (n : ℕ) (xs ys : List ℕ) → length xs ≡ n → length ys ≡ n → length (if b then xs else ys) ≡ n
if-length true n xs ys h k = h
if-length false n xs ys h k = k

-- units with another index have the same length
length-with_index : (i : ℕ) (us : List ℕ) → length (with_index i us) ≡ length us
length-with_index i us =
    if-length (is_wide_index us) (length us) (slice_set (slice_set us 1 (i % 65536)) 2 (i / 65536)) (slice_set us 1 i)
    (length-set (slice_set us 1 (i % 65536)) 2 (i / 65536) ∙ length-set us 1 (i % 65536))
    (length-set us 1 i)

length-piece_units : (m : Mentions) (p : Piece) → length (piece_units m p) ≡ length (units_of p)
length-piece_units m (Instruction us (Some s)) = length-with_index (symbol_index m s) us
length-piece_units m _ = refl

pub length-units : (m : Mentions) (ps : List Piece) → length (flat_map (piece_units m) ps) ≡ length (flat_map units_of ps)
length-units m [] = refl
length-units m (p ∷ ps) = omega (arith, length-append (piece_units m p) (flat_map (piece_units m) ps), length-append (units_of p) (flat_map units_of ps), length-piece_units m p, length-units m ps)

-- ---- handlers

three : (b c : Bool) → (if b then 1 else (if c then 2 else 3)) ≤ 3
three true c = omega arith
three false true = omega arith
three false false = omega arith

-- a number of 21 bits has at most three bytes
uleb128-three : (v : ℕ) → v < 0x200000 → length (uleb128 v) ≤ 3
uleb128-three v lt =
    let size : size_u v ≤ 3 = rw (lt-ltb v 0x200000 lt) (three (nat_lt v 0x80) (nat_lt v 0x4000)) in
    omega (arith, length-groups (size_u v) v, size)

type_index-size : (m : Mentions) (t : Text) → length m.types ≤ 65536 → length (uleb128 (type_index m t)) ≤ 3
type_index-size m t few = uleb128-three (type_index m t) (omega (arith, count_by-le-length (λ u. is_lt (text_cmp u t)) m.types, few))

catch_bytes-size : (m : Mentions) → length m.types ≤ 65536 → (c : Catch) → length (catch_bytes m c) ≤ 8
catch_bytes-size m few c = omega (arith, length-append (uleb128 (type_index m c.type)) (uleb128 c.address), type_index-size m c.type few, uleb128-size c.address)

catch_all-size : (o : Option ℕ) → length (flat_map uleb128 (option_to_list o)) ≤ 5
catch_all-size None = omega arith
catch_all-size (Some address) = omega (arith, length-append (uleb128 address) [], uleb128-size address)

handler_bytes-size : (m : Mentions) → length m.types ≤ 65536 → (h : Handler) → length (handler_bytes m h) ≤ 10 + 8 * length h.catches
handler_bytes-size m few h =
    let each = sum_by-at_most (λ c. length (catch_bytes m c)) 8 h.catches (catch_bytes-size m few) in
    omega (arith, length-append {A = ℕ}, sleb128-size (handler_count h), length-flat_map (catch_bytes m) h.catches, each, catch_all-size h.catch_all)

pub handler_list_bytes-size : (m : Mentions) → length m.types ≤ 65536 → (hs : List Handler) → length (handler_list_bytes m hs) ≤ handlers_weight hs
handler_list_bytes-size m few hs =
    let each = sum_by-le-sum_by (λ h. length (handler_bytes m h)) (λ h. 10 + 8 * length h.catches) hs (handler_bytes-size m few) in
    omega (arith, length-append (uleb128 (length hs)) (flat_map (handler_bytes m) hs), uleb128-size (length hs), length-flat_map (handler_bytes m) hs, each)

either-at_most : (b : Bool) (i j n : ℕ) → i ≤ n → j ≤ n → (if b then i else j) ≤ n
either-at_most true i j n h k = h
either-at_most false i j n h k = k

handler_off-from : (m : Mentions) (from : ℕ) (hs : List Handler) (h : Handler) → handler_off m from hs h ≤ from + length (flat_map (handler_bytes m) hs)
handler_off-from m from [] h = omega arith
handler_off-from m from (k ∷ ks) h =
    let next = from + length (handler_bytes m k) in
    either-at_most (same_handler k h) from (handler_off m next ks h) (from + length (flat_map (handler_bytes m) (k ∷ ks)))
    (omega arith)
    (omega (arith, length-append (handler_bytes m k) (flat_map (handler_bytes m) ks), handler_off-from m next ks h))

-- a handler begins no later than the list ends
pub handler_off-size : (m : Mentions) (hs : List Handler) (h : Handler) → handler_off m (length (uleb128 (length hs))) hs h ≤ length (handler_list_bytes m hs)
handler_off-size m hs h = omega (arith, handler_off-from m (length (uleb128 (length hs))) hs h, length-append (uleb128 (length hs)) (flat_map (handler_bytes m) hs))

-- ---- tries

try_bytes-size : (m : Mentions) (hs : List Handler) (t : Try) → length (try_bytes m hs t) ≤ 8
try_bytes-size m hs t = omega (arith, length-append {A = ℕ}, length-uint, length-ushort)

tries_bytes-size : (m : Mentions) → length m.types ≤ 65536 → (count : ℕ) (ts : List Try) → length (tries_bytes m count ts) ≤ 2 + tries_weight ts
tries_bytes-size m few count [] = omega arith
tries_bytes-size m few count (t ∷ ts) =
    let all = t ∷ ts in
    let hs = handlers_of all in
    let gap_size = if-size (count % 2 == 1) 2 (ushort 0) [] (omega (arith, length-ushort 0)) (omega arith) in
    let each = sum_by-at_most (λ u. length (try_bytes m hs u)) 8 all (try_bytes-size m hs) in
    omega (arith, length-append {A = ℕ}, gap_size, length-flat_map (try_bytes m hs) all, each, handler_list_bytes-size m few hs)

-- ---- the whole, with the bytes of its alignment

pub code_bytes-size : (m : Mentions) → length m.types ≤ 65536 → (debug_off : ℕ) (c : Code) → length (code_bytes m debug_off c) + 3 ≤ code_weight c
unfolding code_bytes
code_bytes-size m few debug_off c =
    let units = flat_map (piece_units m) c.pieces in
    let each = sum_by-at_most (λ u. length (ushort u)) 2 units (λ u. omega (arith, length-ushort u)) in
    omega (arith, length-append {A = ℕ}, length-ushort, length-uint, length-flat_map ushort units, each, length-units m c.pieces, tries_bytes-size m few (length units) c.tries)
