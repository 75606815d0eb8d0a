-- Units of code cut into instructions and payloads, their targets, and the symbols that they name. Source: "Dalvik
-- bytecode", "packed-switch-payload format", "sparse-switch-payload format", "fill-array-data-payload format"; "Dalvik
-- executable instruction formats". This project's rules: code has one unit at least and is cut without gaps, the byte
-- 00 of a format is zero, the count of 35c is at most five, sparse keys rise strictly, an element has 1, 2, 4 or 8
-- bytes, targets are starts of instructions or of a payload of the right kind, and a payload that no instruction refers
-- to is allowed.
use Rattle.std.specs.Prelude.{◌≡◌, ℕ, zero, suc, ℤ, pos, ◌+ℤ◌, nat_abs, ◌+◌, ◌*◌, ◌/◌, ◌%◌, ◌<◌, Bool, true, false, not}
use Rattle.std.specs.Prelude.{◌&&◌, ◌||◌, ◌==◌, nat_le, IsTrue, if◌then◌else◌, List, [], ◌∷◌, length, take, drop, All}
use Rattle.std.specs.Prelude.{slice_index, slice_set, Option, Some, None}
use Rattle.std.specs.List.{list_any, list_all}
use Rattle.std.specs.Option.{option_map_or, option_and_then}
use Rattle.std.specs.Ordering.{int_cmp, int_eq}
use Rattle.dexspec.specs.Lists.{rises}
use Rattle.dexspec.specs.Bytes.{signed_in}
use Rattle.dexspec.specs.Symbols.{Pool, Symbol, pool_of}
use Rattle.dexspec.specs.Opcodes.{Format, Opcode, F10x, F20t, F30t, F32x, F35c, F10t, F21t, F22t, F31t, units_in}
use Rattle.dexspec.specs.Opcodes.{opcode_of}

-- the low byte of an instruction's first unit is its opcode
abbrev pub low_byte : ℕ → ℕ
low_byte u = u % 256

-- the byte above the opcode
abbrev pub high_byte : ℕ → ℕ
high_byte u = u / 256

-- the number that a unit and the one after it encode, the lower first
abbrev pub two_units : List ℕ → ℕ → ℕ
two_units us i = slice_index us i + 65536 * slice_index us (i + 1)

-- the same as a signed number
abbrev pub int_in : List ℕ → ℕ → ℤ
int_in us i = signed_in 4 (two_units us i)

-- n signed numbers of two units each, from unit i on
abbrev pub ints_in : List ℕ → ℕ → ℕ → List ℤ
ints_in us i zero = []
ints_in us i (suc n) = int_in us i ∷ ints_in us (i + 2) n

-- ---- payloads

-- the first unit of a packed-switch payload
abbrev pub packed_switch_ident : ℕ
packed_switch_ident = 0x0100

-- the first unit of a sparse-switch payload
abbrev pub sparse_switch_ident : ℕ
sparse_switch_ident = 0x0200

-- the first unit of array data
abbrev pub array_data_ident : ℕ
array_data_ident = 0x0300

-- whether a payload begins with this unit
abbrev pub is_payload_ident : ℕ → Bool
is_payload_ident u = u == packed_switch_ident || (u == sparse_switch_ident || u == array_data_ident)

-- the bytes of an element of array data
abbrev pub element_width : List ℕ → ℕ
element_width us = slice_index us 1

-- the number of elements of array data
abbrev pub element_count : List ℕ → ℕ
element_count us = two_units us 2

-- the number of units that the payload declares
abbrev pub payload_units : List ℕ → ℕ
payload_units us =
    if slice_index us 0 == packed_switch_ident then 4 + 2 * slice_index us 1
    else (if slice_index us 0 == sparse_switch_ident then 2 + 4 * slice_index us 1
    else 4 + (element_count us * element_width us + 1) / 2)

-- sparse keys rise strictly, and an element is 1, 2, 4 or 8 bytes wide
abbrev pub is_payload_in_order : List ℕ → Bool
is_payload_in_order us =
    if slice_index us 0 == packed_switch_ident then true
    else (if slice_index us 0 == sparse_switch_ident then rises int_cmp (ints_in us 2 (slice_index us 1))
    else list_any (λ width. element_width us == width) (1 ∷ 2 ∷ 4 ∷ 8 ∷ []))

-- the number of units of the payload that the units begin with
abbrev pub payload_size : List ℕ → Option ℕ
payload_size us =
    if nat_le (payload_units us) (length us) && is_payload_in_order us then Some (payload_units us) else None

-- ---- instructions

-- the formats whose first unit has the byte 00
abbrev pub has_zero_byte : Format → Bool
has_zero_byte F10x = true
has_zero_byte F20t = true
has_zero_byte F30t = true
has_zero_byte F32x = true
has_zero_byte _ = false

-- the byte 00 is zero, and a 35c has at most five registers
abbrev pub is_first_unit : Format → ℕ → Bool
is_first_unit F35c u = nat_le (u / 4096) 5
is_first_unit format u = not (has_zero_byte format) || high_byte u == 0

-- the number of units of an instruction of this opcode, if there are that many and the first is valid for the format
abbrev pub size_of_opcode : List ℕ → Opcode → Option ℕ
size_of_opcode us op = if nat_le (units_in op.format) (length us) && is_first_unit op.format (slice_index us 0)
    then Some (units_in op.format) else None

-- the number of units of the instruction that the units begin with
abbrev pub instruction_size : List ℕ → Option ℕ
instruction_size us = option_and_then (size_of_opcode us) (opcode_of (low_byte (slice_index us 0)))

-- ---- pieces

-- the number of units of the piece that begins at a unit with the units `us`, or nothing if none begins there
unfoldable pub piece_size : ℕ → List ℕ → Option ℕ
piece_size at [] = None
piece_size at (u ∷ us) = if is_payload_ident u then (if at % 2 == 0 then payload_size (u ∷ us) else None)
    else instruction_size (u ∷ us)

-- the first unit of a piece, and its number of units
pub record Cut : Type 0 where
  pub unit : ℕ
  pub units : ℕ

-- the units from a unit on are cut into these pieces, up to the rest
abbrev pub AreCut : ℕ → List ℕ → List Cut → List ℕ → Type 0
AreCut at us [] rest = us ≡ rest
AreCut at us (c ∷ cs) rest =
    (c.unit ≡ at) × (piece_size at us ≡ Some c.units) × AreCut (at + c.units) (drop c.units us) cs rest

-- ---- targets

-- an instruction begins at this place
abbrev pub is_instruction_start : List ℕ → List Cut → ℤ → Bool
is_instruction_start us cs z =
    list_any (λ c. int_eq (pos c.unit) z && not (is_payload_ident (slice_index us c.unit))) cs

-- a payload with this first unit begins there
abbrev pub is_payload_start : ℕ → List ℕ → List Cut → ℤ → Bool
is_payload_start ident us cs z = list_any (λ c. int_eq (pos c.unit) z && slice_index us c.unit == ident) cs

-- the distance of a branch, in units from its own, if the instruction at unit `at` is one
abbrev pub branch_offset : Format → List ℕ → ℕ → Option ℤ
branch_offset F10t us at = Some (signed_in 1 (high_byte (slice_index us at)))
branch_offset F20t us at = Some (signed_in 2 (slice_index us (at + 1)))
branch_offset F21t us at = Some (signed_in 2 (slice_index us (at + 1)))
branch_offset F22t us at = Some (signed_in 2 (slice_index us (at + 1)))
branch_offset F30t us at = Some (int_in us (at + 1))
branch_offset F31t us at = Some (int_in us (at + 1))
branch_offset _ us at = None

-- the first unit of the payload that an instruction of format 31t refers to
abbrev pub payload_ident : ℕ → ℕ
payload_ident op =
    if op == 0x2b then packed_switch_ident else (if op == 0x2c then sparse_switch_ident else array_data_ident)

-- the targets of the payload at a unit, as encoded; array data has none
abbrev pub payload_targets : List ℕ → ℕ → List ℤ
payload_targets us at =
    if slice_index us at == packed_switch_ident then ints_in us (at + 4) (slice_index us (at + 1))
    else (if slice_index us at == sparse_switch_ident
    then ints_in us (at + 2 + 2 * slice_index us (at + 1)) (slice_index us (at + 1))
    else [])

-- A branch has the start of an instruction as its target. A 31t has the start of a payload of its kind, whose targets,
-- counted from the instruction, are starts of instructions.
abbrev pub is_right_target : List ℕ → List Cut → ℕ → Format → ℤ → Bool
is_right_target us cs at F31t offset =
    is_payload_start (payload_ident (low_byte (slice_index us at))) us cs (pos at +ℤ offset)
    && list_all (λ t. is_instruction_start us cs (pos at +ℤ t)) (payload_targets us (nat_abs (pos at +ℤ offset)))
is_right_target us cs at _ offset = is_instruction_start us cs (pos at +ℤ offset)

-- the value, if there is one, passes the test
abbrev pub all_of_option : {X : Type 0} → (X → Bool) → Option X → Bool
all_of_option p o = option_map_or p o true

-- the piece is a payload, or an instruction whose target is valid, if it has one
unfoldable pub has_right_targets : List ℕ → List Cut → Cut → Bool
has_right_targets us cs c = is_payload_ident (slice_index us c.unit)
    || all_of_option (λ op. all_of_option (is_right_target us cs c.unit op.format) (branch_offset op.format us c.unit))
    (opcode_of (low_byte (slice_index us c.unit)))

-- the units are code, and cut into these pieces
pub record IsCode (us : List ℕ) (cs : List Cut) : Type 0 where
  pub some : 0 < length us
  pub cut : AreCut 0 us cs []
  pub targets : All (λ c. IsTrue (has_right_targets us cs c)) cs

-- ---- symbols

-- A piece: the units of an instruction, with zero for its index, and the symbol that the index names, if there is one;
-- or the units of a payload.
pub data Piece : Type 0 where
  Instruction : (units : List ℕ) → (symbol : Option Symbol) → Piece
  Payload : (units : List ℕ) → Piece

-- the units of a piece, without its index
abbrev pub units_of : Piece → List ℕ
units_of (Instruction us s) = us
units_of (Payload us) = us

-- the pool of a piece's index, if it has one
abbrev pub index_pool : List ℕ → Option Pool
index_pool us =
    if is_payload_ident (slice_index us 0) then None
    else option_and_then (λ op. op.index) (opcode_of (low_byte (slice_index us 0)))

-- const-string/jumbo alone has an index of 32 bits
abbrev pub is_wide_index : List ℕ → Bool
is_wide_index us = low_byte (slice_index us 0) == 0x1b

-- the index of an instruction that has one: its second unit, or its second and third
abbrev pub index_in : List ℕ → ℕ
index_in us = if is_wide_index us then two_units us 1 else slice_index us 1

-- the units with this index
abbrev pub with_index : ℕ → List ℕ → List ℕ
with_index i us = if is_wide_index us then slice_set (slice_set us 1 (i % 65536)) 2 (i / 65536) else slice_set us 1 i

-- The units encode the piece. `Names i s` says that index i denotes symbol s: in a file that row i of the symbol's
-- pool has it; in units that are not in a file, which have zero for each index, that i is 0.
abbrev pub DenotesPiece : (ℕ → Symbol → Type 0) → List ℕ → Piece → Type 0
DenotesPiece Names us (Instruction xs None) =
    (is_payload_ident (slice_index us 0) ≡ false) × (index_pool us ≡ None) × (xs ≡ us)
DenotesPiece Names us (Instruction xs (Some s)) =
    (index_pool us ≡ Some (pool_of s)) × Names (index_in us) s × (xs ≡ with_index 0 us)
DenotesPiece Names us (Payload xs) = (is_payload_ident (slice_index us 0) ≡ true) × (xs ≡ us)

-- the units of the piece at a cut
abbrev pub cut_units : List ℕ → Cut → List ℕ
cut_units us c = take c.units (drop c.unit us)
