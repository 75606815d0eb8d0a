-- The positions that a debug program records. Source: "Dalvik Executable format", "State machine".
use Rattle.std.specs.Prelude.{ℕ, ℤ, pos, ◌+ℤ◌, ◌-ℤ◌, ◌+◌, ◌-◌, ◌/◌, ◌%◌, Bool, true, false, if◌then◌else◌, List, []}
use Rattle.std.specs.Prelude.{◌∷◌}
use Rattle.dexspec.specs.Debug.{Operation, AdvancePc, AdvanceLine, Special, Debug}

-- an operation that records a position
abbrev pub is_special : Operation → Bool
is_special (Special opcode) = true
is_special _ = false

-- the number by which an operation advances the address
abbrev pub address_step : Operation → ℕ
address_step (AdvancePc addresses) = addresses
address_step (Special opcode) = (opcode - 10) / 15
address_step _ = 0

-- the number by which it advances the line
abbrev pub line_step : Operation → ℤ
line_step (AdvanceLine lines) = lines
line_step (Special opcode) = pos ((opcode - 10) % 15) -ℤ pos 4
line_step _ = pos 0

-- the positions of the special operations, from an address and a line on
abbrev pub positions_from : ℕ → ℤ → List Operation → List (ℕ × ℤ)
positions_from address line [] = []
positions_from address line (op ∷ ops) =
    let rest = positions_from (address + address_step op) (line +ℤ line_step op) ops in
    if is_special op then (address + address_step op, line +ℤ line_step op) ∷ rest else rest

-- address and line of each special operation: the sums of the steps up to it, from 0 and the line start
abbrev pub positions : Debug → List (ℕ × ℤ)
positions d = positions_from 0 (pos d.line_start) d.operations
