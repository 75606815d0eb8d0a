-- The positions that a debug program records, as they are collected.
use Rattle.std.specs.Prelude.{ℕ, ℤ, pos, List, map}
use Rattle.dexdebug.specs.Positions.{positions_from}
use Rattle.dexdebug.specs.declared.debug_operation.Operation.{Operation}
use Rattle.dexdebug.specs.Debug.{unindexed_operation}

-- the positions of operations, from a line on
abbrev pub positions_of : ℕ → List Operation → List (ℕ × ℤ)
positions_of line_start ops = positions_from 0 (pos line_start) (map unindexed_operation ops)
