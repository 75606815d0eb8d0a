use Rattle.std.proofs.Common.{◌≡◌, take}
use Rattle.dexruns.specs.Names.{escaped_name}
use Rattle.dexruns.proofs.names.first_control.Given as goal

-- the first i bytes are no control characters
abbrev pub invariant-loop-i : goal.invariant-loop-i
invariant-loop-i l = record { plain : escaped_name (take l.i l.bytes) ≡ take l.i l.bytes }
