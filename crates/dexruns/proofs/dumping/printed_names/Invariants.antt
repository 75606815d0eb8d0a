use Rattle.std.proofs.Common.{◌≡◌, map, take, string_bytes}
use Rattle.dexout.specs.Printed.{shown}
use Rattle.dexruns.proofs.dumping.printed_names.Given as goal

-- the names of the classes so far
abbrev pub invariant-loop-i : goal.invariant-loop-i
invariant-loop-i l = map string_bytes l.printed.items ≡ map shown (take l.i l.names.items)
