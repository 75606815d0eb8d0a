use Rattle.std.proofs.Common.{◌≡◌, ◌++◌, take, string_bytes}
use Rattle.dexout.specs.Printed.{shown}
use Rattle.dexruns.proofs.packages.push_units.Given as goal

-- the units so far are there
abbrev pub invariant-loop-unit : goal.invariant-loop-unit
invariant-loop-unit l = record { printed : string_bytes l.text ≡ string_bytes l.fn.text ++ shown (take l.unit-index l.units) }
