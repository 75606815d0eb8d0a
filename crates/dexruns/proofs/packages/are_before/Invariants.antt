use Rattle.std.proofs.Common.{◌≡◌, map, take}
use Rattle.dexruns.specs.internal.Halves.{is_before}
use Rattle.dexruns.proofs.packages.are_before.Given as goal

-- the packages so far have flags
abbrev pub invariant-loop-name : goal.invariant-loop-name
invariant-loop-name l = record { flags : l.flags.items ≡ map (is_before l.bound) (take l.name-index l.packages) }
