use Rattle.std.proofs.Common.{◌≡◌, string_bytes, take}
use Rattle.std.specs.List.{flat_map}
use Rattle.dexkit_c.specs.Calls.{ended_name}
use Rattle.dexkit_c.proofs.digesting.ended.Given as goal

-- the names so far are there
abbrev pub invariant-loop-name : goal.invariant-loop-name
invariant-loop-name l = record { printed : string_bytes l.text ≡ flat_map ended_name (take l.name-index l.names) }
