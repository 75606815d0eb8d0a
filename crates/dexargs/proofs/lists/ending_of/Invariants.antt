use Rattle.std.proofs.Common.{◌≡◌, drop, map, string_bytes}
use Rattle.dexargs.specs.Lists.{ending_of}
use Rattle.dexargs.proofs.lists.ending_of.Given as goal

-- the first arguments decide nothing
abbrev pub invariant-loop-argument : goal.invariant-loop-argument
invariant-loop-argument l = record { rest : ending_of (map string_bytes l.arguments) ≡ ending_of (map string_bytes (drop l.argument-index l.arguments)) }
