use Rattle.std.proofs.Common.{◌≡◌, drop, map, string_bytes}
use Rattle.dexargs.specs.Verbosity.{is_verbose}
use Rattle.dexargs.proofs.verbosity.is_verbose.Given as goal

-- the first arguments decide nothing
abbrev pub invariant-loop-argument : goal.invariant-loop-argument
invariant-loop-argument l = record { rest : is_verbose (map string_bytes l.arguments) ≡ is_verbose (map string_bytes (drop l.argument-index l.arguments)) }
