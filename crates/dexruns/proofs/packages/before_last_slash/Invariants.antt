use Rattle.std.proofs.Common.{◌≡◌, [], vec_len}
use Rattle.std.specs.Option.{unwrap_or}
use Rattle.dexruns.specs.Packages.{before_last_slash}
use Rattle.dexruns.proofs.packages.before_last_slash.Given as goal

-- no slash was removed
abbrev pub invariant-loop-unit : goal.invariant-loop-unit
invariant-loop-unit l = unwrap_or (before_last_slash l.units.items) [] ≡ unwrap_or (before_last_slash l.fn.units.items) []

abbrev pub decreases-loop-unit : goal.decreases-loop-unit
decreases-loop-unit l = vec_len l.units
