use Rattle.std.proofs.Common.{◌≡◌, ◌++◌, map, string_bytes}
use Rattle.std.specs.Prelude.{filter}
use Rattle.std.specs.List.{flat_map, range_with_len}
use Rattle.dexruns.specs.Conditions.{has_condition}
use Rattle.dexcmd.specs.Explaining.{condition_lines}
use Rattle.dexcmd.proofs.explaining.push_conditions.Given as goal

-- the lines of the conditions with the numbers so far are there
abbrev pub invariant-loop-number : goal.invariant-loop-number
invariant-loop-number l = map string_bytes l.lines.items
    ≡ map string_bytes l.fn.lines.items ++ flat_map (condition_lines (map (λ text. text.now) l.remedies.meanings.now) (map (λ text. text.now) l.remedies.remedies.now)) (filter (has_condition l.conditions) (range_with_len 0 l.number))
