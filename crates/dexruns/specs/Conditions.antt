-- Sets of conditions, as a flag for each number from 0 to 23. This project's rule.
use Rattle.std.specs.Prelude.{ℕ, Bool, true, false, List, get_or, set, replicate, fold, filter}
use Rattle.std.specs.List.{range_with_len}
use Rattle.dexruns.specs.declared.lines.Verdict.{Verdict}
use Rattle.dexruns.specs.declared.lines.Verdict.TheVariants.{Accepted, Refused}

-- no condition
abbrev pub no_conditions : List Bool
no_conditions = replicate 24 false

-- one more condition; there is none with a number above 23
abbrev pub with_condition : List Bool → ℕ → List Bool
with_condition conditions number = set conditions number true

-- whether a condition is among them
abbrev pub has_condition : List Bool → ℕ → Bool
has_condition conditions number = get_or conditions number false

-- their numbers, in order
abbrev pub condition_numbers : List Bool → List ℕ
condition_numbers conditions = filter (has_condition conditions) (range_with_len 0 24)

-- the conditions by which files are refused, with one more file
abbrev pub conditions_after : List Bool → Verdict → List Bool
conditions_after conditions (Accepted classes) = conditions
conditions_after conditions (Refused refusal) = with_condition conditions refusal.number

-- the conditions of some refusals, and those of verdicts
abbrev pub conditions_with : List Bool → List Verdict → List Bool
conditions_with conditions verdicts = fold conditions_after conditions verdicts
