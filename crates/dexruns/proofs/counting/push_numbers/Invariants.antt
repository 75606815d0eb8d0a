use Rattle.dexruns.proofs.Common.{◌≡◌, ◌++◌, string_bytes, take, flat_map}
use Rattle.dexruns.specs.Counts.{number_cell}
use Rattle.dexruns.proofs.counting.push_numbers.Given as goal

-- the numbers so far are there
abbrev pub invariant-loop-number : goal.invariant-loop-number
invariant-loop-number l = record { printed : string_bytes l.text ≡ string_bytes l.fn.text ++ flat_map number_cell (take l.number-index l.numbers) }
