use Rattle.dexpool.proofs.Common.{◌≡◌, ◌++◌, map, take, drop, slice_index}
use Rattle.dexpool.proofs.renumbering.renumbered_numbers.Given as goal

abbrev pub invariant-loop-i : goal.invariant-loop-i
invariant-loop-i l = l.numbers.items ≡ map (slice_index l.images) (take l.i l.fn.numbers.items) ++ drop l.i l.fn.numbers.items
