use Rattle.dexrows.proofs.Common.{◌≡◌, ◌++◌, map, take, drop, slice_index}
use Rattle.dexrows.proofs.places.compose.Given as goal

abbrev pub invariant-loop-i : goal.invariant-loop-i
invariant-loop-i l = l.image ≡ map (slice_index l.places) (take l.i l.fn.image) ++ drop l.i l.fn.image
