use Rattle.dexpool.proofs.Common.{◌≡◌, ◌++◌, map, take, slice_index}
use Rattle.dexpool.proofs.renumbering.push_images.Given as goal

abbrev pub invariant-loop-i : goal.invariant-loop-i
invariant-loop-i l = l.to.items ≡ l.fn.to.items ++ map (slice_index l.images) (take l.i l.numbers)
