use Rattle.dexclass.proofs.Common.{◌≡◌, map, take, None, slice_index_or}
use Rattle.dexclass.proofs.ordering.known_depths.Given as goal

abbrev pub invariant-loop-i : goal.invariant-loop-i
invariant-loop-i l = l.depths.items ≡ map (λ c. slice_index_or l.by_name c.name None) (take l.i l.classes)
