use Rattle.dexclass.proofs.Common.{◌≡◌, map, take}
use Rattle.dexclass.proofs.ordering.names.Given as goal

abbrev pub invariant-loop-i : goal.invariant-loop-i
invariant-loop-i l = l.names.items ≡ map (λ c. c.name) (take l.i l.classes)
