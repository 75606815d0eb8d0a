use Rattle.dexclass.proofs.Common.{map, take, AreMarkedToo}
use Rattle.dexclass.specs.{type_use}
use Rattle.dexclass.proofs.marking.mark_types.Given as goal

abbrev pub invariant-loop-k : goal.invariant-loop-k
invariant-loop-k l = AreMarkedToo (map type_use (take l.k l.types)) l.initial.marks l.marks
