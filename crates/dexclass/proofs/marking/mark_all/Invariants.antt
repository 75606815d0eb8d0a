use Rattle.dexclass.proofs.Common.{map, take, AreMarkedToo}
use Rattle.dexclass.specs.{use_of}
use Rattle.dexclass.proofs.marking.mark_all.Given as goal

abbrev pub invariant-loop-number : goal.invariant-loop-number
invariant-loop-number l = AreMarkedToo (map (use_of l.kind) (take l.number-index l.numbers)) l.initial.marks l.marks
