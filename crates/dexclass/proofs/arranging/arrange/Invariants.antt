use Rattle.dexclass.proofs.Arranged.{AreArranged}
use Rattle.dexclass.proofs.arranging.arrange.Given as goal

abbrev pub invariant-loop-k : goal.invariant-loop-k
invariant-loop-k g l = AreArranged l.fn.elements.items l.elements.items l.order l.places.items l.owners.items l.k
