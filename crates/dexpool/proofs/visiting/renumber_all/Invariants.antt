use Rattle.dexpool.proofs.Changed.{AreChanged}
use Rattle.dexpool.proofs.visiting.renumber_all.Given as goal

abbrev pub invariant-loop-i : goal.invariant-loop-i
invariant-loop-i g l = AreChanged (g.T.Renumber.remapped l.remap) l.i l.initial.items.items l.items.items
