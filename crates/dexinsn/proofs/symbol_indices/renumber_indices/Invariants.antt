use Rattle.dexinsn.proofs.Common.{renumbered_index}
use Rattle.dexinsn.proofs.Steps.{AreChanged}
use Rattle.dexinsn.proofs.symbol_indices.renumber_indices.Given as goal

abbrev pub invariant-loop-i : goal.invariant-loop-i
invariant-loop-i l = AreChanged (renumbered_index l.remap l.units) l.i l.initial.indices.items l.indices.items
