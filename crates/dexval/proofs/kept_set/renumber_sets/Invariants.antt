use Rattle.dexval.proofs.TablesRemapped.{AreSettled}
use Rattle.dexval.proofs.kept_set.renumber_sets.Given as goal

abbrev pub invariant-loop-i : goal.invariant-loop-i
invariant-loop-i l = AreSettled l.remap l.i l.initial.sets.items l.sets.items
