use Rattle.dexclass.proofs.checked_lists.CheckedLists.end_from.Given as goal

abbrev pub invariant-loop-range : goal.invariant-loop-range
invariant-loop-range l = Unit {0}
