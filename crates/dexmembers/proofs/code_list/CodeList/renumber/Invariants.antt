use Rattle.dexmembers.proofs.Common.{◌≡◌, AreChanged}
use Rattle.dexdebug.specs.Debug.{renumbered_debug}
use Rattle.dexmembers.proofs.code_list.CodeList.renumber.Given as goal

abbrev pub invariant-loop-i : goal.invariant-loop-i
invariant-loop-i l = record {
  debugs : AreChanged (renumbered_debug l.remap) l.i l.initial.self-inside.debugs.items l.self-inside.debugs.items;
  codes : l.self-inside.items.items ≡ l.initial.self-inside.items.items;
}
