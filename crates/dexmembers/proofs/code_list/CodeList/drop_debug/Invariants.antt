use Rattle.dexmembers.proofs.Common.{◌≡◌, [], AreChanged}
use Rattle.dexmembers.proofs.CodeLists.{unplaced}
use Rattle.dexmembers.proofs.code_list.CodeList.drop_debug.Given as goal

abbrev pub invariant-loop-i : goal.invariant-loop-i
invariant-loop-i l = record {
  codes : AreChanged unplaced l.i l.initial.self-inside.items.items l.self-inside.items.items;
  debugs : l.self-inside.debugs.items ≡ [];
}
