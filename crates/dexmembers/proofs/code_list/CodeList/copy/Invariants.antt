use Rattle.dexmembers.proofs.Common.{◌≡◌, take}
use Rattle.dexmembers.proofs.code_list.CodeList.copy.Given as goal

abbrev pub invariant-loop-item : goal.invariant-loop-item
invariant-loop-item l = l.items.items ≡ take l.item-index l.item-items

abbrev pub invariant-loop-debug : goal.invariant-loop-debug
invariant-loop-debug l = l.debugs.items ≡ take l.debug-index l.debug-items
