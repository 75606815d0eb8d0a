use Rattle.dexmembers.proofs.Common.{◌≡◌, map, take}
use Rattle.dexmembers.specs.internal.SharedCodes.{debug_in, stored_with}
use Rattle.dexmembers.proofs.shared_codes.SharedCodes.copy.Given as goal

abbrev pub invariant-loop-item : goal.invariant-loop-item
invariant-loop-item l = map stored_with l.items.items ≡ map stored_with (take l.item-index l.item-items)

abbrev pub invariant-loop-debug : goal.invariant-loop-debug
invariant-loop-debug l = map debug_in l.debugs.items ≡ map debug_in (take l.debug-index l.debug-items)
