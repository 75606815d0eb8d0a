use Rattle.dexmembers.proofs.Common.{◌≡◌, map, take}
use Rattle.dexdebug.specs.Debug.{renumbered_debug}
use Rattle.dexmembers.specs.internal.SharedCodes.{debug_in}
use Rattle.dexmembers.proofs.shared_codes.debug_images.Given as goal

abbrev pub invariant-loop-debug : goal.invariant-loop-debug
invariant-loop-debug l = record {
  kept : l.remapped ≡ l.initial.remapped;
  images : map debug_in l.images.items ≡ map (λ x. renumbered_debug l.initial.remapped (debug_in x)) (take l.debug-index l.debug-items);
}
