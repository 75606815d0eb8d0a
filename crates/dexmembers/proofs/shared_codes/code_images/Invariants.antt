use Rattle.dexmembers.proofs.Common.{◌≡◌, map, take}
use Rattle.dexmembers.specs.{remapped_code}
use Rattle.dexmembers.specs.internal.SharedCodes.{stored_with}
use Rattle.dexmembers.proofs.shared_codes.code_images.Given as goal

abbrev pub invariant-loop-item : goal.invariant-loop-item
invariant-loop-item l = record {
  kept : l.remapped ≡ l.initial.remapped;
  images : map stored_with l.images.items ≡ map (λ x. remapped_code l.initial.remapped (stored_with x)) (take l.item-index l.item-items);
}
