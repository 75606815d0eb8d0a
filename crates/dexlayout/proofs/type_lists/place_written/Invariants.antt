use Rattle.dexlayout.proofs.Common.{◌≡◌, map, drop, Some, EncodedItems, encode_uses, list_bytes, encoded_lists}
use Rattle.dexlayout.proofs.type_lists.place_written.Given as goal

-- the lists before end at these places, and encoding what is left gives the whole
abbrev pub invariant-loop-key : goal.invariant-loop-key
invariant-loop-key l = (items : EncodedItems) × (items.places ≡ l.places) × (encode_uses 4 items (map (λ ns. Some (list_bytes ns)) (drop l.key-index l.lists)) ≡ encoded_lists l.fn.from l.lists)
