use Rattle.dexmerge.proofs.Common.{◌≡◌, ◌++◌, length, map, take, flat_map, definitions, Mentions}
use Rattle.dexmerge.specs.internal.Collecting.{ArePartsOf, AreCollected}
use Rattle.dexmerge.proofs.class_union.collect_classes.Given as goal

-- the classes of the first parts that are owned
abbrev pub invariant-loop-part : goal.invariant-loop-part
invariant-loop-part l = record {
  place : l.place ≡ length l.yielded;
  count : length l.all.is_name.items ≡ l.types;
  collected : (m : Mentions) → length m.types ≡ l.types → ArePartsOf m l.fn.owned.items l.own → AreCollected m (flat_map definitions (take l.place l.fn.owned.items)) l.all.classes.items l.all.is_name.items;
}

-- and of the first files
abbrev pub invariant-loop-i : goal.invariant-loop-i
invariant-loop-i l = record {
  count : length l.all.is_name.items ≡ l.types;
  collected : (m : Mentions) → length m.types ≡ l.types → ArePartsOf m l.fn.owned.items (take (length l.fn.owned.items) l.remaps) → ArePartsOf m (map (λ file. file.now) l.files) l.rest
      → AreCollected m (flat_map definitions l.fn.owned.items ++ flat_map definitions (take l.i (map (λ file. file.now) l.files))) l.all.classes.items l.all.is_name.items;
}
