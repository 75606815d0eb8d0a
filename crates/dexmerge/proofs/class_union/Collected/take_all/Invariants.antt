use Rattle.dexmerge.proofs.Common.{◌≡◌, ◌++◌, List, length, map, Definition, definitions, Mentions, mentions, definition_of}
use Rattle.dexmerge.specs.internal.Collecting.{IsPartOf, AreCollected}
use Rattle.dexmerge.proofs.class_union.Collected.take_all.Given as goal

abbrev pub invariant-loop-class : goal.invariant-loop-class
invariant-loop-class l = record {
  kept : l.renumbering ≡ l.remap;
  count : length l.self.is_name.items ≡ length l.fn.self.is_name.items;
  collected : (m : Mentions) (D : List Definition) → IsPartOf m l.fn.part l.remap → AreCollected m D l.fn.self.classes.items l.fn.self.is_name.items
      → AreCollected m (D ++ map (definition_of (mentions (definitions l.fn.part))) l.yielded) l.self.classes.items l.self.is_name.items;
}
