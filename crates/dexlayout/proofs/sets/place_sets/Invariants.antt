use Rattle.dexlayout.proofs.Common.{◌≡◌, ◌≤◌, length, drop, flat_map, sets_of_class, parts_of_classes, collect_classes}
use Rattle.dexlayout.proofs.sets.place_sets.Given as goal

-- placing what is left gives the whole
abbrev pub invariant-loop-class : goal.invariant-loop-class
invariant-loop-class l = record {
  collected : collect_classes l.sets (parts_of_classes (drop l.class-index l.input.classes.now) l.rest) ≡ collect_classes l.initial.sets (parts_of_classes l.input.classes.now l.initial.rest);
  enough : length (flat_map sets_of_class (drop l.class-index l.input.classes.now)) ≤ length l.rest;
}
