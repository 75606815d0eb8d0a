use Rattle.dexlayout.proofs.Common.{drop, class_data_items, encode_uses, no_items_from}
use Rattle.dexlayout.proofs.DataItems.{DataLeft}
use Rattle.dexlayout.proofs.bodies.place_class_data.Given as goal

abbrev pub invariant-loop-class : goal.invariant-loop-class
invariant-loop-class l = DataLeft l.items (drop l.class-index l.input.classes.now) l.rest (encode_uses 1 (no_items_from l.codes.end) (class_data_items l.input.classes.now l.codes.offsets))
