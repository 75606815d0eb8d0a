use Rattle.dexlayout.proofs.Common.{◌≡◌, map, drop, encode_uses, no_items_from, static_item}
use Rattle.dexlayout.proofs.values.place_static_values.Given as goal

-- encoding what is left gives the whole
abbrev pub invariant-loop-class : goal.invariant-loop-class
invariant-loop-class l = encode_uses 1 l.items (map (static_item l.input.numbering.now) (drop l.class-index l.input.classes.now)) ≡ encode_uses 1 (no_items_from l.fn.from) (map (static_item l.input.numbering.now) l.input.classes.now)
