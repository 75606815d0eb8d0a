use Rattle.dexlayout.proofs.Common.{◌≡◌, ◌≤◌, length, drop, encode_uses, no_items_from, annotation_counts, offset_lists, set_item, total}
use Rattle.dexlayout.proofs.sets.encode_written.Given as goal

-- encoding what is left gives the whole
abbrev pub invariant-loop-set : goal.invariant-loop-set
invariant-loop-set l = record {
  encoded : encode_uses 4 l.items (offset_lists set_item (annotation_counts (drop l.set-index l.input.written.now)) l.rest) ≡ encode_uses 4 (no_items_from l.from) (offset_lists set_item (annotation_counts l.input.written.now) l.offs);
  enough : total (annotation_counts (drop l.set-index l.input.written.now)) ≤ length l.rest;
}
