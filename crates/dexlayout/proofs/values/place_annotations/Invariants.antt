use Rattle.dexlayout.proofs.Common.{◌≡◌, ◌+◌, ◌++◌, map, drop, Some, annotation_of, encode_uses, no_items_from, annotation_item, set_annotations}
use Rattle.dexlayout.proofs.values.place_annotations.Given as goal

-- encoding what is left gives the whole
abbrev pub invariant-loop-set : goal.invariant-loop-set
invariant-loop-set l = encode_uses 1 l.items (set_annotations l.input.numbering.now (drop l.set-index l.input.written.now)) ≡ encode_uses 1 (no_items_from l.from) (set_annotations l.input.numbering.now l.input.written.now)

-- what is left of a set, and the sets after it
abbrev pub invariant-loop-annotation : goal.invariant-loop-annotation
invariant-loop-annotation l =
    encode_uses 1 l.items (map (λ a. Some (annotation_item l.input.numbering.now (annotation_of a))) (drop l.annotation-index l.annotation-items) ++ set_annotations l.input.numbering.now (drop (l.set-index + 1) l.input.written.now))
    ≡ encode_uses 1 (no_items_from l.from) (set_annotations l.input.numbering.now l.input.written.now)
