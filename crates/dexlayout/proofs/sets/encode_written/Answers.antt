use Rattle.dexlayout.proofs.Common.{◌≡◌, ℕ, List, Bor, length, map, sym, ap, ◌∙◌, arith, length-map, drop_all, Annotation, annotation_of, set_of, NumberedSet, encode_uses, annotation_counts, offset_lists, set_item}
use Rattle.dexval.specs.declared.set.AnnotationSet.{AnnotationSet}
use Rattle.dexlayout.proofs.EncodedUses.{all_encoded_by, use_encoded, use_fits}
use Rattle.dexlayout.proofs.RefLists.{next_counts, list_enough, enough_left, next_list}
use Rattle.dexlayout.proofs.sets.encode_written.Goals as goal

-- how many annotations a set has
abbrev count_of : Bor AnnotationSet → ℕ
count_of s = length (set_of s.now)

-- as many as were seen
count_is : (xs : List Annotation) (s : NumberedSet) → map annotation_of xs ≡ s → length xs ≡ length s
count_is xs s e = sym (length-map xs annotation_of) ∙ ap (λ (l : NumberedSet). length l) e

pub loop-set-init : goal.loop-set-init
loop-set-init c = record { encoded = ap (λ p. encode_uses 4 p (offset_lists set_item (annotation_counts c.args.input.now.written.now) c.args.offs.now)) c.in_ok-items.ensures; enough = c.requires.enough }

pub split_at-requires : goal.split_at-requires
split_at-requires c =
    let counts = next_counts count_of c.args.input.now.written.now c.loop-set.set-index c.set-item.result (length c.annotations.result.now) c.loop-set-test.true (sym c.set-item.is) (count_is c.annotations.result.now (set_of c.set-item.result.now) c.annotations.ensures) in
    list_enough c.loop-set.rest.now counts c.loop-set.invariant.enough

pub put_offsets-requires : goal.put_offsets-requires
put_offsets-requires c =
    let counts = next_counts count_of c.args.input.now.written.now c.loop-set.set-index c.set-item.result (length c.annotations.result.now) c.loop-set-test.true (sym c.set-item.is) (count_is c.annotations.result.now (set_of c.set-item.result.now) c.annotations.ensures) in
    omega (arith, use_fits 4 c.loop-set.items (next_list c.loop-set.rest.now counts c.split_at.ensures.back set_item c.split_at.ensures.front) c.loop-set.invariant.encoded, c.requires.fits)

pub loop-set-preserved : goal.loop-set-preserved
loop-set-preserved c =
    let counts = next_counts count_of c.args.input.now.written.now c.loop-set.set-index c.set-item.result (length c.annotations.result.now) c.loop-set-test.true (sym c.set-item.is) (count_is c.annotations.result.now (set_of c.set-item.result.now) c.annotations.ensures) in
    record {
      encoded = use_encoded 4 c.loop-set.items (next_list c.loop-set.rest.now counts c.split_at.ensures.back set_item c.split_at.ensures.front) c.loop-set.invariant.encoded c.in_ok-put_offsets.ensures;
      enough = enough_left c.loop-set.rest.now counts c.split_at.ensures.back c.loop-set.invariant.enough;
    }

pub returns : goal.returns
returns c = all_encoded_by 4 (ap (λ xs. offset_lists set_item (annotation_counts xs) c.loop-set.rest.now) (drop_all c.loop-set.set-index c.args.input.now.written.now c.loop-set-test.false)) c.loop-set.invariant.encoded
