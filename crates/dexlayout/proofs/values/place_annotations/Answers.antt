use Rattle.dexlayout.proofs.Common.{ℕ, ◌+◌, ◌++◌, List, Option, Some, Bor, map, drop, sym, ap, subst, ◌∙◌, arith, All, map-map, Mentions, Annotation, annotation_of, set_of, NumberedAnnotation, IsKnownAnnotation, IsKnownSet, flat_map, drop_all, encode_uses, annotation_item, annotation_items, set_annotations, ◌≡◌, refl, annotation_in, ◌∷◌, ◌^◌, ◌≤◌, encode_use}
use Rattle.dexval.specs.declared.set.AnnotationSet.{AnnotationSet}
use Rattle.dexlayout.proofs.EncodedUses.{all_encoded_by, use_encoded, use_fits, drop_next, align_one, ended, ended_fits}
use Rattle.dexlayout.proofs.SetsAreAt.{known_at}
use Rattle.dexlayout.proofs.Counted.{annotation_counted}
use Rattle.dexlayout.proofs.values.place_annotations.Goals as goal
use Rattle.dexlayout.proofs.values.place_annotations.Goals.{In_ok-put_annotation}

-- the item of an annotation, and those of a set
abbrev item_of : Mentions → Annotation → Option (List ℕ)
item_of m a = Some (annotation_item m (annotation_of a))

abbrev items_of : Mentions → Bor AnnotationSet → List (Option (List ℕ))
items_of m s = annotation_items m (set_of s.now)

pub loop-set-init : goal.loop-set-init
loop-set-init c = ap (λ p. encode_uses 1 p (set_annotations c.args.input.now.numbering.now c.args.input.now.written.now)) c.in_ok-items.ensures

pub loop-annotation-init : goal.loop-annotation-init
loop-annotation-init c =
    let m = c.args.input.now.numbering.now in
    let one = λ (a : NumberedAnnotation). Some (annotation_item m a) in
    let next = ap (flat_map (items_of m)) (drop_next c.args.input.now.written.now c.loop-set.set-index c.set-item.result c.loop-set-test.true (sym c.set-item.is)) in
    ap (encode_uses 1 c.loop-set.items) (ap (λ us. us ++ (set_annotations m (drop (c.loop-set.set-index + 1) c.args.input.now.written.now))) (sym (map-map one annotation_of c.annotations-annotation-items.result.now) ∙ ap (map one) c.annotations-annotation-items.ensures) ∙ sym next) ∙ c.loop-set.invariant

-- what is known of an annotation
known : (c : In_ok-put_annotation) → IsKnownAnnotation c.args.input.now.numbering.now (annotation_of c.annotation-item.result)
known c =
    let m = c.args.input.now.numbering.now in
    known_at m annotation_of c.annotations-annotation-items.result.now c.loop-annotation.annotation-index c.annotation-item.result c.loop-annotation-test.true (sym c.annotation-item.is)
    (subst (All (IsKnownAnnotation m)) (sym c.annotations-annotation-items.ensures) (subst (λ (s : Bor AnnotationSet). IsKnownSet m (set_of s.now)) (sym c.set-item.is) (c.requires.known c.loop-set.set-index c.set-item.result c.loop-set-test.true)))

-- it is the next item, and ends within the file
next : (c : In_ok-put_annotation) → map (item_of c.args.input.now.numbering.now) (drop c.loop-annotation.annotation-index c.annotations-annotation-items.result.now) ++ set_annotations c.args.input.now.numbering.now (drop (c.loop-set.set-index + 1) c.args.input.now.written.now)
    ≡ item_of c.args.input.now.numbering.now c.annotation-item.result ∷ (map (item_of c.args.input.now.numbering.now) (drop (c.loop-annotation.annotation-index + 1) c.annotations-annotation-items.result.now) ++ set_annotations c.args.input.now.numbering.now (drop (c.loop-set.set-index + 1) c.args.input.now.written.now))
next c = ap (λ us. us ++ set_annotations c.args.input.now.numbering.now (drop (c.loop-set.set-index + 1) c.args.input.now.written.now))
    (ap (map (item_of c.args.input.now.numbering.now)) (drop_next c.annotations-annotation-items.result.now c.loop-annotation.annotation-index c.annotation-item.result c.loop-annotation-test.true (sym c.annotation-item.is)))

fits : (c : In_ok-put_annotation) → (encode_use 1 c.loop-annotation.items (item_of c.args.input.now.numbering.now c.annotation-item.result)).places.end ≤ 2 ^ 30
fits c = omega (arith, use_fits 1 c.loop-annotation.items (next c) c.loop-annotation.invariant, c.requires.fits)

-- its bytes were put
put : (c : In_ok-put_annotation) → c.put_annotation.new.out.items ≡ c.items.inside.bytes.items ++ annotation_item c.args.input.now.numbering.now (annotation_of c.annotation-item.result)
put c =
    let m = c.args.input.now.numbering.now in
    let a = annotation_of c.annotation-item.result in
    (c.in_ok-put_annotation.ensures.symbolic (annotation_in m a) (annotation_counted m a (omega (arith, fits c))) (record { known = known c; means = refl })).ok

pub end_item-requires-clause-fits : goal.end_item-requires-clause-fits
end_item-requires-clause-fits c =
    let here = (goal.at.end_item-requires-clause-fits c).In_ok-put_annotation in
    ended_fits _ (c.items.view_is ∙ sym (align_one c.loop-annotation.items)) (c.len-before.ensures ∙ c.items.inside.bytes.ok.0) (put here) (fits here)

pub loop-annotation-preserved : goal.loop-annotation-preserved
loop-annotation-preserved c =
    let here = (goal.at.loop-annotation-preserved c).In_ok-put_annotation in
    use_encoded 1 c.loop-annotation.items (next here) c.loop-annotation.invariant
    (c.in_ok-end_item.ensures ∙ ended (annotation_item c.args.input.now.numbering.now (annotation_of c.annotation-item.result)) (c.items.view_is ∙ sym (align_one c.loop-annotation.items)) (c.len-before.ensures ∙ c.items.inside.bytes.ok.0) (put here))

pub loop-set-preserved : goal.loop-set-preserved
loop-set-preserved c =
    let none = ap (map (item_of c.args.input.now.numbering.now)) (drop_all c.loop-annotation.annotation-index c.annotations-annotation-items.result.now c.loop-annotation-test.false) in
    ap (λ us. encode_uses 1 c.loop-annotation.items (us ++ set_annotations c.args.input.now.numbering.now (drop (c.loop-set.set-index + 1) c.args.input.now.written.now))) (sym none) ∙ c.loop-annotation.invariant

pub returns : goal.returns
returns c = all_encoded_by 1 (ap (flat_map (items_of c.args.input.now.numbering.now)) (drop_all c.loop-set.set-index c.args.input.now.written.now c.loop-set-test.false)) c.loop-set.invariant
