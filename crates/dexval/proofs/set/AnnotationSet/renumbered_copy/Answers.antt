use Rattle.dexval.proofs.Common.{length, map, ap, arith, annotation_of, renumbered_annotation, AnnotationHasPlaces}
use Rattle.dexval.proofs.Renumbered.{annotations_placed}
use Rattle.dexval.proofs.RenumberedCopies.{next_copied, copied_more, copied_all}
use Rattle.dexval.proofs.set.AnnotationSet.renumbered_copy.Goals as goal

pub renumbered_copy-requires : goal.renumbered_copy-requires
renumbered_copy-requires c =
    let r = c.args.remap.now in
    let old = c.args.self.now.annotations.items in
    next_copied annotation_of (renumbered_annotation r) old c.deref-annotation-items.result.now c.deref-annotation-items.ensures.value (AnnotationHasPlaces r) c.loop-annotation.annotation-index c.annotation-item.result c.loop-annotation-test.true c.annotation-item.is (annotations_placed r (map annotation_of old) c.requires)

pub push_reserved-requires : goal.push_reserved-requires
push_reserved-requires c = omega (arith, c.loop-annotation.invariant.room, ap (λ l. length l) c.deref-annotation-items.ensures.value)

pub loop-annotation-preserved : goal.loop-annotation-preserved
loop-annotation-preserved c =
    let put = c.push_reserved.ensures in
    copied_more annotation_of (renumbered_annotation c.args.remap.now) c.args.self.now.annotations.items c.deref-annotation-items.result.now c.deref-annotation-items.ensures.value c.loop-annotation.annotation-index c.annotation-item.result c.in_ok-renumbered_copy.field-0 c.loop-annotation.annotations c.push_reserved.new.self c.loop-annotation-test.true c.annotation-item.is c.loop-annotation.invariant c.in_ok-renumbered_copy.ensures put.items put.len put.capacity

pub returns : goal.returns
returns c =
    copied_all annotation_of (renumbered_annotation c.args.remap.now) c.args.self.now.annotations.items c.deref-annotation-items.result.now c.deref-annotation-items.ensures.value c.loop-annotation.annotation-index c.loop-annotation.annotations c.loop-annotation-test.false c.loop-annotation.invariant
