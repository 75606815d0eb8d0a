use Rattle.dexval.proofs.Common.{map, arith, annotation_of, renumbered_annotation, AnnotationHasPlaces}
use Rattle.dexval.proofs.Renumbered.{next_member, remapped_more, annotations_placed}
use Rattle.dexval.proofs.set.AnnotationSet.renumber.Goals as goal

pub renumber-requires : goal.renumber-requires
renumber-requires c =
    let r = c.args.remap.now in
    next_member annotation_of (renumbered_annotation r) (AnnotationHasPlaces r) c.args.self.now.annotations.items c.loop-i.self.annotations.items c.loop-i.i c.index_mut.result.now c.loop-i.invariant (omega arith) (annotations_placed r (map annotation_of c.args.self.now.annotations.items) c.requires) c.index_mut.ensures.value

pub loop-i-preserved : goal.loop-i-preserved
loop-i-preserved c =
    remapped_more annotation_of (renumbered_annotation c.args.remap.now) c.args.self.now.annotations.items c.loop-i.self.annotations.items c.loop-i.i c.index_mut.result.now c.renumber.new.self c.loop-i.invariant (omega arith) c.index_mut.ensures.value c.renumber.ensures
