use Rattle.dexmerge.proofs.Common.{◌∙◌, ◌<◌, length, None, get_or, refl, sym, arith, length-set}
use Rattle.dexmerge.specs.{classes_of}
use Rattle.dexmerge.proofs.CandidatePlaces.{count_classes, name_at_place}
use Rattle.dexmerge.proofs.CycleLaws.{by_name_more, by_name_is}
use Rattle.dexmerge.proofs.union_checks.depths_by_name.Goals as goal

pub index_mut-requires : goal.index_mut-requires
index_mut-requires c =
    let few : c.loop-i.i < length (classes_of c.args.classes.now) = omega (arith, c.loop-i-test.true, count_classes c.args.classes.now) in
    omega (arith, c.name.ensures ∙ name_at_place c.args.classes.now c.loop-i.i c.index-classes-i.result c.loop-i-test.true c.index-classes-i.is, c.loop-i.invariant.count, c.requires.kept.1, c.requires.kept.2.named.names c.loop-i.i few)

pub loop-i-preserved : goal.loop-i-preserved
loop-i-preserved c =
    let cs = classes_of c.args.classes.now in
    let few : c.loop-i.i < length cs = omega (arith, c.loop-i-test.true, count_classes c.args.classes.now) in
    record {
      count = length-set c.loop-i.by_name.items c.name.result (get_or c.args.depths.now c.loop-i.i None) ∙ c.loop-i.invariant.count;
      entered = by_name_more c.requires.kept.0 cs c.requires.kept.2 c.args.depths.now c.loop-i.by_name.items c.loop-i.i c.name.result (get_or c.args.depths.now c.loop-i.i None) few
          (c.loop-i.invariant.count ∙ sym c.requires.kept.1) (c.name.ensures ∙ name_at_place c.args.classes.now c.loop-i.i c.index-classes-i.result c.loop-i-test.true c.index-classes-i.is) refl c.loop-i.invariant.entered;
    }

pub returns : goal.returns
returns c = λ m types kept h.
    by_name_is m (classes_of c.args.classes.now) kept c.args.depths.now c.loop-i.by_name.items (c.loop-i.invariant.count ∙ sym types) (λ k lt. c.loop-i.invariant.entered k (omega (arith, lt, count_classes c.args.classes.now))) h
