use Rattle.dexorder.proofs.Common.{◌∙◌, ap, arith, Some, length-set}
use Rattle.dexorder.proofs.ByType.{by_type_next}
use Rattle.dexorder.proofs.parents.classes_by_type.Goals as goal

pub loop-i-preserved : goal.loop-i-preserved
loop-i-preserved g c =
    let name_of = g.C.HasParents.name_of in
    let name = c.name.ensures ∙ ap name_of c.index-classes-i.is in
    record {
      count = length-set c.loop-i.by_type.items c.name.result (Some c.loop-i.i) ∙ c.loop-i.invariant.count;
      done = by_type_next name_of c.args.classes.now c.loop-i.by_type.items c.loop-i.i c.name.result c.index-classes-i.result c.loop-i-test.true c.loop-i.invariant.done name
          (omega (arith, c.loop-i.invariant.count, name, c.requires c.loop-i.i c.index-classes-i.result c.loop-i-test.true));
    }
