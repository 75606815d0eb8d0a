use Rattle.dexpool.proofs.Common.{ap, map, ◌∙◌, subst, take_all, AreSorted, IsJoin, lists_in}
use Rattle.std.specs.Prelude.{IfOk}
use Rattle.dexpool.proofs.Pairs.{all_seen, seen_more}
use Rattle.dexpool.proofs.joined_tables.join_rows.Goals as goal

pub loop-part-preserved : goal.loop-part-preserved
loop-part-preserved g c =
    seen_more (λ slice. slice.now) (λ part. part.items) c.loop-part.slices.items c.push.new.self.items c.args.parts.now c.loop-part.part-index c.as_slice.result c.part-item.result c.loop-part-test.true c.loop-part.invariant c.in_ok-push.ensures.items
    (c.as_slice.ensures.value ∙ ap (λ part. part.items) c.part-item.is)

pub join-requires : goal.join-requires
join-requires g c =
    all_seen (λ slice. slice.now) (λ part. part.items) (AreSorted g.R.Row.key_of) c.deref.result.now c.args.parts.now
    (ap (map (λ slice. slice.now)) c.deref.ensures.value ∙ c.loop-part.invariant ∙ ap (map (λ part. part.items)) (take_all c.loop-part.part-index c.args.parts.now c.loop-part-test.false)) c.requires

pub returns : goal.returns
returns g c = subst (λ rows. IfOk c.join.result (λ joined. IsJoin g.R.Row.key_of rows joined.rows.items (lists_in joined.images.items)))
    (ap (map (λ slice. slice.now)) c.deref.ensures.value ∙ c.loop-part.invariant ∙ ap (map (λ part. part.items)) (take_all c.loop-part.part-index c.args.parts.now c.loop-part-test.false)) c.join.ensures
