use Rattle.dexclass.proofs.Common.{◌∙◌, ap, length, arith, get_or_default}
use Rattle.std.proofs.lemmas.List.Edits.{length-swap}
use Rattle.dexclass.proofs.Arranged.{none_arranged, more_arranged, all_arranged}
use Rattle.dexclass.proofs.arranging.arrange.Goals as goal

pub loop-k-init : goal.loop-k-init
loop-k-init g c = none_arranged c.args.elements.now.items c.args.order.now _ c.in_ok-places.places.items c.in_ok-owners.owners.items c.requires.count c.in_ok-places.ensures (c.in_ok-owners.ensures.items ∙ c.deref.ensures.value)

pub loop-k-preserved : goal.loop-k-preserved
loop-k-preserved g c =
    more_arranged c.args.elements.now.items c.loop-k.elements.items c.swap.new.self.items c.args.order.now c.loop-k.places.items c.loop-k.owners.items c.loop-k.k c.requires.distinct c.requires.count c.loop-k-test.true c.requires.within c.loop-k.invariant
    c.index-place.result.now c.index-owner.result.now
    (c.index-place.ensures ∙ get_or_default c.loop-k.places.items _ c.index-place.result.now 0 (omega (arith, (c.requires.within c.loop-k.k 0 c.loop-k-test.true), c.loop-k.invariant.place_count)))
    (c.index-owner.ensures ∙ get_or_default c.loop-k.owners.items _ c.index-owner.result.now 0 (omega (arith, c.loop-k-test.true, c.requires.count, c.loop-k.invariant.owner_count)))
    c.swap.ensures.by_index (ap length c.swap.ensures.items ∙ length-swap c.loop-k.elements.items c.loop-k.k c.index-place.result.now)

pub returns : goal.returns
returns g c = λ d. all_arranged c.args.elements.now.items c.loop-k.elements.items c.args.order.now c.loop-k.places.items c.loop-k.owners.items c.loop-k.k d c.requires.count (omega (arith, c.loop-k-test.false, c.loop-k.auto.k-end)) c.loop-k.invariant
