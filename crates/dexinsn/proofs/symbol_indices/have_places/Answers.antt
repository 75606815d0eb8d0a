use Rattle.dexinsn.proofs.Common.{refl, subst, arith, All, take_all, All-more, HasPlaceAt}
use Rattle.dexinsn.proofs.symbol_indices.have_places.Goals as goal

pub loop-index-preserved : goal.loop-index-preserved
loop-index-preserved c =
    All-more (HasPlaceAt c.args.remap.now c.args.units.now) c.args.indices.now c.loop-index.index-index (record { unit = 0; number = 0 }) c.loop-index-test.true c.loop-index.invariant (c.has_place.ensures.0 c.if-not-has_place.false)

pub returns : goal.returns
returns c = (λ yes. subst (All (HasPlaceAt c.args.remap.now c.args.units.now)) (take_all c.loop-index.index-index c.args.indices.now (omega arith)) c.loop-index.invariant, λ all. refl)
