use Rattle.dexinsn.proofs.Common.{get_or, below_more, refl, arith, AreEqualMapped}
use Rattle.dexinsn.proofs.SameSteps.{zip_from}
use Rattle.dexinsn.proofs.same.eq_indices.Goals as goal

pub loop-i-preserved : goal.loop-i-preserved
loop-i-preserved c =
    below_more (λ k. AreEqualMapped c.args.mine.now c.args.theirs.now c.args.units.now (get_or c.args.indices.now k (record { unit = 0; number = 0 })) (get_or c.args.others.now k (record { unit = 0; number = 0 }))) c.loop-i.i c.loop-i.invariant
    (c.eq_index.ensures.0 c.if-not-eq_index.false)

pub returns : goal.returns
returns c = (
  λ yes. zip_from (AreEqualMapped c.args.mine.now c.args.theirs.now c.args.units.now) c.args.indices.now c.args.others.now (record { unit = 0; number = 0 }) c.if-indices-others.false (λ k lt. c.loop-i.invariant k (omega arith)),
  λ h. refl,
)
