use Rattle.dexval.proofs.Common.{inl, inr, arith}
use Rattle.dexval.proofs.LowBytes.{zero_less, left_is}
use Rattle.dexval.proofs.widths.bits_width.Goals as goal

pub loop-left-preserved : goal.loop-left-preserved
loop-left-preserved c = record {
  some = omega arith;
  few = omega (arith, c.loop-left.invariant.few);
  whole = zero_less c.args.width c.loop-left.left c.args.bits c.loop-left.rest (omega arith) c.loop-left.invariant.few c.loop-left.invariant.whole (omega arith);
}

pub returns-else-rest-eq0-clause-width : goal.returns-else-rest-eq0-clause-width
returns-else-rest-eq0-clause-width c =
    let i = c.loop-left.invariant in left_is c.args.width c.loop-left.left c.args.bits c.loop-left.rest i.some i.few c.requires.few i.whole (inr (λ is. absurd (omega (arith, is, c.if-rest-eq0.false))))

pub returns-after-loop-left-clause-width : goal.returns-after-loop-left-clause-width
returns-after-loop-left-clause-width c = let i = c.loop-left.invariant in left_is c.args.width c.loop-left.left c.args.bits c.loop-left.rest i.some i.few c.requires.few i.whole (inl (omega arith))
