use Rattle.dexpool.proofs.Common.{arith, slice_index, map_over_more}
use Rattle.dexpool.proofs.renumbering.renumbered_numbers.Goals as goal

pub loop-i-preserved : goal.loop-i-preserved
loop-i-preserved c =
    map_over_more (slice_index c.args.images.now) c.args.numbers.items c.loop-i.numbers.items c.loop-i.i c.index.result.now (omega (arith, c.loop-i-test.true, c.len-i-end.ensures, c.args.numbers.ok.0)) c.loop-i.invariant c.index.ensures
