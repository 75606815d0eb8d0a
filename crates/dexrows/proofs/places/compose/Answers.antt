use Rattle.dexrows.proofs.Common.{arith, slice_index, get_or_default}
use Rattle.std.proofs.lemmas.List.Edits.{map_over_more}
use Rattle.dexrows.proofs.places.compose.Goals as goal

pub loop-i-preserved : goal.loop-i-preserved
loop-i-preserved c = map_over_more (slice_index c.args.places.now) c.args.image.now c.loop-i.image c.loop-i.i _ (omega arith) c.loop-i.invariant (get_or_default c.loop-i.image c.loop-i.i 0 _ (omega arith))
