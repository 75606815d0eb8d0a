use Rattle.dexinsn.proofs.Common.{take, flat_map, IsGreatest, short_at}
use Rattle.dexinsn.proofs.symbol_indices.greatest_short_string.Given as goal

abbrev pub invariant-loop-index : goal.invariant-loop-index
invariant-loop-index l = IsGreatest (flat_map (short_at l.units) (take l.index-index l.indices)) l.greatest
