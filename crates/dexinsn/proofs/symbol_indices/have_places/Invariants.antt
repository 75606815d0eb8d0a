use Rattle.dexinsn.proofs.Common.{take, All, HasPlaceAt}
use Rattle.dexinsn.proofs.symbol_indices.have_places.Given as goal

abbrev pub invariant-loop-index : goal.invariant-loop-index
invariant-loop-index l = All (HasPlaceAt l.remap l.units) (take l.index-index l.indices)
