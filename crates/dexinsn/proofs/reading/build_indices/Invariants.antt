use Rattle.dexinsn.proofs.Common.{◌-◌, ◌≤◌, length, vec_capacity}
use Rattle.dexinsn.proofs.BuiltIndices.{IndicesBuilt}
use Rattle.dexinsn.proofs.reading.build_indices.Given as goal

abbrev pub invariant-loop-size : goal.invariant-loop-size
invariant-loop-size l = record { room : l.count ≤ vec_capacity l.indices; built : IndicesBuilt l.units l.count l.at l.indices.items }

abbrev pub decreases-loop-size : goal.decreases-loop-size
decreases-loop-size l = length l.units - l.at
