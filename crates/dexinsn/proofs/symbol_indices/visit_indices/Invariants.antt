use Rattle.dexinsn.proofs.Common.{◌∷◌, [], take, FoldsTo, flat_map, use_at}
use Rattle.dexinsn.proofs.symbol_indices.visit_indices.Given as goal

abbrev pub invariant-loop-index : goal.invariant-loop-index
invariant-loop-index g l = FoldsTo g.V.Visitor.step l.initial.visitor (flat_map (λ index. use_at l.units index ∷ []) (take l.index-index l.indices)) l.visitor
