use Rattle.dexpool.proofs.Common.{take, FoldsTo, flat_map}
use Rattle.dexpool.proofs.visiting.visit_all.Given as goal

abbrev pub invariant-loop-item : goal.invariant-loop-item
invariant-loop-item g l = FoldsTo g.V.Visitor.step l.initial.visitor (flat_map g.T.Symbols.uses (take l.item-index l.items)) l.visitor
