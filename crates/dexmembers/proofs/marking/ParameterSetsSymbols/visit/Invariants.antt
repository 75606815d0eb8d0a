use Rattle.dexmembers.proofs.Common.{take, FoldsTo, flat_map, set_uses}
use Rattle.dexmembers.proofs.marking.ParameterSetsSymbols.visit.Given as goal

abbrev pub invariant-loop-i : goal.invariant-loop-i
invariant-loop-i g l = FoldsTo g.V.Visitor.step l.initial.visitor (flat_map set_uses (take l.i l.self)) l.visitor
