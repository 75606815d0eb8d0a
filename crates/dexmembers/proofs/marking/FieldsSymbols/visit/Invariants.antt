use Rattle.dexmembers.proofs.Common.{take, FoldsTo, flat_map}
use Rattle.dexmembers.specs.{field_uses}
use Rattle.dexmembers.proofs.marking.FieldsSymbols.visit.Given as goal

abbrev pub invariant-loop-i : goal.invariant-loop-i
invariant-loop-i g l = FoldsTo g.V.Visitor.step l.initial.visitor (flat_map field_uses (take l.i l.self)) l.visitor
