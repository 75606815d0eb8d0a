use Rattle.dexval.proofs.Common.{take, FoldsTo, flat_map, out-EncodedAnnotation}
use Rattle.dexval.proofs.Marked.{code_uses, part_uses}
use Rattle.dexval.proofs.+visiting.Given as goal

abbrev pub invariant-value::EncodedAnnotation::visit-loop-element : goal.invariant-value::EncodedAnnotation::visit-loop-element
invariant-value::EncodedAnnotation::visit-loop-element g l = FoldsTo g.V.Visitor.step l.initial.visitor (flat_map part_uses (take l.element-index (out-EncodedAnnotation l.self).elements.items)) l.visitor

abbrev pub invariant-visiting::visit_values-loop-value : goal.invariant-visiting::visit_values-loop-value
invariant-visiting::visit_values-loop-value g l = FoldsTo g.V.Visitor.step l.initial.visitor (flat_map code_uses (take l.value-index l.values)) l.visitor
