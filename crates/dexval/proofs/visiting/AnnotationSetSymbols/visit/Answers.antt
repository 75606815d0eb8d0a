use Rattle.dexval.proofs.Common.{ap, sym, ◌∙◌, subst, FoldsTo, flat_map}
use Rattle.dexval.proofs.Marked.{note_uses, uses_of_annotations}
use Rattle.dexval.proofs.visiting.AnnotationSetSymbols.visit.Goals as goal

pub returns : goal.returns
returns g c =
    subst (λ us. FoldsTo g.V.Visitor.step c.args.visitor.now us c.visit_all.new.visitor) (ap (flat_map note_uses) c.deref.ensures.value ∙ sym (uses_of_annotations c.args.self.now.annotations.items)) c.visit_all.ensures
