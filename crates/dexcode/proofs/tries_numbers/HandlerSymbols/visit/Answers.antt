use Rattle.dexcode.proofs.Common.{◌∷◌, [], subst, FoldsTo, flat_map, one_each, catch_use, handler_uses}
use Rattle.dexcode.proofs.tries_numbers.HandlerSymbols.visit.Goals as goal

pub returns : goal.returns
returns g c =
    let catches = subst (λ cs. FoldsTo g.V.Visitor.step c.args.visitor.now (flat_map (λ x. catch_use x ∷ []) cs) c.visit_all.new.visitor) c.deref.ensures.value c.visit_all.ensures in
    subst (λ h. FoldsTo g.V.Visitor.step c.args.visitor.now (handler_uses h) c.visit_all.new.visitor) c.self.view_is (subst (λ us. FoldsTo g.V.Visitor.step c.args.visitor.now us c.visit_all.new.visitor) (one_each catch_use c.self.inside.catches.items) catches)
