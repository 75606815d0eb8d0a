use Rattle.dexdebug.proofs.Common.{ap, subst, ◌∙◌, FoldsTo, flat_map, number_uses, debug_uses, Index}
use Rattle.dexdebug.proofs.StoredOperations.{stored_uses}
use Rattle.dexdebug.proofs.debug_numbers.DebugSymbols.visit.Goals as goal

pub returns : goal.returns
returns g c =
    let uses = ap (flat_map (λ (i : Index). number_uses i.kind i.number)) c.deref.ensures.value ∙ stored_uses c.self.inside.names c.self.inside.count c.self.inside.bytes.now c.self.inside.at c.self.inside.indices.items c.self.invariant.1 c.self.inside.line_start ∙ ap debug_uses c.self.view_is in
    subst (λ us. FoldsTo g.V.Visitor.step c.args.visitor.now us c.visit_all.new.visitor) uses c.visit_all.ensures
