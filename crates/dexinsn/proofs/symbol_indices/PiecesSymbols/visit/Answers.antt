use Rattle.dexinsn.proofs.Common.{ap, subst, sym, ◌∙◌, FoldsTo, one_each, uses_of, use_at}
use Rattle.dexinsn.specs.{units_in}
use Rattle.dexinsn.proofs.Lined.{indexed_for, uses_for}
use Rattle.dexinsn.proofs.symbol_indices.PiecesSymbols.visit.Goals as goal

pub visit_indices-requires : goal.visit_indices-requires
visit_indices-requires g c = indexed_for (units_in c.self.inside.bytes.now) c.of_bytes-units.result c.self.inside.indices.items c.deref.result.now c.self.invariant c.of_bytes-units.ensures c.deref.ensures.value

pub returns : goal.returns
returns g c =
    let uses = uses_for (units_in c.self.inside.bytes.now) c.of_bytes-units.result c.self.inside.indices.items c.deref.result.now c.self.invariant c.of_bytes-units.ensures c.deref.ensures.value in
    subst (λ us. FoldsTo g.V.Visitor.step c.args.visitor.now us c.visit_indices.new.visitor) ((one_each (use_at c.of_bytes-units.result) c.deref.result.now) ∙ sym uses ∙ ap (λ code. uses_of code.pieces) c.self.view_is) c.visit_indices.ensures
