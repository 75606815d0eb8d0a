use Rattle.dexinsn.proofs.Common.{◌∷◌, [], get_or, refl, subst, visited_more, visited_all, Index, use_at}
use Rattle.dexinsn.proofs.symbol_indices.visit_indices.Goals as goal

-- instead of an index that is not there
abbrev none : Index
none = record { unit = 0; number = 0 }

pub loop-index-preserved : goal.loop-index-preserved
loop-index-preserved g c =
    let index = get_or c.args.indices.now c.loop-index.index-index none in
    visited_more g.V.Visitor.step (λ i. use_at c.args.units.now i ∷ []) c.args.indices.now c.loop-index.index-index none index c.args.visitor.now c.loop-index.visitor c.symbol.new.self c.loop-index-test.true refl c.loop-index.invariant
    (c.symbol.new.self, (subst (λ kind. g.V.Visitor.step c.loop-index.visitor (record { kind = kind; number = index.number }) c.symbol.new.self) c.index_kind_at.ensures c.symbol.ensures), refl)

pub returns : goal.returns
returns g c = visited_all g.V.Visitor.step (λ i. use_at c.args.units.now i ∷ []) c.args.indices.now c.loop-index.index-index c.args.visitor.now c.loop-index.visitor c.loop-index-test.false c.loop-index.invariant
