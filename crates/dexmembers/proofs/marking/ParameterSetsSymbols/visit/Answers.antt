use Rattle.dexmembers.proofs.Common.{get_or, [], refl, arith, set_uses, visited_more, visited_all}
use Rattle.dexmembers.proofs.marking.ParameterSetsSymbols.visit.Goals as goal

pub loop-i-preserved : goal.loop-i-preserved
loop-i-preserved g c =
    let sets = c.args.self.now in
    let set = get_or sets c.loop-i.i [] in
    visited_more g.V.Visitor.step set_uses sets c.loop-i.i [] set c.args.visitor.now c.loop-i.visitor c.visit_set.new.visitor (omega arith) refl c.loop-i.invariant (c.visit_set.ensures set c.get.ensures)

pub returns : goal.returns
returns g c = visited_all g.V.Visitor.step set_uses c.args.self.now c.loop-i.i c.args.visitor.now c.loop-i.visitor (omega arith) c.loop-i.invariant
