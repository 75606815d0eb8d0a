use Rattle.dexpool.proofs.Visits.{visited_more, visited_all}
use Rattle.dexpool.proofs.visiting.visit_all.Goals as goal

pub loop-item-preserved : goal.loop-item-preserved
loop-item-preserved g c = visited_more g.V.Visitor.step g.T.Symbols.uses c.args.items.now c.loop-item.item-index c.item-item.result c.item-item.result c.args.visitor.now c.loop-item.visitor c.visit.new.visitor c.loop-item-test.true c.item-item.is c.loop-item.invariant c.visit.ensures

pub returns : goal.returns
returns g c = visited_all g.V.Visitor.step g.T.Symbols.uses c.args.items.now c.loop-item.item-index c.args.visitor.now c.loop-item.visitor c.loop-item-test.false c.loop-item.invariant
