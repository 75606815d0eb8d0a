use Rattle.dexmembers.proofs.Common.{arith, visited_more, visited_all}
use Rattle.dexmembers.specs.{method_uses}
use Rattle.dexmembers.proofs.marking.MethodsSymbols.visit.Goals as goal

pub loop-i-preserved : goal.loop-i-preserved
loop-i-preserved g c =
    let method = c.get.result in
    visited_more g.V.Visitor.step method_uses c.args.self.now c.loop-i.i method method c.args.visitor.now c.loop-i.visitor c.visit.new.visitor (omega arith) c.get.ensures c.loop-i.invariant c.visit.ensures

pub returns : goal.returns
returns g c = visited_all g.V.Visitor.step method_uses c.args.self.now c.loop-i.i c.args.visitor.now c.loop-i.visitor (omega arith) c.loop-i.invariant
