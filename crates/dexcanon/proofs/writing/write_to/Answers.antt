use Rattle.dexcanon.proofs.Common.{◌≡◌, ◌++◌, subst, OnOk, IfErr, HasLeft}
use Rattle.dexcanon.proofs.writing.write_to.Goals as goal

pub returns-clause-written : goal.returns-clause-written
returns-clause-written g c = subst (λ z. OnOk c.write_contents.result (g.W.Sink.reports c.args.out.now → g.W.Sink.taken c.write_contents.new.sink ≡ g.W.Sink.taken c.args.out.now ++ z)) c.of-contents.ensures.whole c.write_contents.ensures.written

pub returns-clause-left : goal.returns-clause-left
returns-clause-left g c = subst (λ z. IfErr c.write_contents.result (HasLeft (g.W.Sink.reports c.args.out.now) c.args.out.now c.write_contents.new.sink g.W.Sink.taken z)) c.of-contents.ensures.whole c.write_contents.ensures.left
