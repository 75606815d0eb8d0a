use Rattle.dexout.proofs.Common.{[], OnOk, OnErr, subst, append-nil}
use Rattle.dexout.proofs.Buffered.{dropped, flushed}
use Rattle.dexout.proofs.output.Out.flush.Goals as goal

pub returns-then-self-clause-adds : goal.returns-then-self-clause-adds
returns-then-self-clause-adds g c = dropped g.met.T.Target.more c.args.self.now c.clear.new.self [] c.if-self.true c.clear.ensures.capacity

pub returns-clause-adds : goal.returns-clause-adds
returns-clause-adds g c =
    let given = subst (λ x. OnOk c.write.result (g.T.Target.gives x c.args.self.now.target c.write.new.self)) c.deref.ensures.value c.write.ensures.written in
    let prefix = subst (λ x. OnErr c.write.result (g.T.Target.gives_prefix x c.args.self.now.target c.write.new.self)) c.deref.ensures.value c.write.ensures.prefix in
    flushed g.met.T.Target.both g.met.T.Target.after c.args.self.now c.write.new.self c.clear-2.new.self [] c.args.self.now.buffer.items c.write.result c.is_err-self.result (append-nil c.args.self.now.buffer.items) c.if-self.false c.is_err-self.ensures.value c.write.ensures.works c.write.ensures.fails given prefix c.clear-2.ensures.items c.clear-2.ensures.capacity
