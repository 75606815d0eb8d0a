use Rattle.dexout.proofs.Common.{arith, adds_nothing}
use Rattle.dexout.proofs.Buffered.{flushed_first}
use Rattle.dexout.proofs.output.OutOutput.bytes.Goals as goal

pub returns-then-bytes-capacity : goal.returns-then-bytes-capacity
returns-then-bytes-capacity g c = flushed_first g.met.T.Target.more c.args.self.now c.args.self.now c.bytes.new.self c.args.bytes.now (adds_nothing g.T.Target.gives g.T.Target.gives_prefix g.T.Target.has_failed c.args.self.now) (λ room. omega (arith, c.if-bytes-capacity.true, c.len.ensures, c.capacity.ensures)) c.bytes.ensures
