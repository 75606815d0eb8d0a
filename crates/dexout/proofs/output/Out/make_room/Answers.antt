use Rattle.dexout.proofs.Common.{adds_nothing}
use Rattle.dexout.proofs.output.Out.make_room.Goals as goal

pub returns-then-spare-ge-MOST_BYTES-clause-adds : goal.returns-then-spare-ge-MOST_BYTES-clause-adds
returns-then-spare-ge-MOST_BYTES-clause-adds g c = adds_nothing g.T.Target.gives g.T.Target.gives_prefix g.T.Target.has_failed c.args.self.now
