use Rattle.dexout.proofs.Common.{refl}
use Rattle.dexout.proofs.Finished.{took_prefix}
use Rattle.dexout.proofs.writer.WriterTarget.write.Goals as goal

pub returns-clause-prefix : goal.returns-clause-prefix
returns-clause-prefix g c = took_prefix g.W.Sink.reports g.W.Sink.taken c.args.bytes.now c.args.self.now _ c.write_whole.result refl c.write_whole.ensures.prefix
