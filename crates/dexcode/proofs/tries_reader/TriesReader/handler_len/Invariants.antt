use Rattle.dexcode.proofs.Common.{HaveCatches}
use Rattle.dexcode.proofs.tries_reader.TriesReader.handler_len.Given as goal

abbrev pub invariant-loop : goal.invariant-loop
invariant-loop l = HaveCatches l.self.starts.now l.self.types l.self.bytes.now l.first l.counter l.size
