use Rattle.dexdebug.proofs.DebugRuns.{NamesChecked}
use Rattle.dexdebug.proofs.debug_reading.DebugReader.names_end.Given as goal

abbrev pub invariant-loop : goal.invariant-loop
invariant-loop l = NamesChecked l.self.counts.texts l.self.bytes.now l.from l.count l.counter l.at
