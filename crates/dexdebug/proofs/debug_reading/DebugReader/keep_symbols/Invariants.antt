use Rattle.dexdebug.proofs.Common.{◌≡◌}
use Rattle.dexdebug.proofs.DebugRuns.{SymbolsBuilt}
use Rattle.std.specs.Prelude.{vec_capacity}
use Rattle.dexdebug.proofs.debug_reading.DebugReader.keep_symbols.Given as goal

abbrev pub invariant-loop : goal.invariant-loop
invariant-loop l = record {
  symbols : SymbolsBuilt l.self.counts l.self.bytes.now l.fn.shape.operations_at l.fn.shape.tally l.counter l.at l.initial.indices.items l.indices.items;
  capacity : vec_capacity l.indices ≡ vec_capacity l.initial.indices;
}
