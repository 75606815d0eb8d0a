use Rattle.dexdebug.proofs.Common.{◌≡◌, ◌+◌}
use Rattle.dexdebug.proofs.DebugRuns.{NamesKept}
use Rattle.std.specs.Prelude.{vec_len, vec_capacity}
use Rattle.dexdebug.proofs.debug_reading.DebugReader.keep_names.Given as goal

abbrev pub invariant-loop : goal.invariant-loop
invariant-loop l = record {
  names : NamesKept l.self.counts.texts l.self.bytes.now l.fn.shape.names_at l.fn.shape.names l.counter l.at l.initial.indices.items l.indices.items;
  room : vec_capacity l.indices + l.counter ≡ vec_len l.indices + l.fn.shape.names + l.fn.shape.tally.indices;
}
