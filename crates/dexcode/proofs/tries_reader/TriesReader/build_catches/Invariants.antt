use Rattle.dexcode.proofs.Common.{◌≡◌, CatchesRead}
use Rattle.std.specs.Prelude.{vec_capacity}
use Rattle.dexcode.proofs.tries_reader.TriesReader.build_catches.Given as goal

abbrev pub invariant-loop : goal.invariant-loop
invariant-loop l = record {
  read : CatchesRead l.self.starts.now l.self.types l.self.bytes.now l.at l.counter l.catches.items l.size;
  full : vec_capacity l.catches ≡ l.fn.count;
}
