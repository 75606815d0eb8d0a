use Rattle.dexcode.proofs.Common.{◌≡◌, ◌+◌, ◌*◌, List, drop, length, take, NumberedHandler, AreListed}
use Rattle.dexcode.proofs.Named.{NamedSoFar}
use Rattle.dexcode.proofs.tries_reader.TriesReader.named.Given as goal

abbrev pub invariant-loop-i : goal.invariant-loop-i
invariant-loop-i l = record {
  reached : l.place ≡ l.at + 8 * l.i;
  size : length l.tries.items ≡ length l.fn.tries.items;
  rest : drop l.i l.tries.items ≡ drop l.i l.fn.tries.items;
  so_far : (all : List NumberedHandler) → AreListed l.self.starts.now l.self.types l.self.bytes.now l.at l.list all l.fn.tries.items → NamedSoFar l.self.starts.now l.self.types l.self.bytes.now l.list all l.handlers.keys l.numbers.items (take l.i l.tries.items) (take l.i l.fn.tries.items);
}
