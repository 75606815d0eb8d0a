use Rattle.dexcode.proofs.Common.{◌≡◌, ◌+◌, ◌*◌, ◌≤◌, TriesRead}
use Rattle.std.specs.Prelude.{vec_capacity}
use Rattle.dexcode.proofs.tries_reader.TriesReader.read_try_items.Given as goal

abbrev pub invariant-loop : goal.invariant-loop
invariant-loop l = (l.place ≡ l.at + 8 * l.counter) × (l.end ≤ l.units) × TriesRead l.units l.numbers l.self.bytes.now l.at l.counter l.tries.items l.end × (vec_capacity l.tries ≡ l.count)
