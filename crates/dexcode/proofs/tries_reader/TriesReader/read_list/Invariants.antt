use Rattle.dexcode.proofs.Common.{List, NumberedHandler}
use Rattle.dexcode.specs.{HandlersRead}
use Rattle.dexcode.proofs.tries_reader.TriesReader.read_list.Given as goal

abbrev pub invariant-loop-number : goal.invariant-loop-number
invariant-loop-number l = (hs : List NumberedHandler) × HandlersRead l.self.starts.now l.self.types l.self.bytes.now l.at l.first l.number hs l.numbers.items l.size
