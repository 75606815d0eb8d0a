use Rattle.dexspec.proofs.written.NumbersWritten.{uleb128_written, sleb128_written, uleb128p1_written}
use Rattle.dexlaws.proofs.written.numbers_written.Goals as goal

pub returns : goal.returns
returns c = record { unsigned = uleb128_written; signed = sleb128_written; one_more = uleb128p1_written }
