use Rattle.dexspec.proofs.numbers.ByteNumbers.{ushort_at-encodes, uint_at-encodes}
use Rattle.dexlaws.proofs.frame.numbers_law.Goals as goal

pub returns : goal.returns
returns c = record { two = λ b o n lt h. ushort_at-encodes lt h; four = λ b o n lt h. uint_at-encodes lt h }
