use Rattle.dexspec.proofs.numbers.ByteNumbers.{fits_64}
use Rattle.dexspec.proofs.numbers.Widths.{unsigned_least, signed_least, bits_least}
use Rattle.dexlaws.proofs.items.widths.width_is_least.Goals as goal

pub returns : goal.returns
returns c = record { unsigned = λ v bytes lt. unsigned_least v lt bytes; signed = λ z bytes fits. signed_least z (fits_64 z fits) bytes; bits = λ width v bytes some few. bits_least width v some few bytes }
