use Rattle.dexspec.proofs.numbers.ByteNumbers.{fits_64}
use Rattle.dexspec.proofs.numbers.Widths.{unsigned_back, signed_back, bits_back}
use Rattle.dexlaws.proofs.items.widths.least_width_is_read_back.Goals as goal

pub returns : goal.returns
returns c = record { unsigned = unsigned_back; signed = λ z fits. signed_back z (fits_64 z fits); bits = bits_back }
