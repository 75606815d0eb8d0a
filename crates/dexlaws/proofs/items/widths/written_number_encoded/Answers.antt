use Rattle.dexspec.proofs.numbers.Widths.{unsigned_at, signed_at, bits_at}
use Rattle.dexlaws.proofs.items.widths.written_number_encoded.Goals as goal

pub returns : goal.returns
returns c = record { unsigned = unsigned_at; signed = signed_at; bits = bits_at }
