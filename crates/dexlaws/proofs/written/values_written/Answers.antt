use Rattle.dexspec.proofs.written.ValuesWritten.{value_written, values_written, elements_written, array_written}
use Rattle.dexlaws.proofs.written.values_written.Goals as goal

pub returns : goal.returns
returns c = record { value = value_written; values = values_written; elements = elements_written; array = array_written }
