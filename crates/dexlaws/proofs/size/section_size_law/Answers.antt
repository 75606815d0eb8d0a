use Rattle.dexspec.proofs.size.SizeSums.{end-at_most}
use Rattle.dexspec.proofs.layout.Places.{length-bytes_from}
use Rattle.dexlaws.proofs.size.section_size_law.Goals as goal

pub returns : goal.returns
returns c = record { bytes = length-bytes_from; end = end-at_most }
