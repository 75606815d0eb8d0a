use Rattle.dexspec.proofs.size.SizeFile.{fitting-size, canonical-has_size}
use Rattle.dexlaws.proofs.size.fitting_size_law.Goals as goal

pub returns : goal.returns
returns c = record { ordered = fitting-size; canonical = canonical-has_size }
