use Rattle.dexspec.proofs.size.SizeFile.{ordered-size, canonical-size}
use Rattle.dexlaws.proofs.size.size_law.Goals as goal

pub returns : goal.returns
returns c = record { ordered = ordered-size; canonical = canonical-size }
