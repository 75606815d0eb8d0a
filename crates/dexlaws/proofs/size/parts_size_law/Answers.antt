use Rattle.dexspec.proofs.size.SizeFile.{parts-size}
use Rattle.dexlaws.proofs.size.parts_size_law.Goals as goal

pub returns : goal.returns
returns c = parts-size
