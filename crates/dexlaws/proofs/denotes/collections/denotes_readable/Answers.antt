use Rattle.dexspec.proofs.determined.Denoted.{has_classes, denotes_readable}
use Rattle.dexlaws.proofs.denotes.collections.denotes_readable.Goals as goal

pub returns : goal.returns
returns c = λ b h readable. denotes_readable b (has_classes b h) readable
