use Rattle.dexspec.proofs.determined.Denoted.{has_classes, denoted_rows}
use Rattle.dexlaws.proofs.denotes.collections.denoted_rows.Goals as goal

pub returns : goal.returns
returns c = λ b D K h rows denotes. denoted_rows b (has_classes b h) D rows K denotes
