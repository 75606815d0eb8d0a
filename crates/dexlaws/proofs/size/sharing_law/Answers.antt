use Rattle.dexspec.proofs.sharing.Unshared.{ordered_no_longer, canonical_no_longer}
use Rattle.dexlaws.proofs.size.sharing_law.Goals as goal

pub returns : goal.returns
returns c = record { ordered = ordered_no_longer; canonical = canonical_no_longer }
