use Rattle.dexspec.proofs.Common.{length, ap}
use Rattle.dexspec.specs.Canonical.{canonical}
use Rattle.dexspec.specs.Merging.{union}
use Rattle.dexlaws.proofs.SameUnions.{one_collection, unions-same}
use Rattle.dexlaws.proofs.merge.plans_agree.Goals as goal

pub returns : goal.returns
returns c = record { members = λ files p q h k. unions-same files (length files) p q h k; bytes = λ files p q K L h k is are. ap canonical (one_collection (union files p) (union files q) K L (unions-same files (length files) p q h k) is are) }
