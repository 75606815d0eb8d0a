use Rattle.dexspec.specs.Merging.{union}
use Rattle.dexspec.proofs.merge.Absorption.{IsGood-within, IsCause-within}
use Rattle.dexlaws.proofs.SameUnions.{union-within}
use Rattle.dexlaws.proofs.merge.parts_of_plans.Goals as goal

pub returns : goal.returns
returns c = record { within = union-within; causes = λ caps files p q cause within x. IsCause-within (union files p) (union files q) (union-within files p q within) caps cause x; good = λ caps files p q within g. IsGood-within (union files p) (union files q) (union-within files p q within) caps g }
