use Rattle.dexspec.proofs.merge.Absorption.{IsGood-within, IsCause-within}
use Rattle.dexlaws.proofs.growth.absorption_law.Goals as goal

pub returns : goal.returns
returns c = λ D E h. record { good = IsGood-within D E h; causes = IsCause-within D E h }
