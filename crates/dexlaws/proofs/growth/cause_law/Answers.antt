use Rattle.dexspec.proofs.merge.Absorption.{IsGood-apart}
use Rattle.dexlaws.proofs.growth.cause_law.Goals as goal

pub returns : goal.returns
returns c = IsGood-apart
