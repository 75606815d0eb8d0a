use Rattle.dexlaws.proofs.SameUnions.{same_result}
use Rattle.dexlaws.proofs.merge.result_depends_on_members.Goals as goal

pub returns : goal.returns
returns c = same_result
