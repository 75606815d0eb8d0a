use Rattle.dexhead.proofs.LaidOut.{same_fields}
use Rattle.dexhead.proofs.laws.fields_law.Goals as goal

pub returns : goal.returns
returns c = same_fields
