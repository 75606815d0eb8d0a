use Rattle.dexmembers.proofs.OneMember.{one_method}
use Rattle.dexmembers.proofs.encodings.EncodedMethodEncoded.law.Goals as goal

pub returns-clause-one : goal.returns-clause-one
returns-clause-one c = one_method
