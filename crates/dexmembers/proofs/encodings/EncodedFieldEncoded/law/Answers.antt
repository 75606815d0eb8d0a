use Rattle.dexmembers.proofs.OneMember.{one_field}
use Rattle.dexmembers.proofs.encodings.EncodedFieldEncoded.law.Goals as goal

pub returns-clause-one : goal.returns-clause-one
returns-clause-one c = one_field
