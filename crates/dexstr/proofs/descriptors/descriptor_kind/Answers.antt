use Rattle.dexstr.proofs.Descriptions.{reports}
use Rattle.dexstr.proofs.descriptors.descriptor_kind.Goals as goal

pub returns-clause-found : goal.returns-clause-found
returns-clause-found c = (reports c.kind_of.result c.bytes.result.now c.args.text.now c.bytes.ensures.spelled.spelled c.bytes.ensures.units c.kind_of.ensures).found

pub returns-clause-some : goal.returns-clause-some
returns-clause-some c = (reports c.kind_of.result c.bytes.result.now c.args.text.now c.bytes.ensures.spelled.spelled c.bytes.ensures.units c.kind_of.ensures).some

pub returns-clause-none : goal.returns-clause-none
returns-clause-none c = (reports c.kind_of.result c.bytes.result.now c.args.text.now c.bytes.ensures.spelled.spelled c.bytes.ensures.units c.kind_of.ensures).none
