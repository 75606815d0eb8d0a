use Rattle.dexexamples.proofs.Common.{from_entries}
use Rattle.dexexamples.specs.{varied}
use Rattle.dexexamples.proofs.GoodTests.{all_kinds_written}
use Rattle.dexexamples.proofs.good.of_all_kinds.Goals as goal

pub returns-clause-formed : goal.returns-clause-formed
returns-clause-formed c = all_kinds_written.formed

pub returns-clause-good : goal.returns-clause-good
returns-clause-good c = all_kinds_written.good

pub returns-clause-accepted : goal.returns-clause-accepted
returns-clause-accepted c = c.normal_form.ensures.accepted (from_entries varied) all_kinds_written.good all_kinds_written.formed

pub returns-clause-denotes : goal.returns-clause-denotes
returns-clause-denotes c = c.normal_form.ensures.denotes (from_entries varied) all_kinds_written.good all_kinds_written.formed
