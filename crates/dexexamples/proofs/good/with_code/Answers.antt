use Rattle.dexexamples.proofs.Common.{[], ◌∷◌, codes, from_entries}
use Rattle.dexexamples.specs.{class_p}
use Rattle.dexexamples.proofs.GoodTests.{code_written}
use Rattle.dexexamples.proofs.good.with_code.Goals as goal

pub returns-clause-formed : goal.returns-clause-formed
returns-clause-formed c = code_written.formed

pub returns-clause-good : goal.returns-clause-good
returns-clause-good c = code_written.good

pub returns-clause-accepted : goal.returns-clause-accepted
returns-clause-accepted c = c.normal_form.ensures.accepted (from_entries (class_p (codes "hi") ∷ [])) code_written.good code_written.formed

pub returns-clause-denotes : goal.returns-clause-denotes
returns-clause-denotes c = c.normal_form.ensures.denotes (from_entries (class_p (codes "hi") ∷ [])) code_written.good code_written.formed
