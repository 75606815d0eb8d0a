use Rattle.dexexamples.proofs.Common.{[], ◌∷◌, from_entries}
use Rattle.dexexamples.specs.{class_debug_twice}
use Rattle.dexexamples.proofs.GoodTests.{equal_debug_written}
use Rattle.dexexamples.proofs.good.with_equal_debug.Goals as goal

pub returns-clause-formed : goal.returns-clause-formed
returns-clause-formed c = equal_debug_written.formed

pub returns-clause-good : goal.returns-clause-good
returns-clause-good c = equal_debug_written.good

pub returns-clause-accepted : goal.returns-clause-accepted
returns-clause-accepted c = c.normal_form.ensures.accepted (from_entries (class_debug_twice ∷ [])) equal_debug_written.good equal_debug_written.formed

pub returns-clause-denotes : goal.returns-clause-denotes
returns-clause-denotes c = c.normal_form.ensures.denotes (from_entries (class_debug_twice ∷ [])) equal_debug_written.good equal_debug_written.formed
