use Rattle.dexexamples.proofs.Common.{[], ◌∷◌, from_entries}
use Rattle.dexexamples.specs.{class_f}
use Rattle.dexexamples.proofs.GoodTests.{annotations_written}
use Rattle.dexexamples.proofs.good.with_annotations.Goals as goal

pub returns-clause-formed : goal.returns-clause-formed
returns-clause-formed c = annotations_written.formed

pub returns-clause-good : goal.returns-clause-good
returns-clause-good c = annotations_written.good

pub returns-clause-accepted : goal.returns-clause-accepted
returns-clause-accepted c = c.normal_form.ensures.accepted (from_entries (class_f ∷ [])) annotations_written.good annotations_written.formed

pub returns-clause-denotes : goal.returns-clause-denotes
returns-clause-denotes c = c.normal_form.ensures.denotes (from_entries (class_f ∷ [])) annotations_written.good annotations_written.formed
