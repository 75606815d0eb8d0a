use Rattle.dexstr.proofs.Common.{drop}
use Rattle.dexstr.proofs.Outcomes.{no_fault}
use Rattle.dexstr.proofs.text_reader.TextReader.read.Goals as goal

pub returns-in_default-clause-none : goal.returns-in_default-clause-none
returns-in_default-clause-none c = λ s n item. no_fault c.in_default.field-0 (drop c.args.at c.args.self.now) s n item c.in_default.ensures.fault
