use Rattle.dexexamples.proofs.WholeRows.{class_row, classes}
use Rattle.dexexamples.proofs.accepted.class_row.Goals as goal

pub returns-clause-is : goal.returns-clause-is
returns-clause-is c = class_row

pub returns-clause-classes : goal.returns-clause-classes
returns-clause-classes c = classes
