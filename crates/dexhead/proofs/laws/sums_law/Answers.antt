use Rattle.dexhead.proofs.Common.{drop, refl}
use Rattle.dexhead.proofs.LaidOut.{sums_set, head_set, head_stated}
use Rattle.dexhead.proofs.laws.sums_law.Goals as goal

pub returns-clause-file : goal.returns-clause-file
returns-clause-file c = λ file begins. sums_set file (drop 32 file) begins refl

pub returns-clause-head : goal.returns-clause-head
returns-clause-head c = head_set

pub returns-clause-reported : goal.returns-clause-reported
returns-clause-reported c = head_stated
