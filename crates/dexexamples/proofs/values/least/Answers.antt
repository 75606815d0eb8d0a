use Rattle.dexexamples.proofs.Common.{refl, bytes_of}
use Rattle.dexexamples.proofs.values.least.Goals as goal

pub returns-clause-int : goal.returns-clause-int
unfolding bytes_of
returns-clause-int c = refl

pub returns-clause-sign : goal.returns-clause-sign
unfolding bytes_of
returns-clause-sign c = refl

pub returns-clause-float : goal.returns-clause-float
unfolding bytes_of
returns-clause-float c = refl

pub returns-clause-zero : goal.returns-clause-zero
unfolding bytes_of
returns-clause-zero c = refl

pub returns-clause-boolean : goal.returns-clause-boolean
unfolding bytes_of
returns-clause-boolean c = refl

pub returns-clause-minus_one : goal.returns-clause-minus_one
unfolding bytes_of
returns-clause-minus_one c = refl

pub returns-clause-double : goal.returns-clause-double
unfolding bytes_of
returns-clause-double c = refl

pub returns-clause-array : goal.returns-clause-array
unfolding bytes_of
returns-clause-array c = refl
