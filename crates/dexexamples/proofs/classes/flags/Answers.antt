use Rattle.dexexamples.proofs.Common.{refl}
use Rattle.std.specs.Fmt.{digits}
use Rattle.dexexamples.proofs.classes.flags.Goals as goal

pub returns-clause-class : goal.returns-clause-class
unfolding digits
returns-clause-class c = refl

pub returns-clause-method : goal.returns-clause-method
unfolding digits
returns-clause-method c = refl

pub returns-clause-nothing : goal.returns-clause-nothing
unfolding digits
returns-clause-nothing c = refl

pub returns-clause-unnamed : goal.returns-clause-unnamed
unfolding digits
returns-clause-unnamed c = refl

pub returns-clause-field : goal.returns-clause-field
unfolding digits
returns-clause-field c = refl

pub returns-clause-unknown : goal.returns-clause-unknown
unfolding digits
returns-clause-unknown c = refl

pub returns-clause-greatest : goal.returns-clause-greatest
unfolding digits
returns-clause-greatest c = refl
