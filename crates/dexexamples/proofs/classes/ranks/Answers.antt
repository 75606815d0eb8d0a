use Rattle.dexexamples.proofs.Common.{refl, mentions, symbols_of}
use Rattle.dexexamples.proofs.classes.ranks.Goals as goal

pub returns-clause-alone : goal.returns-clause-alone
unfolding mentions symbols_of
returns-clause-alone c = refl

pub returns-clause-together : goal.returns-clause-together
unfolding mentions symbols_of
returns-clause-together c = refl

pub returns-clause-types : goal.returns-clause-types
unfolding mentions symbols_of
returns-clause-types c = refl
