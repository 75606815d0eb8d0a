use Rattle.dexexamples.proofs.Common.{refl, mentions, symbols_of, weight}
use Rattle.dexexamples.proofs.classes.weights.Goals as goal

pub returns-clause-nothing : goal.returns-clause-nothing
unfolding weight mentions symbols_of
returns-clause-nothing c = refl

pub returns-clause-plain : goal.returns-clause-plain
unfolding weight mentions symbols_of
returns-clause-plain c = refl

pub returns-clause-two : goal.returns-clause-two
unfolding weight mentions symbols_of
returns-clause-two c = refl

pub returns-clause-method : goal.returns-clause-method
unfolding weight mentions symbols_of
returns-clause-method c = refl

pub returns-clause-annotated : goal.returns-clause-annotated
unfolding weight mentions symbols_of
returns-clause-annotated c = refl

pub returns-clause-debug : goal.returns-clause-debug
unfolding weight mentions symbols_of
returns-clause-debug c = refl

pub returns-clause-stripped : goal.returns-clause-stripped
unfolding weight mentions symbols_of
returns-clause-stripped c = refl
