use Rattle.dexexamples.proofs.Common.{refl, depth, in_class_order}
use Rattle.dexexamples.proofs.classes.class_order.Goals as goal

pub returns-clause-one_way : goal.returns-clause-one_way
unfolding in_class_order depth
returns-clause-one_way c = refl

pub returns-clause-other_way : goal.returns-clause-other_way
unfolding in_class_order depth
returns-clause-other_way c = refl

pub returns-clause-by_name : goal.returns-clause-by_name
unfolding in_class_order depth
returns-clause-by_name c = refl
