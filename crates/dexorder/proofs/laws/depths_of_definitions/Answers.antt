use Rattle.dexorder.proofs.Common.{arith}
use Rattle.dexorder.proofs.DefinitionDepths.{has_depth, same_depth, is_cycle, cycle_class, no_cycle, all_known}
use Rattle.dexorder.proofs.DefinitionOrder.{own_depths}
use Rattle.dexorder.proofs.laws.depths_of_definitions.Goals as goal

pub returns-clause-depth : goal.returns-clause-depth
returns-clause-depth c = λ D classes h i d lt k. (has_depth D classes h i d lt k, same_depth D classes h i d lt k)

pub returns-clause-cycle : goal.returns-clause-cycle
returns-clause-cycle c = λ D classes h i lt k. is_cycle D classes h i lt k

pub returns-clause-class : goal.returns-clause-class
returns-clause-class c = λ D classes depths h a name x. let s = cycle_class D classes h depths name a x in (s.0, omega (arith, s.1, a.count), s.2, s.3)

pub returns-clause-acyclic : goal.returns-clause-acyclic
returns-clause-acyclic c = λ D classes depths h a some. no_cycle D classes h depths a some

pub returns-clause-known : goal.returns-clause-known
returns-clause-known c = λ D classes depths h a acyclic. all_known D classes h depths a acyclic

pub returns-clause-own : goal.returns-clause-own
returns-clause-own c = λ D classes depths h a some. own_depths D classes depths h a some
