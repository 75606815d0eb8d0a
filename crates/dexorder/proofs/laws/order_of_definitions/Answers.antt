use Rattle.dexorder.proofs.Common.{subst, range_with_len, IsPermutation}
use Rattle.dexorder.proofs.DefinitionOrder.{names_distinct, same_order}
use Rattle.dexorder.proofs.laws.order_of_definitions.Goals as goal

pub returns-clause-names : goal.returns-clause-names
returns-clause-names c = λ D names h. names_distinct D names h

pub returns-clause-order : goal.returns-clause-order
returns-clause-order c =
    λ D depths names order a n distinct p r e.
    same_order D depths names a n e order distinct (subst (λ k. IsPermutation (range_with_len 0 k) order) n.count p) r
