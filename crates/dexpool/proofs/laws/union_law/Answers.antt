use Rattle.dexpool.proofs.UnionLaws.{all_ranks_grow, counts_add}
use Rattle.dexpool.proofs.laws.union_law.Goals as goal

pub returns-clause-ranks : goal.returns-clause-ranks
returns-clause-ranks c = all_ranks_grow

pub returns-clause-counts : goal.returns-clause-counts
returns-clause-counts c = counts_add
