use Rattle.dexpool.proofs.FileTables.{are_pools, read_tables}
use Rattle.dexpool.proofs.pools.Pools.read.Goals as goal

pub invariant_of-result : goal.invariant_of-result
invariant_of-result c = read_tables c.args.frame.now _ c.in_ok-strings.ensures.rows

pub returns-clause-rows : goal.returns-clause-rows
returns-clause-rows c = are_pools c.args.frame.now _ _ _ _ _ _ c.in_ok-strings.ensures.rows
