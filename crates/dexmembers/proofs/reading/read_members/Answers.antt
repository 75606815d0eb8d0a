use Rattle.dexmembers.proofs.reading.read_members.Goals as goal

pub read_shared_members-requires-clause-checks : goal.read_shared_members-requires-clause-checks
read_shared_members-requires-clause-checks c = λ pools. c.none-checks.ensures c.args.frame.now c.args.pools.now
