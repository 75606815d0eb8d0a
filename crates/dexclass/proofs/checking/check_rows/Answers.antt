use Rattle.dexclass.proofs.checking.check_rows.Goals as goal

pub check_rows_with-requires-clause-checks : goal.check_rows_with-requires-clause-checks
check_rows_with-requires-clause-checks c = c.none.ensures c.args.frame.now c.args.pools.now
