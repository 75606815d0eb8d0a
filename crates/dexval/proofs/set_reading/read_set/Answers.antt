use Rattle.dexval.proofs.FileRead.{file_pools}
use Rattle.dexval.proofs.Refusals.{err_is, refuses_so}
use Rattle.dexval.proofs.SetsRead.{no_room}
use Rattle.dexval.proofs.set_reading.read_set.Goals as goal

pub returns-in_err-count-clause-refused : goal.returns-in_err-count-clause-refused
returns-in_err-count-clause-refused c = λ pools.
    rw (err_is c.from_residual.result c.from_residual.ensures.1) (refuses_so 22 (no_room c.args.frame.now c.args.off) c.in_err-count.field-0.0 c.in_err-count.ensures.refused)

pub returns-clause-set : goal.returns-clause-set
returns-clause-set c = λ pools. c.annotations_at.ensures.set (file_pools c.args.frame.now c.args.pools.now c.numbering.result.now c.numbering.ensures c.is_numbering.ensures pools)

pub returns-clause-refused : goal.returns-clause-refused
returns-clause-refused c = λ pools. c.annotations_at.ensures.refused (file_pools c.args.frame.now c.args.pools.now c.numbering.result.now c.numbering.ensures c.is_numbering.ensures pools)
