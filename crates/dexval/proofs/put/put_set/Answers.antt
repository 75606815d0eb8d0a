use Rattle.dexval.proofs.Common.{arith, set_of}
use Rattle.dexval.proofs.Offsets.{set_size, set_size_is, set_put_is}
use Rattle.dexval.proofs.Weights.{set_weight_is}
use Rattle.dexval.proofs.put.put_set.Goals as goal

pub returns-clause-symbolic : goal.returns-clause-symbolic
returns-clause-symbolic c = set_put_is c.args.numbering.now c.args.first (set_of c.args.set.now) c.is_numbering.ensures.rising (rw c.annotations.ensures at c.put_offsets.ensures)

pub returns-clause-bound : goal.returns-clause-bound
returns-clause-bound c = λ le. let puts = rw c.annotations.ensures at c.put_offsets.ensures in puts.room (omega (arith, le, set_size c.args.first (set_of c.args.set.now)))

pub returns-clause-most : goal.returns-clause-most
returns-clause-most c = omega (arith, set_size c.args.first (set_of c.args.set.now))

pub returns-clause-room : goal.returns-clause-room
returns-clause-room c = λ m some le.
    let s = set_of c.args.set.now in (rw c.annotations.ensures at c.put_offsets.ensures).room (omega (arith, le, set_size_is c.args.first s some, set_weight_is m s))
