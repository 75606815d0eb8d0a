use Rattle.std.proofs.Common.{arith}
use Rattle.std.proofs.lemmas.Int.{ints}
use Rattle.dexleb.proofs.Sign.{negative_here, positive_here, first_bound}
use Rattle.dexleb.proofs.read.with_sign.Goals as goal

pub overflow_cast-sum : goal.overflow_cast-sum
overflow_cast-sum c = omega (arith, ints, first_bound c.args.bytes.now c.args.sum c.args.len c.requires)

pub overflow_sub-result : goal.overflow_sub-result
overflow_sub-result c = omega (arith, ints, first_bound c.args.bytes.now c.args.sum c.args.len c.requires)

pub returns-then-bytes-len-eq0 : goal.returns-then-bytes-len-eq0
returns-then-bytes-len-eq0 c = rw (positive_here c.args.bytes.now c.args.sum c.args.len c.requires c.if-bytes-len-eq0.true) (omega (arith, ints, first_bound c.args.bytes.now c.args.sum c.args.len c.requires))

pub returns-else-bytes-len-eq0 : goal.returns-else-bytes-len-eq0
returns-else-bytes-len-eq0 c = rw (negative_here c.args.bytes.now c.args.sum c.args.len c.requires c.if-bytes-len-eq0.false) (omega (arith, ints, first_bound c.args.bytes.now c.args.sum c.args.len c.requires))
