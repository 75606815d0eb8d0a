use Rattle.dexcode.proofs.Common.{arith}
use Rattle.dexcode.proofs.CodeSizes.{units_length}
use Rattle.dexcode.proofs.code_len.unit_count.Goals as goal

pub returns : goal.returns
returns c = omega (arith, c.units.ensures, units_length c.args.pieces.now.pieces)
