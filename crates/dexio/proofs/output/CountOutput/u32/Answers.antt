use Rattle.dexio.proofs.Common.{arith, length-uint}
use Rattle.dexio.proofs.output.CountOutput.u32.Goals as goal

pub returns : goal.returns
returns c = λ small. omega (arith, small, length-uint c.args._value)
