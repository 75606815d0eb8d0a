use Rattle.dexio.proofs.Common.{arith, length-ushort}
use Rattle.dexio.proofs.output.CountOutput.u16.Goals as goal

pub returns : goal.returns
returns c = λ small. omega (arith, small, length-ushort c.args._value)
