use Rattle.dexval.proofs.Common.{arith, offsets_bytes-size}
use Rattle.dexval.proofs.put.ref_list_size.Goals as goal

pub returns : goal.returns
returns c = λ offsets e. omega (arith, offsets_bytes-size offsets, e)
