use Rattle.dexio.proofs.Common.{◌^◌, ◌<◌, arith}
use Rattle.dexio.proofs.output.encoded_len.Goals as goal

pub returns : goal.returns
returns g c = let zero : 0 < 2 ^ 64 = omega arith in omega (arith, c.encode.ensures zero)
