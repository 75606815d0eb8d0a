use Rattle.dexspec.proofs.Common.{arith}
use Rattle.dexspec.proofs.size.SizeCode.{handler_list_bytes-size, handler_off-size}
use Rattle.dexspec.proofs.wellformed.ShortIndices.{indices_fit}
use Rattle.dexlaws.proofs.written.places_fit.Goals as goal

pub returns : goal.returns
returns c = record { indices = λ D d x k fits in_file declared has is. indices_fit D fits d x k in_file declared has is; handlers = λ m hs h few light. omega (arith, handler_off-size m hs h, handler_list_bytes-size m few hs, light) }
