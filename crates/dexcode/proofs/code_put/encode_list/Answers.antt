use Rattle.dexcode.proofs.Common.{arith}
use Rattle.dexcode.proofs.HandlerPlaces.{few_catches, weight_count}
use Rattle.dexcode.proofs.code_put.encode_list.Goals as goal

pub overflow_cast-handlers : goal.overflow_cast-handlers
overflow_cast-handlers g c = omega (arith, weight_count c.args.handlers.now, c.requires)

pub encode_all-requires : goal.encode_all-requires
encode_all-requires g c = few_catches c.args.handlers.now c.requires
