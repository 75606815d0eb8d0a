use Rattle.dexval.proofs.Common.{arith, map, value_of, values_of_list}
use Rattle.dexval.proofs.Members.{count_values_is}
use Rattle.dexval.proofs.Spelling.{array_put_is, array_size_is}
use Rattle.dexval.proofs.Weights.{statics_weight_is}
use Rattle.dexval.proofs.put.put_statics.Goals as goal

pub returns-clause-symbolic : goal.returns-clause-symbolic
returns-clause-symbolic c = λ symbolic few counted.
    let vs = c.args.values.now in array_put_is c.args.numbering.now (values_of_list (map value_of vs)) c.is_numbering.ensures.rising c.put_encoded.ensures symbolic (omega (arith, few, count_values_is vs)) counted

pub returns-clause-bound : goal.returns-clause-bound
returns-clause-bound c = λ m some. let xs = values_of_list (map value_of c.args.values.now) in omega (arith, array_size_is m xs, statics_weight_is m c.args.values.now some)

pub returns-clause-room : goal.returns-clause-room
returns-clause-room c = λ m some le.
    c.put_encoded.ensures.room (omega (arith, le, array_size_is m (values_of_list (map value_of c.args.values.now)), statics_weight_is m c.args.values.now some))
