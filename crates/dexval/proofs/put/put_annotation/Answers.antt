use Rattle.dexval.proofs.Common.{arith, annotation_of}
use Rattle.dexval.proofs.Spelling.{annotation_put_is, annotation_size_is}
use Rattle.dexval.proofs.Weights.{elements_weight_is}
use Rattle.dexval.proofs.put.put_annotation.Goals as goal

pub returns-clause-symbolic : goal.returns-clause-symbolic
returns-clause-symbolic c = annotation_put_is c.args.numbering.now (annotation_of c.args.annotation.now) c.is_numbering.ensures.rising c.put_encoded.ensures

pub returns-clause-bound : goal.returns-clause-bound
returns-clause-bound c = λ m. let x = annotation_of c.args.annotation.now in omega (arith, annotation_size_is m x, elements_weight_is m x.elements)

pub returns-clause-room : goal.returns-clause-room
returns-clause-room c = λ m le.
    let x = annotation_of c.args.annotation.now in c.put_encoded.ensures.room (omega (arith, le, annotation_size_is m x, elements_weight_is m x.elements))
