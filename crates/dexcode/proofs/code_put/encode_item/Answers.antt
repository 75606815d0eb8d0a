use Rattle.dexcode.proofs.Common.{length, ap, ◌∙◌, arith}
use Rattle.dexcode.specs.{handlers_of}
use Rattle.dexcode.proofs.HandlerPlaces.{weight_count}
use Rattle.dexcode.proofs.code_put.encode_item.Goals as goal

pub encode_placed-requires-2-clause-enough : goal.encode_placed-requires-2-clause-enough
encode_placed-requires-2-clause-enough g c =
    let same = ap length (c.parts.ensures.stored.used ∙ ap handlers_of c.parts.ensures.named) in
    omega (arith, same, weight_count c.parts.result.1.now, c.parts.ensures.stored.light)
