use Rattle.std.proofs.lemmas.List.{map_more}
use Rattle.dexclass.proofs.Common.{◌∷◌, [], ◌++◌, sym, ap, ◌∙◌, arith}
use Rattle.dexclass.specs.{image_or_same}
use Rattle.dexclass.proofs.interface_lists.remapped_types.Goals as goal

pub loop-k-preserved : goal.loop-k-preserved
loop-k-preserved c =
    let f = image_or_same c.args.remap.now.types in
    c.in_ok-push.ensures.items ∙ (λ k. c.loop-k.invariant k ++ (c.type_number.ensures ∙ ap f c.at.ensures) k ∷ [])
    ∙ sym (map_more f c.args.numbers.now c.loop-k.k 0 (omega (arith, c.loop-k-test.true, c.len-k-end.ensures)))
