use Rattle.dexpool.proofs.Common.{◌≡◌, rules, [], ◌∷◌, ◌++◌, map, take, sym, ap, ◌∙◌, arith, append_assoc, slice_index, map_more}
use Rattle.dexpool.proofs.renumbering.push_images.Goals as goal

pub loop-i-preserved : goal.loop-i-preserved
loop-i-preserved c =
    let image = slice_index c.args.images.now in
    let image_is : c.unwrap_or-image.result ≡ image c.at.result = search rules in
    c.in_ok-push.ensures.items ∙ (λ k. c.loop-i.invariant k ++ (image_is ∙ ap image c.at.ensures) k ∷ []) ∙ append_assoc c.args.to.now.items (map image (take c.loop-i.i c.args.numbers.now)) (image (slice_index c.args.numbers.now c.loop-i.i) ∷ [])
    ∙ ap (λ more. c.args.to.now.items ++ more) (sym (map_more image c.args.numbers.now c.loop-i.i 0 (omega (arith, c.loop-i-test.true, c.len-i-end.ensures))))
