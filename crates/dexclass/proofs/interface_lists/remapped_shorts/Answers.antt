use Rattle.std.proofs.lemmas.List.{map_more}
use Rattle.dexclass.proofs.Common.{◌∷◌, [], ◌++◌, ◌<◌, length, map, take, take_all, sym, ap, ◌∙◌, arith, subst}
use Rattle.dexclass.specs.{image_or_same}
use Rattle.dexclass.proofs.Shorts.{AreShorts, shorts_more, shorts_read}
use Rattle.dexclass.proofs.interface_lists.remapped_shorts.Goals as goal

pub loop-k-preserved : goal.loop-k-preserved
loop-k-preserved c =
    let f = image_or_same c.args.remap.now.types in
    let numbers = c.args.numbers.now in
    let before = map f (take c.loop-k.k numbers) in
    let lt : c.loop-k.k < length numbers = omega (arith, c.loop-k-test.true, c.len-k-end.ensures) in
    let image = c.type_number-image.ensures ∙ ap f c.at.ensures in
    subst (AreShorts _) ((λ k. before ++ image k ∷ []) ∙ sym (map_more f numbers c.loop-k.k 0 lt))
    (shorts_more c.loop-k.bytes.items _ before c.type_number-image.result c.loop-k.invariant (omega (arith, c.if-image-gt65535.false)) c.in_ok-put_u16.ensures.ok)

pub returns : goal.returns
returns c =
    let f = image_or_same c.args.remap.now.types in
    let numbers = c.args.numbers.now in
    shorts_read c.loop-k.bytes.items (map f (take c.loop-k.k numbers)) c.loop-k.invariant ∙ ap (map f) (take_all c.loop-k.k numbers (omega (arith, c.loop-k-test.false, c.len-k-end.ensures)))
