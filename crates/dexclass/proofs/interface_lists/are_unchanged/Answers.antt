use Rattle.std.proofs.lemmas.List.{map_more}
use Rattle.dexclass.proofs.Common.{◌≡◌, ◌<◌, ◌∷◌, [], ◌++◌, length, sym, ap, ◌∙◌, arith, map, take_more, take_all}
use Rattle.dexclass.specs.{image_or_same}
use Rattle.dexclass.proofs.interface_lists.are_unchanged.Goals as goal

pub loop-k-preserved : goal.loop-k-preserved
loop-k-preserved c =
    let f = image_or_same c.args.remap.now.types in
    let xs = c.args.numbers.now in
    let lt : c.loop-k.k < length xs = omega (arith, c.loop-k-test.true, c.len-k-end.ensures) in
    let same = sym (ap f c.at-number.ensures) ∙ sym c.type_number.ensures ∙ c.if-type_number-number.false ∙ c.at-number.ensures in
    map_more f xs c.loop-k.k 0 lt ∙ (λ k. c.loop-k.invariant k ++ same k ∷ []) ∙ sym (take_more xs c.loop-k.k 0 lt)

pub returns : goal.returns
returns c = λ yes.
    let all : length c.args.numbers.now ≡ c.loop-k.k = omega (arith, c.loop-k-test.false, c.len-k-end.ensures) in
    let whole = sym (take_all c.loop-k.k c.args.numbers.now (omega (arith, all))) in
    ap (map (image_or_same c.args.remap.now.types)) whole ∙ c.loop-k.invariant ∙ sym whole
