use Rattle.dexval.proofs.Common.{ap, ◌∙◌, subst, w64, to_z, of_z, to_z-of_z, complement, signed_width, fits_64}
use Rattle.dexval.proofs.LowBytes.{signed_spelled, cast_is}
use Rattle.dexval.proofs.encoding.encode_signed.Goals as goal

pub returns : goal.returns
returns g c =
    let same = to_z-of_z w64 c.args.value c.ranges.value in
    subst (λ bs. g.O.Output.gives bs c.args.out.now c.encode_low.new.out)
    (signed_spelled c.args.code c.args.value c.signed_width.result c.cast_unsigned.result (fits_64 c.args.value c.ranges.value) (c.signed_width.ensures.width ∙ ap signed_width same) c.signed_width.ensures.few (c.cast_unsigned.ensures ∙ cast_is (to_z w64 (of_z w64 c.args.value)) ∙ ap (complement 8) same))
    c.encode_low.ensures
