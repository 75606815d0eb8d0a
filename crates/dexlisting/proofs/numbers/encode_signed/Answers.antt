use Rattle.std.proofs.Common.{◌≡◌, ap, ◌∙◌, arith, pos, w64, to_z, of_z}
use Rattle.std.specs.Prelude.{nat_abs, ◌<ℤ◌, ◌≤ℤ◌}
use Rattle.std.proofs.lemmas.Int.{ints, to_z-of_z}
use Rattle.dexout.proofs.Given.{last_part}
use Rattle.dexlisting.proofs.Digits.{below_zero, from_zero}
use Rattle.dexlisting.proofs.numbers.encode_signed.Goals as goal

pub returns-then-number-lt0 : goal.returns-then-number-lt0
returns-then-number-lt0 g c =
    let same : to_z w64 (of_z w64 c.args.number) ≡ c.args.number = to_z-of_z w64 c.args.number c.ranges.number in
    let less : c.args.number <ℤ pos 0 = omega (arith, ints, c.if-number-lt0.true, same) in
    last_part g.O.Output.gives g.met.O.Output.both (below_zero c.args.number _ less (c.unsigned_abs-size.ensures.value ∙ ap nat_abs same)) c.encode_count.ensures

pub returns-else-number-lt0 : goal.returns-else-number-lt0
returns-else-number-lt0 g c =
    let same : to_z w64 (of_z w64 c.args.number) ≡ c.args.number = to_z-of_z w64 c.args.number c.ranges.number in
    let more : pos 0 ≤ℤ c.args.number = omega (arith, ints, c.if-number-lt0.false, same) in
    last_part g.O.Output.gives g.met.O.Output.both (from_zero c.args.number _ more (c.unsigned_abs-size.ensures.value ∙ ap nat_abs same)) c.encode_count-else-number-lt0.ensures
