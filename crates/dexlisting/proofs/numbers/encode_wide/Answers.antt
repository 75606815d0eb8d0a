use Rattle.std.proofs.Common.{subst, sym, arith}
use Rattle.dexio.proofs.Encoded.{then_given}
use Rattle.dexout.proofs.Given.{last_part}
use Rattle.dexlisting.proofs.Digits.{wide_place}
use Rattle.dexlisting.proofs.numbers.encode_wide.Goals as goal

pub returns-else-number-lt4294967296 : goal.returns-else-number-lt4294967296
returns-else-number-lt4294967296 g c =
    let G = g.O.Output.gives in
    let B = g.met.O.Output.both in
    last_part G B (sym (wide_place c.args.number (omega (arith, c.if-number-lt4294967296.false)) c.ranges.number.fits)) (then_given G B c.encode_hexadecimal.ensures (then_given G B c.encode_unit.ensures c.encode_unit-else-number-lt4294967296.ensures))
