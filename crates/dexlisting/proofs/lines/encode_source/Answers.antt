use Rattle.std.proofs.Common.{ap, sym, []}
use Rattle.dexio.proofs.Encoded.{then_given}
use Rattle.dexlisting.specs.Listing.{source_line}
use Rattle.dexout.proofs.Given.{last_part}
use Rattle.dexlisting.proofs.lines.encode_source.Goals as goal

pub returns-in-Some : goal.returns-in-Some
unfolding source_line
returns-in-Some g c =
    let G = g.O.Output.gives in
    let B = g.met.O.Output.both in
    rw c.in-Some.is (last_part G B (ap source_line (sym (c.string.ensures.is []))) (then_given G B c.bytes.ensures (then_given G B c.encode_quoted.ensures c.byte.ensures)))
