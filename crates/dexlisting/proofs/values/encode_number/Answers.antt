use Rattle.std.proofs.lemmas.Int.{to_z-of_z}
use Rattle.dexio.proofs.Encoded.{then_given}
use Rattle.dexout.proofs.Given.{last_part}
use Rattle.std.proofs.Common.{ap, w64}
use Rattle.dexlisting.specs.FullListing.{literal_text}
use Rattle.dexlisting.proofs.values.encode_number.Goals as goal

pub returns : goal.returns
returns g c =
    let G = g.O.Output.gives in
    let B = g.met.O.Output.both in
    then_given G B c.bytes.ensures (last_part G B (ap literal_text (to_z-of_z w64 c.args.number c.ranges.number)) c.encode_literal.ensures)
