use Rattle.std.proofs.lemmas.Int.{to_z-of_z}
use Rattle.std.proofs.Common.{ap, w64}
use Rattle.dexio.proofs.Encoded.{then_given}
use Rattle.dexout.proofs.Given.{next_part, last_part}
use Rattle.dexlisting.specs.FullListing.{signed_text, literal_text}
use Rattle.dexlisting.proofs.operands.encode_literal.Goals as goal

pub returns : goal.returns
unfolding literal_text
returns g c =
    let G = g.O.Output.gives in
    let B = g.met.O.Output.both in
    then_given G B c.byte.ensures (last_part G B (ap signed_text (to_z-of_z w64 c.args.literal c.ranges.literal)) c.encode_signed.ensures)
