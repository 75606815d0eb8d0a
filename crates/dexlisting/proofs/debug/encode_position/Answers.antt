use Rattle.std.proofs.lemmas.Int.{to_z-of_z}
use Rattle.std.proofs.Common.{ap, w64}
use Rattle.std.specs.Prelude.{codes}
use Rattle.dexio.proofs.Encoded.{then_given}
use Rattle.dexout.proofs.Given.{next_part, last_part}
use Rattle.dexout.specs.Printed.{count_text}
use Rattle.dexlisting.specs.FullListing.{signed_text}
use Rattle.dexlisting.proofs.debug.encode_position.Goals as goal

pub returns : goal.returns
returns g c =
    let G = g.O.Output.gives in
    let B = g.met.O.Output.both in
    then_given G B c.bytes.ensures (then_given G B c.encode_wide.ensures (then_given G B c.bytes-2.ensures (next_part G B (ap signed_text (to_z-of_z w64 c.args.line c.ranges.line)) c.encode_signed.ensures (last_part G B (ap (count_text (codes " opcode=")) c.from.ensures) c.encode_count.ensures))))
