use Rattle.std.proofs.lemmas.Int.{to_z-of_z}
use Rattle.std.proofs.Common.{ap, w64}
use Rattle.dexio.proofs.Encoded.{then_given}
use Rattle.dexout.proofs.Given.{next_part, last_part}
use Rattle.dexdebug.specs.Meaning.{operation_in}
use Rattle.dexlisting.specs.FullListing.{operation_text, operation_line}
use Rattle.dexlisting.proofs.debug.encode_operation_line.Goals as goal

pub returns : goal.returns
unfolding operation_line
returns g c =
    let G = g.O.Output.gives in
    let B = g.met.O.Output.both in
    then_given G B c.bytes.ensures (next_part G B (ap (λ z. operation_text c.args.address z (operation_in c.args.numbering.now c.args.operation.now)) (to_z-of_z w64 c.args.line c.ranges.line)) c.encode_operation.ensures c.byte.ensures)
