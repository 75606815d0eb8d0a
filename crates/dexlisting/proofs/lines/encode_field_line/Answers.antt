use Rattle.std.proofs.Common.{ap}
use Rattle.dexio.proofs.Encoded.{then_given}
use Rattle.dexflags.specs.Flags.{OfField, flags_text}
use Rattle.dexlisting.specs.Listing.{own_field_text, field_line}
use Rattle.dexout.specs.Printed.{shown}
use Rattle.dexval.specs.Numbered.{field_at}
use Rattle.dexout.proofs.Given.{next_part}
use Rattle.dexlisting.proofs.lines.encode_field_line.Goals as goal

pub returns : goal.returns
unfolding field_line
returns g c =
    let m = c.args.numbering.now in
    let G = g.O.Output.gives in
    let B = g.met.O.Output.both in
    then_given G B c.bytes.ensures
    (next_part G B (ap (λ i. own_field_text shown (field_at m i).name (field_at m i).type) c.number.ensures) c.encode_own_field.ensures
    (then_given G B c.bytes-2.ensures (next_part G B (ap (flags_text OfField) c.flags.ensures) c.encode.ensures c.byte.ensures)))
