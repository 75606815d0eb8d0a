use Rattle.std.proofs.Common.{ap, []}
use Rattle.dexio.proofs.Encoded.{then_given}
use Rattle.dexout.specs.Printed.{shown}
use Rattle.dexout.proofs.Given.{next_part}
use Rattle.dexlisting.proofs.RowParts.{field_row}
use Rattle.dexlisting.proofs.parts.encode_field.Goals as goal

pub encode_type-requires : goal.encode_type-requires
encode_type-requires g c = (field_row c.args.numbering.now c.args.field c.field.result.now c.field.ensures).class_is.within

pub returns : goal.returns
returns g c =
    let row = field_row c.args.numbering.now c.args.field c.field.result.now c.field.ensures in
    next_part g.O.Output.gives g.met.O.Output.both (ap shown (row.class_is.is [])) c.encode_type.ensures
    (then_given g.O.Output.gives g.met.O.Output.both c.bytes.ensures c.encode_own_field.ensures)
