use Rattle.std.proofs.Common.{ap, []}
use Rattle.dexio.proofs.Encoded.{then_given}
use Rattle.dexout.specs.Printed.{shown}
use Rattle.dexout.proofs.Given.{next_part, last_part}
use Rattle.dexlisting.specs.internal.Known.{name_text}
use Rattle.dexlisting.proofs.RowParts.{field_row}
use Rattle.dexlisting.proofs.parts.encode_own_field.Goals as goal

pub encode_string-requires : goal.encode_string-requires
encode_string-requires g c = (field_row c.args.numbering.now c.args.field c.field-row.result.now c.field-row.ensures).name_is.within

pub encode_type-requires : goal.encode_type-requires
encode_type-requires g c = (field_row c.args.numbering.now c.args.field c.field-row.result.now c.field-row.ensures).type_is.within

pub returns : goal.returns
returns g c =
    let row = field_row c.args.numbering.now c.args.field c.field-row.result.now c.field-row.ensures in
    next_part g.O.Output.gives g.met.O.Output.both (ap (name_text c.args.names) (row.name_is.is [])) c.encode_string.ensures
    (then_given g.O.Output.gives g.met.O.Output.both c.byte.ensures (last_part g.O.Output.gives g.met.O.Output.both (ap shown (row.type_is.is [])) c.encode_type.ensures))
