use Rattle.std.proofs.Common.{ap, []}
use Rattle.dexlisting.specs.Listing.{proto_text}
use Rattle.dexout.proofs.Given.{next_part, last_part}
use Rattle.dexlisting.specs.internal.Known.{name_text}
use Rattle.dexlisting.proofs.RowParts.{method_row}
use Rattle.dexlisting.proofs.parts.encode_own_method.Goals as goal

pub encode_string-requires : goal.encode_string-requires
encode_string-requires g c = (method_row c.args.numbering.now c.args.method c.method-row.result.now c.method-row.ensures).name_is.within

pub encode_proto-requires : goal.encode_proto-requires
encode_proto-requires g c = (method_row c.args.numbering.now c.args.method c.method-row.result.now c.method-row.ensures).proto_is.within

pub returns : goal.returns
returns g c =
    let row = method_row c.args.numbering.now c.args.method c.method-row.result.now c.method-row.ensures in
    next_part g.O.Output.gives g.met.O.Output.both (ap (name_text c.args.names) (row.name_is.is [])) c.encode_string.ensures
    (last_part g.O.Output.gives g.met.O.Output.both (ap proto_text (row.proto_is.is (record { return_type = []; parameters = [] }))) c.encode_proto.ensures)
