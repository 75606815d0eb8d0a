use Rattle.std.proofs.Common.{ap, []}
use Rattle.dexio.proofs.Encoded.{then_given}
use Rattle.dexout.specs.Printed.{shown}
use Rattle.dexout.proofs.Given.{next_part}
use Rattle.dexlisting.proofs.RowParts.{method_row}
use Rattle.dexlisting.proofs.parts.encode_method.Goals as goal

pub encode_type-requires : goal.encode_type-requires
encode_type-requires g c = (method_row c.args.numbering.now c.args.method c.method.result.now c.method.ensures).class_is.within

pub returns : goal.returns
returns g c =
    let row = method_row c.args.numbering.now c.args.method c.method.result.now c.method.ensures in
    next_part g.O.Output.gives g.met.O.Output.both (ap shown (row.class_is.is [])) c.encode_type.ensures
    (then_given g.O.Output.gives g.met.O.Output.both c.bytes.ensures c.encode_own_method.ensures)
