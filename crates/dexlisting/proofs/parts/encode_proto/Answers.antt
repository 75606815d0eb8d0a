use Rattle.std.proofs.Common.{ap, [], ◌∷◌, ◌∙◌}
use Rattle.std.specs.List.{flat_map}
use Rattle.dexio.proofs.Encoded.{then_given}
use Rattle.dexout.specs.Printed.{shown}
use Rattle.dexpool.specs.NumberedSymbols.{type_at}
use Rattle.dexout.proofs.Given.{next_part, last_part}
use Rattle.dexlisting.proofs.RowParts.{proto_row, all_within, types_shown}
use Rattle.dexlisting.proofs.parts.encode_proto.Goals as goal

pub encode_types-requires : goal.encode_types-requires
encode_types-requires g c =
    let m = c.args.numbering.now in
    let row = proto_row m c.args.proto c.proto-row.result c.proto-row.ensures in
    rw c.parameters.ensures (all_within m.types _ _ row.parameters_are)

pub encode_type-requires : goal.encode_type-requires
encode_type-requires g c = rw c.return_type.ensures (proto_row c.args.numbering.now c.args.proto c.proto-row.result c.proto-row.ensures).return_is.within

pub returns : goal.returns
returns g c =
    let m = c.args.numbering.now in
    let row = proto_row m c.args.proto c.proto-row.result c.proto-row.ensures in
    let G = g.O.Output.gives in
    let B = g.met.O.Output.both in
    then_given G B c.byte.ensures
    (next_part G B (ap (λ ns. flat_map (λ i. shown (type_at m i)) ns) c.parameters.ensures ∙ types_shown m _ _ row.parameters_are) c.encode_types.ensures
    (then_given G B c.byte-2.ensures (last_part G B (ap (λ i. shown (type_at m i)) c.return_type.ensures ∙ ap shown (row.return_is.is [])) c.encode_type.ensures)))
