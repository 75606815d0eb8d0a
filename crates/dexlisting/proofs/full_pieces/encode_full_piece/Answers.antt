use Rattle.std.proofs.Common.{ap, subst, ◌++◌}
use Rattle.std.specs.Prelude.{codes}
use Rattle.dexio.proofs.Encoded.{then_given}
use Rattle.dexout.proofs.Given.{next_part}
use Rattle.dexlisting.specs.FullListing.{units_text}
use Rattle.dexlisting.specs.internal.FullPieces.{full_kind_text, full_listed_line}
use Rattle.dexlisting.proofs.full_pieces.encode_full_piece.Goals as goal

pub returns : goal.returns
unfolding full_listed_line
returns g c =
    let G = g.O.Output.gives in
    let B = g.met.O.Output.both in
    then_given G B c.bytes.ensures (then_given G B c.encode_place.ensures (then_given G B c.bytes-2.ensures (next_part G B (ap units_text c.of-units.ensures) c.encode_units.ensures (then_given G B c.bytes-3.ensures
    (next_part G B (ap (full_kind_text c.args.numbering.now c.args.piece.now.kind c.args.piece.now.unit) c.of-units.ensures) c.encode_full_kind.ensures (then_given G B c.byte.ensures (then_given G B c.encode_method.ensures c.byte-2.ensures)))))))
