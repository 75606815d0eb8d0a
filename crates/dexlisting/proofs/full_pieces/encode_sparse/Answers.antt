use Rattle.std.proofs.Common.{ap, ◌+◌, ◌*◌}
use Rattle.dexio.proofs.Encoded.{then_given}
use Rattle.dexout.proofs.Given.{last_part}
use Rattle.dexspec.specs.Pieces.{ints_in}
use Rattle.dexlisting.specs.FullListing.{offsets_text}
use Rattle.dexlisting.proofs.full_pieces.encode_sparse.Goals as goal

pub returns : goal.returns
returns g c =
    let G = g.O.Output.gives in
    let B = g.met.O.Output.both in
    then_given G B c.bytes.ensures (then_given G B c.encode_keys.ensures (then_given G B c.bytes-2.ensures
    (last_part G B (ap (λ n. offsets_text (ints_in c.args.units.now (2 + 2 * n) c.args.size)) c.from.ensures) c.encode_offsets.ensures)))
