use Rattle.std.proofs.Common.{ap, rules, to_z, of_z, w64, ◌≡◌}
use Rattle.dexio.proofs.Encoded.{then_given}
use Rattle.dexout.proofs.Given.{next_part, last_part}
use Rattle.dexspec.specs.Pieces.{int_in}
use Rattle.dexlisting.specs.FullListing.{literal_text}
use Rattle.dexlisting.proofs.full_pieces.encode_packed.Goals as goal

pub returns : goal.returns
returns g c =
    let G = g.O.Output.gives in
    let B = g.met.O.Output.both in
    let same : to_z w64 (of_z w64 c.from.result) ≡ int_in c.args.units.now 2 = search rules in
    then_given G B c.bytes.ensures (next_part G B (ap literal_text same) c.encode_literal.ensures (then_given G B c.bytes-2.ensures c.encode_offsets.ensures))
