use Rattle.dexio.proofs.Encoded.{then_given}
use Rattle.dexout.proofs.Given.{last_part}
use Rattle.std.proofs.Common.{◌≡◌, ◌+◌, ◌*◌, ap, sym, rules, to_z, of_z, w64}
use Rattle.dexspec.specs.Pieces.{int_in}
use Rattle.dexlisting.specs.FullListing.{signed_text}
use Rattle.dexlisting.proofs.Blanks.{offsets_more}
use Rattle.dexlisting.proofs.full_pieces.encode_offsets.Goals as goal

pub loop-i-preserved : goal.loop-i-preserved
loop-i-preserved g c =
    let G = g.O.Output.gives in
    let B = g.met.O.Output.both in
    let us = c.args.units.now in
    let same : to_z w64 (of_z w64 c.from.result) ≡ int_in us (c.args.place + 2 * c.loop-i.i) = search rules in
    last_part G B (sym (offsets_more us c.args.place c.loop-i.i)) (then_given G B c.loop-i.invariant (then_given G B c.byte.ensures (last_part G B (ap signed_text same) c.encode_signed.ensures)))
