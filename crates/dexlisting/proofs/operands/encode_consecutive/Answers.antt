use Rattle.dexio.proofs.Encoded.{then_given}
use Rattle.dexout.proofs.Given.{next_part, last_part}
use Rattle.std.proofs.Common.{ap, ◌∙◌, slice_index}
use Rattle.dexspec.specs.Pieces.{high_byte}
use Rattle.dexlisting.specs.FullListing.{range_text}
use Rattle.dexlisting.proofs.operands.encode_consecutive.Goals as goal

pub returns : goal.returns
returns g c =
    let G = g.O.Output.gives in
    let B = g.met.O.Output.both in
    then_given G B c.bytes.ensures (next_part G B (ap (λ first. range_text first c.from-2.result) (c.from.ensures ∙ c.at.ensures) ∙ ap (range_text (slice_index c.args.units.now 2)) (c.from-2.ensures ∙ c.high_byte.ensures ∙ ap high_byte c.at-2.ensures)) c.encode_range.ensures c.byte.ensures)
