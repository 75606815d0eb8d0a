use Rattle.dexio.proofs.Encoded.{then_given}
use Rattle.dexlisting.specs.FullListing.{catch_line}
use Rattle.dexlisting.proofs.tries.encode_catch.Goals as goal

pub returns : goal.returns
unfolding catch_line
returns g c =
    let G = g.O.Output.gives in
    let B = g.met.O.Output.both in
    then_given G B c.bytes.ensures (then_given G B c.encode_type.ensures (then_given G B c.byte.ensures (then_given G B c.encode_place.ensures c.byte-2.ensures)))
