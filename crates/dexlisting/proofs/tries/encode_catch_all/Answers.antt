use Rattle.dexio.proofs.Encoded.{then_given}
use Rattle.dexlisting.specs.FullListing.{catch_all_line}
use Rattle.dexlisting.proofs.tries.encode_catch_all.Goals as goal

pub returns-in-Some : goal.returns-in-Some
unfolding catch_all_line
returns-in-Some g c =
    let G = g.O.Output.gives in
    let B = g.met.O.Output.both in
    rw c.in-Some.is (then_given G B c.bytes.ensures (then_given G B c.encode_place.ensures c.byte.ensures))
