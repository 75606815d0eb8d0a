use Rattle.dexio.proofs.Encoded.{then_given}
use Rattle.dexlisting.proofs.operands.encode_two.Goals as goal

pub returns : goal.returns
returns g c =
    let G = g.O.Output.gives in
    let B = g.met.O.Output.both in
    then_given G B c.encode_one.ensures c.encode_next.ensures
