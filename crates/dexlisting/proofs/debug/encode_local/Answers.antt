use Rattle.dexio.proofs.Encoded.{then_given}
use Rattle.dexlisting.proofs.debug.encode_local.Goals as goal

pub returns : goal.returns
returns g c =
    let G = g.O.Output.gives in
    let B = g.met.O.Output.both in
    then_given G B c.encode_register.ensures (then_given G B c.byte.ensures (then_given G B c.encode_text_or_dash.ensures (then_given G B c.byte-2.ensures c.encode_type_or_dash.ensures)))
