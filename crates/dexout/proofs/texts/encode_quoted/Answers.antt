use Rattle.dexio.proofs.Encoded.{then_given}
use Rattle.dexout.proofs.texts.encode_quoted.Goals as goal

pub returns : goal.returns
returns g c = then_given g.O.Output.gives g.met.O.Output.both c.byte.ensures (then_given g.O.Output.gives g.met.O.Output.both c.encode_text.ensures c.byte-2.ensures)
