use Rattle.dexio.proofs.Encoded.{then_given}
use Rattle.dexlisting.proofs.values.encode_initial.Goals as goal

pub returns-in-Some : goal.returns-in-Some
returns-in-Some g c = rw c.in-Some.is (then_given g.O.Output.gives g.met.O.Output.both c.bytes.ensures c.encode_value.ensures)
