use Rattle.dexio.proofs.Encoded.{then_given}
use Rattle.dexlisting.proofs.full_pieces.encode_symbol_after.Goals as goal

pub returns-in-Some : goal.returns-in-Some
returns-in-Some g c =
    let G = g.O.Output.gives in
    let B = g.met.O.Output.both in
    rw c.in-Some.is (then_given G B c.bytes.ensures c.encode_symbol.ensures)
