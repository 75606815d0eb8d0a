use Rattle.std.proofs.Common.{ap, append_assoc, ◌∷◌, ◌++◌}
use Rattle.dexio.proofs.Encoded.{then_given}
use Rattle.dexout.proofs.Given.{next_part, last_part}
use Rattle.dexlisting.specs.FullListing.{register_text, literal_text, target_text}
use Rattle.dexlisting.proofs.operands.encode_three.Goals as goal

pub returns : goal.returns
returns g c =
    let G = g.O.Output.gives in
    let B = g.met.O.Output.both in
    last_part G B (ap (λ z. 32 ∷ z) (append_assoc (register_text c.args.first) (44 ∷ 32 ∷ register_text c.args.second) (44 ∷ 32 ∷ register_text c.args.third))) (then_given G B c.encode_two.ensures c.encode_next.ensures)
