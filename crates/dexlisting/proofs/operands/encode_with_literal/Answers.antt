use Rattle.std.proofs.lemmas.Int.{to_z-of_z}
use Rattle.std.proofs.Common.{ap, ◌∷◌, w64}
use Rattle.dexio.proofs.Encoded.{then_given}
use Rattle.dexout.proofs.Given.{next_part, last_part}
use Rattle.dexlisting.specs.FullListing.{register_text, literal_text, target_text}
use Rattle.dexlisting.proofs.operands.encode_with_literal.Goals as goal

pub returns : goal.returns
returns g c =
    let G = g.O.Output.gives in
    let B = g.met.O.Output.both in
    then_given G B c.encode_one.ensures (last_part G B (ap (λ z. 44 ∷ 32 ∷ literal_text z) (to_z-of_z w64 c.args.literal c.ranges.literal)) c.encode_next_literal.ensures)
