use Rattle.std.proofs.lemmas.Int.{to_z-of_z}
use Rattle.std.proofs.Common.{ap, append_assoc, ◌∷◌, ◌++◌, w32}
use Rattle.dexio.proofs.Encoded.{then_given}
use Rattle.dexout.proofs.Given.{next_part, last_part}
use Rattle.dexlisting.specs.FullListing.{register_text, literal_text, target_text}
use Rattle.dexlisting.proofs.operands.encode_one_target.Goals as goal

pub returns : goal.returns
returns g c =
    let G = g.O.Output.gives in
    let B = g.met.O.Output.both in
    then_given G B c.byte.ensures (last_part G B (ap (target_text c.args.at) (to_z-of_z w32 c.args.offset c.ranges.offset)) c.encode_target.ensures)
