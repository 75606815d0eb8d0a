use Rattle.std.proofs.Common.{ap, ◌∙◌, pos, ◌+ℤ◌, w32}
use Rattle.std.specs.Prelude.{nat_abs}
use Rattle.std.proofs.lemmas.Int.{to_z-of_z}
use Rattle.dexout.proofs.Given.{last_part}
use Rattle.dexout.specs.Printed.{place_text}
use Rattle.dexlisting.specs.FullListing.{target_text}
use Rattle.dexlisting.proofs.operands.encode_target.Goals as goal

pub returns : goal.returns
unfolding target_text
returns g c =
    last_part g.O.Output.gives g.met.O.Output.both (ap place_text (c.target_of.ensures ∙ ap (λ z. nat_abs (pos c.args.at +ℤ z)) (to_z-of_z w32 c.args.offset c.ranges.offset))) c.encode_wide.ensures
