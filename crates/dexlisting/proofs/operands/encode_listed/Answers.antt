use Rattle.dexio.proofs.Encoded.{then_given}
use Rattle.dexout.proofs.Given.{next_part, last_part}
use Rattle.std.proofs.Common.{◌≡◌, ◌/◌, ◌%◌, ◌∷◌, [], ap, take, refl}
use Rattle.dexlisting.specs.FullListing.{registers_text, listed_registers}
use Rattle.dexlisting.proofs.OperandTexts.{first_five}
use Rattle.dexlisting.proofs.operands.encode_listed.Goals as goal

pub returns : goal.returns
returns g c =
    let G = g.O.Output.gives in
    let B = g.met.O.Output.both in
    let same : take c.min-count.result (c.at-third.result % 16 ∷ c.at-third.result / 16 % 16 ∷ c.third_nibble.result ∷ c.fourth_nibble.result ∷ c.third_nibble-2.result ∷ []) ≡ listed_registers c.args.units.now =
    rw (c.min-count.ensures, c.from.ensures, c.fourth_nibble-2.ensures, c.third_nibble.ensures, c.fourth_nibble.ensures, c.third_nibble-2.ensures, c.at-first.ensures, c.at-third.ensures) (first_five _ _ refl) in
    then_given G B c.bytes.ensures (next_part G B (ap registers_text same) c.encode_registers.ensures c.byte.ensures)
