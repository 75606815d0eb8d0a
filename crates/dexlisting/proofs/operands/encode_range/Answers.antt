use Rattle.std.proofs.Common.{◌≡◌, ap, suc, rules}
use Rattle.dexio.proofs.Encoded.{then_given}
use Rattle.dexout.proofs.Given.{next_part, last_part}
use Rattle.dexlisting.specs.FullListing.{range_text}
use Rattle.dexlisting.proofs.operands.encode_range.Goals as goal

pub returns : goal.returns
returns g c =
    let G = g.O.Output.gives in
    let B = g.met.O.Output.both in
    let whole : suc c.in-Some.more ≡ c.args.count = search rules in
    last_part G B (ap (range_text c.args.first) whole) (then_given G B c.encode_register.ensures (then_given G B c.bytes.ensures c.encode_register-2.ensures))
