use Rattle.std.proofs.Common.{ap, [], rules}
use Rattle.std.specs.Prelude.{codes}
use Rattle.std.specs.Option.{option_map, option_map_or}
use Rattle.dexio.proofs.Encoded.{then_given}
use Rattle.dexflags.specs.Flags.{OfClass, flags_text}
use Rattle.dexout.specs.Printed.{shown}
use Rattle.dexlisting.specs.Listing.{own_line}
use Rattle.dexpool.specs.NumberedSymbols.{type_at}
use Rattle.dexout.proofs.Given.{next_part}
use Rattle.dexlisting.proofs.ClassParts.{superclass_in}
use Rattle.dexlisting.proofs.lines.encode_own_line.Goals as goal

pub encode_superclass-requires : goal.encode_superclass-requires
encode_superclass-requires g c = rw c.superclass.ensures (superclass_in c.args.numbering.now c.args.class.now c.requires)

pub returns : goal.returns
unfolding own_line
returns g c =
    let m = c.args.numbering.now in
    let G = g.O.Output.gives in
    let B = g.met.O.Output.both in
    then_given G B c.bytes.ensures (next_part G B (ap (λ i. shown (type_at m i)) c.name.ensures) c.encode_type.ensures
    (then_given G B c.bytes-2.ensures (next_part G B (ap (flags_text OfClass) c.flags.ensures) c.encode.ensures
    (then_given G B c.bytes-3.ensures (next_part G B (ap (λ o. option_map_or shown (option_map (type_at m) o) (codes "-")) c.superclass.ensures) c.encode_superclass.ensures c.byte.ensures)))))
