use Rattle.dexio.proofs.Encoded.{then_given}
use Rattle.dexout.proofs.Given.{next_part, last_part}
use Rattle.std.proofs.Common.{ap, subst}
use Rattle.dexflags.specs.Flags.{OfField, flags_text}
use Rattle.dexval.specs.Numbered.{IsKnownSet, field_at}
use Rattle.dexlisting.specs.Listing.{own_field_text}
use Rattle.dexlisting.specs.FullListing.{plain, full_field_lines}
use Rattle.dexlisting.proofs.Declared.{one_set}
use Rattle.dexlisting.proofs.full_lines.encode_full_field.Goals as goal

pub encode_set-requires : goal.encode_set-requires
encode_set-requires g c = λ is borrowed. subst (IsKnownSet c.args.numbering.now) (one_set c.annotations.result _ is c.annotations.ensures borrowed) c.requires.field.annotations_known

pub returns : goal.returns
unfolding full_field_lines
returns g c =
    let m = c.args.numbering.now in
    let G = g.O.Output.gives in
    let B = g.met.O.Output.both in
    then_given G B c.bytes.ensures
    (next_part G B (ap (λ i. own_field_text plain (field_at m i).name (field_at m i).type) c.number.ensures) c.encode_own_field.ensures
    (then_given G B c.bytes-2.ensures (next_part G B (ap (flags_text OfField) c.flags.ensures) c.encode.ensures
    (then_given G B c.encode_initial.ensures (then_given G B c.byte.ensures (c.encode_set.ensures c.args.field.now.annotations c.annotations.ensures))))))
