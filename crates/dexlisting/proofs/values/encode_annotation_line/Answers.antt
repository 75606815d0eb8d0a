use Rattle.std.proofs.Common.{append_assoc, ◌++◌}
use Rattle.std.specs.Prelude.{codes}
use Rattle.dexio.proofs.Encoded.{then_given}
use Rattle.dexout.proofs.Given.{last_part}
use Rattle.dexval.specs.Code.{encoded_type, encoded_elements}
use Rattle.dexval.specs.Numbered.{elements_in, type_at}
use Rattle.dexout.specs.Printed.{shown}
use Rattle.dexlisting.specs.FullListing.{annotation_line, elements_text}
use Rattle.dexlisting.proofs.values.encode_annotation_line.Goals as goal

pub encode_annotation-requires : goal.encode_annotation-requires
encode_annotation-requires g c = (c.requires.type_in, c.requires.elements_known)

pub returns : goal.returns
unfolding annotation_line
returns g c =
    let m = c.args.numbering.now in
    let G = g.O.Output.gives in
    let B = g.met.O.Output.both in
    let type = shown (type_at m (encoded_type c.args.annotation.now.annotation)) in
    let elements = elements_text (elements_in m (encoded_elements c.args.annotation.now.annotation)) in
    then_given G B c.bytes.ensures (then_given G B c.bytes-2.ensures (then_given G B c.encode_visibility.ensures (then_given G B c.byte.ensures
    (last_part G B (append_assoc type (codes " {" ++ elements) (codes "\n")) (then_given G B c.encode_annotation.ensures c.byte-2.ensures)))))
