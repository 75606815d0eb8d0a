use Rattle.std.proofs.Common.{ap, ◌∙◌, List}
use Rattle.std.specs.List.{flat_map}
use Rattle.dexio.proofs.Encoded.{then_given}
use Rattle.dexinsn.specs.Numbered.{NumberedCode}
use Rattle.dexinsn.specs.Listing.{listed}
use Rattle.dexlisting.specs.internal.Known.{listed_line}
use Rattle.dexout.proofs.Given.{last_part}
use Rattle.dexlisting.proofs.Shown.{code_shown}
use Rattle.dexlisting.proofs.pieces.encode_code.Goals as goal

pub encode_pieces-requires : goal.encode_pieces-requires
encode_pieces-requires g c = rw c.pieces.ensures c.requires.pieces_known

pub returns : goal.returns
returns g c =
    let m = c.args.numbering.now in
    let G = g.O.Output.gives in
    let B = g.met.O.Output.both in
    let pieces = last_part G B (ap (λ (b : NumberedCode). flat_map (listed_line m) (listed 0 b.pieces)) c.pieces.ensures) c.encode_pieces.ensures in
    last_part G B (code_shown m c.args.code.now) (then_given G B (c.encode_counts.ensures m) pieces)
