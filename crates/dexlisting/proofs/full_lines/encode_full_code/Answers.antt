use Rattle.std.proofs.Common.{ap, ◌∙◌, List, map}
use Rattle.std.specs.List.{flat_map}
use Rattle.dexio.proofs.Encoded.{then_given}
use Rattle.dexout.proofs.Given.{next_part, last_part}
use Rattle.dexspec.specs.Symbols.{MethodSymbol}
use Rattle.dexinsn.specs.Numbered.{NumberedCode, piece_in}
use Rattle.dexcode.specs.Numbered.{NumberedTry, try_meant}
use Rattle.dexval.specs.Numbered.{method_at}
use Rattle.dexlisting.specs.Listing.{symbol_text}
use Rattle.dexlisting.specs.FullListing.{plain, full_piece_lines, try_lines, full_code_lines}
use Rattle.dexlisting.proofs.Declared.{debug_known, debug_shown}
use Rattle.dexlisting.proofs.full_lines.encode_full_code.Goals as goal

pub encode_full_pieces-requires-clause-pieces : goal.encode_full_pieces-requires-clause-pieces
encode_full_pieces-requires-clause-pieces g c = rw c.pieces.ensures c.requires.code.pieces_known

pub encode_tries-requires : goal.encode_tries-requires
encode_tries-requires g c = rw c.tries.ensures c.requires.code.tries_known

pub encode_debug_of-requires : goal.encode_debug_of-requires
encode_debug_of-requires g c = debug_known c.args.numbering.now c.args.code.now.debug c.debug.result c.debug.ensures c.requires.code.debug_known

pub returns : goal.returns
unfolding full_code_lines
returns g c =
    let m = c.args.numbering.now in
    let G = g.O.Output.gives in
    let B = g.met.O.Output.both in
    let method = symbol_text plain (MethodSymbol (method_at m c.args.method)) in
    then_given G B (c.encode_counts.ensures m)
    (next_part G B (ap (λ (b : NumberedCode). full_piece_lines method 0 (map (piece_in m) b.pieces)) c.pieces.ensures) c.encode_full_pieces.ensures
    (next_part G B (ap (λ (ts : List NumberedTry). flat_map try_lines (map (try_meant m) ts)) c.tries.ensures) c.encode_tries.ensures
    (last_part G B (debug_shown m c.args.code.now.debug c.debug.result c.debug.ensures) c.encode_debug_of.ensures)))
