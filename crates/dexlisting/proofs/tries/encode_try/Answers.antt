use Rattle.std.proofs.Common.{◌≡◌, ◌++◌, [], ◌<◌, ap, sym, subst, ◌∙◌, length}
use Rattle.std.specs.Prelude.{All, codes, slice_index_or}
use Rattle.std.specs.List.{flat_map}
use Rattle.std.specs.Option.{option_map_or}
use Rattle.std.proofs.lemmas.List.{get_or_default}
use Rattle.dexio.proofs.Encoded.{then_given}
use Rattle.dexout.proofs.Given.{next_part, last_part}
use Rattle.dexout.specs.Printed.{count_text}
use Rattle.dexcode.specs.Numbered.{NumberedHandler, no_handler, handler_meant}
use Rattle.dexlisting.specs.FullListing.{catch_line, catch_all_line, try_lines}
use Rattle.dexlisting.proofs.tries.encode_try.Goals as goal

pub encode_handler-requires : goal.encode_handler-requires
encode_handler-requires g c =
    let hs = c.args.handlers.now in
    let same : c.index-handlers-covered.result ≡ slice_index_or hs c.args.covered.now.handler no_handler = c.index-handlers-covered.is ∙ get_or_default hs c.args.covered.now.handler _ no_handler c.requires.within in
    subst (λ (h : NumberedHandler). All (λ x. x.typ < length c.args.numbering.now.types) h.catches) (sym same) c.requires.known

pub returns : goal.returns
unfolding try_lines
returns g c =
    let m = c.args.numbering.now in
    let hs = c.args.handlers.now in
    let G = g.O.Output.gives in
    let B = g.met.O.Output.both in
    let same : c.index-handlers-covered.result ≡ slice_index_or hs c.args.covered.now.handler no_handler = c.index-handlers-covered.is ∙ get_or_default hs c.args.covered.now.handler _ no_handler c.requires.within in
    then_given G B c.bytes.ensures (then_given G B c.encode_place.ensures (next_part G B (ap (count_text (codes " units=")) c.from.ensures) c.encode_count.ensures (then_given G B c.byte.ensures
    (last_part G B (ap (λ (h : NumberedHandler). flat_map catch_line (handler_meant m h).catches ++ option_map_or catch_all_line (handler_meant m h).catch_all []) same) c.encode_handler.ensures))))
