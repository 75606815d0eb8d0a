use Rattle.dexio.proofs.Encoded.{then_given}
use Rattle.dexout.proofs.Given.{next_part, last_part}
use Rattle.std.proofs.Common.{ap, ◌∙◌, pos, map}
use Rattle.std.specs.Prelude.{codes}
use Rattle.std.specs.List.{flat_map}
use Rattle.std.specs.Option.{option_map}
use Rattle.dexdebug.specs.Meaning.{operation_in}
use Rattle.dexpool.specs.NumberedSymbols.{text_at}
use Rattle.dexout.specs.Printed.{count_text}
use Rattle.dexlisting.specs.FullListing.{parameter_name_line, operation_lines, debug_lines}
use Rattle.dexlisting.proofs.debug.encode_debug.Goals as goal

pub returns : goal.returns
unfolding debug_lines
returns g c =
    let m = c.args.numbering.now in
    let G = g.O.Output.gives in
    let B = g.met.O.Output.both in
    next_part G B (ap (count_text (codes "    line-start ")) c.line_start.ensures) c.encode_count.ensures (then_given G B c.byte.ensures
    (next_part G B (ap (λ names. flat_map parameter_name_line (map (option_map (text_at m)) names)) c.parameter_names.ensures) c.encode_parameter_names.ensures
    (last_part G B (ap (λ l. operation_lines 0 (pos l) (map (operation_in m) c.operations.result)) c.line_start-2.ensures ∙ ap (λ ops. operation_lines 0 (pos c.args.debug.now.line_start) (map (operation_in m) ops)) c.operations.ensures) c.encode_operations.ensures)))
