use Rattle.std.proofs.Common.{ap, sym, subst, ◌≡◌, ◌++◌, [], Some, None, rules}
use Rattle.std.specs.Prelude.{codes}
use Rattle.std.specs.Option.{option_map, option_map_or}
use Rattle.std.proofs.lemmas.List.{append-nil}
use Rattle.dexio.proofs.Encoded.{then_given}
use Rattle.dexflags.specs.Flags.{OfMethod, flags_text}
use Rattle.dexcode.specs.Meaning.{code_in}
use Rattle.dexlisting.specs.Listing.{own_method_text, code_lines, method_lines}
use Rattle.dexout.specs.Printed.{shown}
use Rattle.dexval.specs.Numbered.{method_at}
use Rattle.dexout.proofs.Given.{next_part, last_part}
use Rattle.dexlisting.proofs.lines.encode_method_lines.Goals as goal

pub returns-in-Some : goal.returns-in-Some
unfolding method_lines
returns-in-Some g c =
    let m = c.args.numbering.now in
    let G = g.O.Output.gives in
    let B = g.met.O.Output.both in
    let h : c.args.method.now.code ≡ Some c.in-Some.code = search rules in
    then_given G B c.bytes.ensures
    (next_part G B (ap (λ i. own_method_text shown (method_at m i).name (method_at m i).proto) c.number.ensures) c.encode_own_method.ensures
    (then_given G B c.bytes-2.ensures (next_part G B (ap (flags_text OfMethod) c.flags.ensures) c.encode.ensures
    (then_given G B c.byte.ensures (last_part G B (ap (λ o. option_map_or code_lines (option_map (code_in m) o) []) (sym h)) c.encode_code.ensures)))))

pub returns-in_default : goal.returns-in_default
unfolding method_lines
returns-in_default g c =
    let m = c.args.numbering.now in
    let G = g.O.Output.gives in
    let B = g.met.O.Output.both in
    let h : c.args.method.now.code ≡ None = search rules in
    let last = last_part G B (ap (λ o. codes "\n" ++ option_map_or code_lines (option_map (code_in m) o) []) (sym h)) c.byte.ensures in
    then_given G B c.bytes.ensures
    (next_part G B (ap (λ i. own_method_text shown (method_at m i).name (method_at m i).proto) c.number.ensures) c.encode_own_method.ensures
    (then_given G B c.bytes-2.ensures (next_part G B (ap (flags_text OfMethod) c.flags.ensures) c.encode.ensures last)))
