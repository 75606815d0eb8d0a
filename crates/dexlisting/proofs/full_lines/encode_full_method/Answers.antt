use Rattle.std.proofs.Common.{◌≡◌, ap, sym, subst, ◌∙◌, [], ◌++◌, Option, Some, None, rules, map}
use Rattle.std.specs.Option.{option_map, option_map_or}
use Rattle.dexio.proofs.Encoded.{then_given}
use Rattle.dexout.proofs.Given.{next_part, last_part}
use Rattle.dexflags.specs.Flags.{OfMethod, flags_text}
use Rattle.dexspec.specs.Symbols.{MethodSymbol}
use Rattle.dexcode.specs.Numbered.{NumberedItem}
use Rattle.dexcode.specs.Meaning.{code_in, IsKnownCode}
use Rattle.dexval.specs.Numbered.{IsKnownSet, method_at, set_in}
use Rattle.dexlisting.specs.Listing.{symbol_text, own_method_text}
use Rattle.dexlisting.specs.FullListing.{plain, parameter_lines, full_code_lines, full_method_lines}
use Rattle.dexlisting.proofs.Declared.{one_set}
use Rattle.dexlisting.proofs.full_lines.encode_full_method.Goals as goal

pub encode_set-requires : goal.encode_set-requires
encode_set-requires g c = λ is borrowed. subst (IsKnownSet c.args.numbering.now) (one_set c.annotations.result _ is c.annotations.ensures borrowed) c.requires.annotations_known

pub encode_parameters-requires : goal.encode_parameters-requires
encode_parameters-requires g c = rw c.parameter_annotations.ensures c.requires.parameters_known

pub returns-in-Some : goal.returns-in-Some
unfolding full_method_lines
returns-in-Some g c =
    let m = c.args.numbering.now in
    let G = g.O.Output.gives in
    let B = g.met.O.Output.both in
    let h : c.args.method.now.code ≡ Some c.in-Some.code = search rules in
    then_given G B c.bytes.ensures
    (next_part G B (ap (λ i. own_method_text plain (method_at m i).name (method_at m i).proto) c.number.ensures) c.encode_own_method.ensures
    (then_given G B c.bytes-2.ensures (next_part G B (ap (flags_text OfMethod) c.flags.ensures) c.encode.ensures
    (then_given G B c.byte.ensures (then_given G B (c.encode_set.ensures c.args.method.now.annotations c.annotations.ensures)
    (next_part G B (ap (λ sets. parameter_lines 0 (map (set_in m) sets)) c.parameter_annotations.ensures) c.encode_parameters.ensures
    (last_part G B (ap (λ i. full_code_lines (symbol_text plain (MethodSymbol (method_at m i))) (code_in m c.in-Some.code)) c.number-in-Some.ensures
    ∙ ap (λ o. option_map_or (full_code_lines (symbol_text plain (MethodSymbol (method_at m c.args.method.now.number)))) (option_map (code_in m) o) []) (sym h)) c.encode_full_code.ensures)))))))

pub returns-in_default : goal.returns-in_default
unfolding full_method_lines
returns-in_default g c =
    let m = c.args.numbering.now in
    let G = g.O.Output.gives in
    let B = g.met.O.Output.both in
    let h : c.args.method.now.code ≡ None = search rules in
    let code = λ (o : Option NumberedItem). option_map_or (full_code_lines (symbol_text plain (MethodSymbol (method_at m c.args.method.now.number)))) (option_map (code_in m) o) [] in
    then_given G B c.bytes.ensures
    (next_part G B (ap (λ i. own_method_text plain (method_at m i).name (method_at m i).proto) c.number.ensures) c.encode_own_method.ensures
    (then_given G B c.bytes-2.ensures (next_part G B (ap (flags_text OfMethod) c.flags.ensures) c.encode.ensures
    (then_given G B c.byte.ensures (then_given G B (c.encode_set.ensures c.args.method.now.annotations c.annotations.ensures)
    (next_part G B (ap (λ sets. parameter_lines 0 (map (set_in m) sets)) c.parameter_annotations.ensures) c.encode_parameters.ensures
    (last_part G B (ap code (sym h)) (g.met.O.Output.nothing c.encode_parameters.new.out))))))))
