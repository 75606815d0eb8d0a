use Rattle.std.proofs.Common.{ap, sym, ◌∙◌, [], ℕ, List, map}
use Rattle.std.specs.Prelude.{codes}
use Rattle.std.specs.List.{flat_map}
use Rattle.std.specs.Option.{option_map, option_map_or}
use Rattle.dexmembers.specs.Numbered.{NumberedMembers, NumberedField, NumberedMethod, field_in, method_in}
use Rattle.dexlisting.specs.Listing.{field_line, method_lines, interface_line, source_line, class_lines}
use Rattle.dexpool.specs.NumberedSymbols.{text_at, type_at}
use Rattle.dexio.proofs.Encoded.{then_given}
use Rattle.dexout.proofs.Given.{next_part, last_part}
use Rattle.dexlisting.proofs.Shown.{mapped}
use Rattle.dexlisting.proofs.ClassParts.{interfaces_in, source_in}
use Rattle.dexlisting.proofs.lines.encode_class.Goals as goal

pub encode_interfaces-requires : goal.encode_interfaces-requires
encode_interfaces-requires g c = rw c.interfaces.ensures (interfaces_in c.args.numbering.now c.args.class.now c.requires)

pub encode_source-requires : goal.encode_source-requires
encode_source-requires g c = rw c.source.ensures (source_in c.args.numbering.now c.args.class.now c.requires)

pub encode_fields-requires : goal.encode_fields-requires
encode_fields-requires g c = rw (c.static_fields.ensures, c.members-members.ensures) c.requires.members_known.static_fields_known

pub encode_fields-requires-2 : goal.encode_fields-requires-2
encode_fields-requires-2 g c = rw (c.instance_fields.ensures, c.members-members.ensures) c.requires.members_known.instance_fields_known

pub encode_methods-requires : goal.encode_methods-requires
encode_methods-requires g c = rw (c.direct_methods.ensures, c.members-members.ensures) c.requires.members_known.direct_methods_known

pub encode_methods-requires-2 : goal.encode_methods-requires-2
encode_methods-requires-2 g c = rw (c.virtual_methods.ensures, c.members-members.ensures) c.requires.members_known.virtual_methods_known

pub returns : goal.returns
unfolding class_lines
returns g c =
    let m = c.args.numbering.now in
    let G = g.O.Output.gives in
    let B = g.met.O.Output.both in
    let x = c.args.class.now.members in
    let fields = λ (w : List ℕ) (fs : List NumberedField). flat_map (λ f. field_line w (field_in m f)) fs in
    let methods = λ (w : List ℕ) (ms : List NumberedMethod). flat_map (λ y. method_lines w (method_in m y)) ms in
    then_given G B c.encode_own_line.ensures
    (next_part G B (ap (λ is. flat_map (λ i. interface_line (type_at m i)) is) c.interfaces.ensures ∙ mapped interface_line (type_at m) c.args.class.now.interfaces) c.encode_interfaces.ensures
    (next_part G B (ap (λ o. option_map_or source_line (option_map (text_at m) o) []) c.source.ensures) c.encode_source.ensures
    (next_part G B (ap (fields (codes "  static-field ")) (c.static_fields.ensures ∙ ap (λ (y : NumberedMembers). y.static_fields) c.members-members.ensures) ∙ mapped (field_line (codes "  static-field ")) (field_in m) x.static_fields) c.encode_fields.ensures
    (next_part G B (ap (fields (codes "  instance-field ")) (c.instance_fields.ensures ∙ ap (λ (y : NumberedMembers). y.instance_fields) c.members-members.ensures) ∙ mapped (field_line (codes "  instance-field ")) (field_in m) x.instance_fields) c.encode_fields-2.ensures
    (next_part G B (ap (methods (codes "  direct-method ")) (c.direct_methods.ensures ∙ ap (λ (y : NumberedMembers). y.direct_methods) c.members-members.ensures) ∙ mapped (method_lines (codes "  direct-method ")) (method_in m) x.direct_methods) c.encode_methods.ensures
    (last_part G B (ap (methods (codes "  virtual-method ")) (c.virtual_methods.ensures ∙ ap (λ (y : NumberedMembers). y.virtual_methods) c.members-members.ensures) ∙ mapped (method_lines (codes "  virtual-method ")) (method_in m) x.virtual_methods) c.encode_methods-2.ensures))))))
