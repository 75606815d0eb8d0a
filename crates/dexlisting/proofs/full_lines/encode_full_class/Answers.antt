use Rattle.std.proofs.Common.{◌≡◌, ap, sym, subst, ◌∙◌, [], ℕ, List, map}
use Rattle.std.specs.Prelude.{codes}
use Rattle.std.specs.List.{flat_map}
use Rattle.std.specs.Option.{option_map, option_map_or}
use Rattle.dexval.specs.Code.{value_of}
use Rattle.dexval.specs.Numbered.{NumberedValues, NoValue, values_of_list, IsKnownSet, set_in, values_in, method_at}
use Rattle.dexmembers.specs.Numbered.{NumberedMembers, NumberedField, NumberedMethod, field_in, method_in}
use Rattle.dexpool.specs.NumberedSymbols.{text_at, type_at}
use Rattle.dexpool.proofs.Parts.{all_back, all_prefix}
use Rattle.dexio.proofs.Encoded.{then_given}
use Rattle.dexout.proofs.Given.{next_part, last_part}
use Rattle.dexlisting.specs.Listing.{interface_line, source_line}
use Rattle.dexlisting.specs.FullListing.{set_lines, full_method_lines, full_class_lines}
use Rattle.dexlisting.specs.internal.Known.{field_lines}
use Rattle.dexlisting.proofs.Shown.{mapped}
use Rattle.dexlisting.proofs.ClassParts.{interfaces_in, source_in}
use Rattle.dexlisting.proofs.Declared.{one_set, static_fields_are, instance_fields_are, methods_are}
use Rattle.dexlisting.proofs.full_lines.encode_full_class.Goals as goal

pub encode_interfaces-requires : goal.encode_interfaces-requires
encode_interfaces-requires g c = rw c.interfaces.ensures (interfaces_in c.args.numbering.now c.args.class.now c.requires)

pub encode_source-requires : goal.encode_source-requires
encode_source-requires g c = rw c.source.ensures (source_in c.args.numbering.now c.args.class.now c.requires)

pub encode_set-requires : goal.encode_set-requires
encode_set-requires g c = λ is borrowed.
    subst (IsKnownSet c.args.numbering.now) (one_set c.annotations.result _ is c.annotations.ensures borrowed) (subst (λ (x : NumberedMembers). IsKnownSet c.args.numbering.now x.annotations) (sym c.members-members.ensures) c.requires.members_known.annotations_known)

pub encode_full_fields-requires-clause-fields : goal.encode_full_fields-requires-clause-fields
encode_full_fields-requires-clause-fields g c = rw (c.static_fields.ensures, c.members-members.ensures) c.requires.members_known.static_fields_known

pub encode_full_fields-requires-clause-values : goal.encode_full_fields-requires-clause-values
encode_full_fields-requires-clause-values g c = rw (c.static_values.ensures, c.members-members.ensures) c.requires.members_known.values_known

pub encode_full_fields-requires-2-clause-fields : goal.encode_full_fields-requires-2-clause-fields
encode_full_fields-requires-2-clause-fields g c = rw (c.instance_fields.ensures, c.members-members.ensures) c.requires.members_known.instance_fields_known

pub encode_full_methods-requires : goal.encode_full_methods-requires
encode_full_methods-requires g c = rw (c.direct_methods.ensures, c.members-members.ensures) c.requires.members_known.direct_methods_known

pub encode_full_methods-requires-2 : goal.encode_full_methods-requires-2
encode_full_methods-requires-2 g c = rw (c.virtual_methods.ensures, c.members-members.ensures) c.requires.members_known.virtual_methods_known

pub returns : goal.returns
unfolding full_class_lines
returns g c =
    let m = c.args.numbering.now in
    let G = g.O.Output.gives in
    let B = g.met.O.Output.both in
    let x = c.args.class.now.members in
    let class = type_at m c.args.class.now.name in
    let own = c.requires.members_own.methods_of_class in
    let fields = λ (w : List ℕ) (fs : List NumberedField) (vs : NumberedValues). field_lines w (map (field_in m) fs) (values_in m vs) in
    let methods = λ (w : List ℕ) (ms : List NumberedMethod). flat_map (λ y. full_method_lines (method_at m y.number).class w (method_in m y)) ms in
    then_given G B c.encode_own_line.ensures
    (next_part G B (ap (λ is. flat_map (λ i. interface_line (type_at m i)) is) c.interfaces.ensures ∙ mapped interface_line (type_at m) c.args.class.now.interfaces) c.encode_interfaces.ensures
    (next_part G B (ap (λ o. option_map_or source_line (option_map (text_at m) o) []) c.source.ensures) c.encode_source.ensures
    (next_part G B (ap (λ (y : NumberedMembers). set_lines (codes "  ") (set_in m y.annotations)) c.members-members.ensures) (c.encode_set.ensures c.members-members.result.now.annotations c.annotations.ensures)
    (next_part G B (ap (λ fs. fields (codes "  static-field ") fs (values_of_list (map value_of c.static_values.result.now))) (c.static_fields.ensures ∙ ap (λ (y : NumberedMembers). y.static_fields) c.members-members.ensures) ∙ ap (fields (codes "  static-field ") x.static_fields) (c.static_values.ensures ∙ ap (λ (y : NumberedMembers). y.static_values) c.members-members.ensures)
    ∙ static_fields_are (map (field_in m) x.static_fields) (values_in m x.static_values)) c.encode_full_fields.ensures
    (next_part G B (ap (λ fs. fields (codes "  instance-field ") fs NoValue) (c.instance_fields.ensures ∙ ap (λ (y : NumberedMembers). y.instance_fields) c.members-members.ensures) ∙ instance_fields_are (map (field_in m) x.instance_fields)) c.encode_full_fields-2.ensures
    (next_part G B (ap (methods (codes "  direct-method ")) (c.direct_methods.ensures ∙ ap (λ (y : NumberedMembers). y.direct_methods) c.members-members.ensures)
    ∙ methods_are m class (codes "  direct-method ") x.direct_methods (all_prefix (λ y. (method_at m y.number).class ≡ class) x.direct_methods x.virtual_methods own)) c.encode_full_methods.ensures
    (last_part G B (ap (methods (codes "  virtual-method ")) (c.virtual_methods.ensures ∙ ap (λ (y : NumberedMembers). y.virtual_methods) c.members-members.ensures)
    ∙ methods_are m class (codes "  virtual-method ") x.virtual_methods (all_back (λ y. (method_at m y.number).class ≡ class) x.direct_methods x.virtual_methods own)) c.encode_full_methods-2.ensures)))))))
