use Rattle.dexcanon.proofs.Common.{ap, refl, sym, subst, append-nil, ◌∙◌, length-map, string_data, EncodedItems, EncodedSharedItems, SetPlaces}
use Rattle.dexcanon.proofs.Rows.{next_part, string_bytes}
use Rattle.dexcanon.proofs.files.encode_data.Goals as goal

pub encode-requires-clause-all : goal.encode-requires-clause-all
encode-requires-clause-all g c = c.count.ensures ∙ sym (length-map _ string_data)

pub returns : goal.returns
returns g c =
    let gives = g.O.Output.gives in
    let both = g.met.O.Output.both in
    let laid = c.requires.laid in
    next_part gives both refl c.encode_type_lists.ensures
    (next_part gives both (c.bytes.ensures ∙ ap (λ (a : EncodedItems). a.bytes) c.annotations.ensures ∙ laid.annotations_are.bytes_are) c.bytes-2.ensures
    (next_part gives both (c.bytes-3.ensures ∙ ap (λ (s : EncodedItems). s.bytes) c.static_values.ensures ∙ laid.static_values_are.bytes_are) c.bytes-4.ensures
    (next_part gives both (string_bytes c.args.contents.now.numbering.now c.args.contents.now.classes.now) c.encode.ensures
    (next_part gives both (c.bytes-5.ensures ∙ ap (λ (d : EncodedSharedItems). d.bytes) c.debugs.ensures ∙ laid.debugs_are.bytes_are) c.bytes-6.ensures
    (next_part gives both refl (c.encode_codes.ensures c.args.contents.now.numbering.now c.requires.writable laid)
    (next_part gives both (c.bytes-7.ensures ∙ ap (λ (d : EncodedItems). d.bytes) c.class_data.ensures ∙ laid.class_data_are.bytes_are) c.bytes-8.ensures
    (next_part gives both (c.bytes-9.ensures ∙ ap (λ (i : EncodedItems). i.bytes) (c.written.ensures ∙ ap (λ (s : SetPlaces). s.written) c.sets.ensures) ∙ laid.sets_are.written_are.bytes_are) c.bytes-10.ensures
    (next_part gives both refl (c.encode_ref_lists.ensures c.args.contents.now.numbering.now c.requires.writable laid)
    (subst (λ z. gives z c.encode_ref_lists.new.out c.bytes-12.new.self) (c.bytes-11.ensures ∙ ap (λ (d : EncodedItems). d.bytes) c.directories.ensures ∙ laid.directories_are.bytes_are ∙ sym (append-nil _)) c.bytes-12.ensures)))))))))
