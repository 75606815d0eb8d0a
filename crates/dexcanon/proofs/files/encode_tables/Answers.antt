use Rattle.dexcanon.proofs.Common.{List, ℕ, length, refl, ap, sym, ◌∙◌, length-map, uint, field_row_bytes, method_row_bytes, ItemPlaces}
use Rattle.dexcanon.proofs.Rows.{concat_map, count_class_rows, next_part, type_row}
use Rattle.dexcanon.proofs.WholeFile.{count_proto_rows}
use Rattle.dexcanon.proofs.files.encode_tables.Goals as goal

pub encode-requires-clause-all : goal.encode-requires-clause-all
encode-requires-clause-all g c = ap (λ (l : List ℕ). length l) (c.offsets.ensures ∙ ap (λ (p : ItemPlaces). p.offsets) c.strings.ensures ∙ c.requires.laid.strings_are.offsets_are) ∙ sym (length-map _ uint)

pub encode-requires-3-clause-all : goal.encode-requires-3-clause-all
encode-requires-3-clause-all g c = c.count-2.ensures ∙ sym (count_proto_rows c.args.contents.now.numbering.now c.args.contents.now.classes.now)

pub encode-requires-6-clause-all : goal.encode-requires-6-clause-all
encode-requires-6-clause-all g c = sym (count_class_rows c.args.contents.now.numbering.now c.args.contents.now.classes.now)

pub returns : goal.returns
returns g c =
    let gives = g.O.Output.gives in
    let both = g.met.O.Output.both in
    let m = c.args.contents.now.numbering.now in
    next_part gives both (concat_map uint _) c.encode.ensures
    (next_part gives both (concat_map (type_row m) m.types) c.encode-2.ensures
    (next_part gives both refl c.encode-3.ensures
    (next_part gives both (concat_map (field_row_bytes m) m.fields) c.encode-4.ensures
    (next_part gives both (concat_map (method_row_bytes m) m.methods) c.encode-5.ensures c.encode-6.ensures))))
