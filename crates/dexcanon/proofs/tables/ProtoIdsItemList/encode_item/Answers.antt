use Rattle.dexcanon.proofs.Common.{refl, append-nil, ◌≡◌, ◌<◌, ℕ, List, [], length, get_or, ap, sym, subst, arith, ◌∙◌, zip_with, uses_offsets, proto_row_bytes, type_list_section, length-type_list_offsets, ItemPlaces, SharedPlaces, ordered_of, ranks_are_numbers}
use Rattle.dexcanon.proofs.Rows.{next_part, proto_row_at, no_proto}
use Rattle.dexcanon.proofs.WholeFile.{count_proto_rows, texts_few}
use Rattle.dexcanon.proofs.tables.ProtoIdsItemList.encode_item.Goals as goal
use Rattle.dexcanon.proofs.tables.ProtoIdsItemList.encode_item.Goals.{After-offsets-list_offs}

-- the offsets of the lists of all protos and classes
offsets_are : (g : _) (c : After-offsets-list_offs g) → c.offsets-list_offs.result.now ≡ uses_offsets (type_list_section (ordered_of c.args.contents.now.numbering.now c.args.contents.now.classes.now))
offsets_are g c = c.offsets-list_offs.ensures ∙ ap (λ (p : ItemPlaces). p.offsets) (c.places.ensures ∙ ap (λ (d : SharedPlaces). d.places) c.type_lists.ensures) ∙ c.requires.ready.laid.type_lists_are.places_are.offsets_are

-- there is one for the proto
within : (g : _) (c : After-offsets-list_offs g) → c.args.i < length c.offsets-list_offs.result.now
within g c =
    let m = c.args.contents.now.numbering.now in
    let cs = c.args.contents.now.classes.now in
    omega (arith, c.requires.within, count_proto_rows m cs, length-type_list_offsets (ordered_of m cs), ap (λ (l : List ℕ). length l) (offsets_are g c))

pub proto-proto-requires : goal.proto-proto-requires
proto-proto-requires g c = omega (arith, c.requires.within, count_proto_rows c.args.contents.now.numbering.now c.args.contents.now.classes.now)

pub bounds-list_offs-i : goal.bounds-list_offs-i
bounds-list_offs-i g c = within g (goal.at.bounds-list_offs-i g c).After-offsets-list_offs

pub offset_bounds-list_offs-i : goal.offset_bounds-list_offs-i
offset_bounds-list_offs-i g c = omega (arith, c.requires.within, count_proto_rows c.args.contents.now.numbering.now c.args.contents.now.classes.now, c.requires.ready.writable.protos_few)

pub overflow_cast-shorty : goal.overflow_cast-shorty
overflow_cast-shorty g c = omega (arith, (c.proto-proto.ensures no_proto).shorty_is.within, texts_few c.args.contents.now.numbering.now c.args.contents.now.classes.now c.requires.ready.writable, c.shorty.ensures)

pub overflow_cast-return_type : goal.overflow_cast-return_type
overflow_cast-return_type g c = omega (arith, (c.proto-proto.ensures no_proto).return_is.within, c.requires.ready.writable.types_few, c.return_type.ensures)

pub returns : goal.returns
returns g c =
    let here = (goal.at.returns g c).After-offsets-list_offs in
    let m = c.args.contents.now.numbering.now in
    let i = c.args.i in
    let lt : i < length m.protos = omega (arith, c.requires.within, count_proto_rows m c.args.contents.now.classes.now) in
    let row = proto_row_at m c.offsets-list_offs.result.now i c.shorty.result c.return_type.result c.proto-proto.result no_proto (ranks_are_numbers m c.requires.ready.writable.numbering.rising) lt (within g here) (c.proto-proto.ensures no_proto) c.shorty.ensures c.return_type.ensures in
    let last = subst (λ bs. g.O.Output.gives bs c.u32-2.new.self c.u32-3.new.self) (sym (append-nil _)) c.u32-3.ensures in
    subst (λ bs. g.O.Output.gives bs c.args.out.now c.u32-3.new.self) (sym row ∙ ap (λ os. get_or (zip_with (proto_row_bytes m) m.protos os) i []) (offsets_are g here))
    (next_part g.O.Output.gives g.met.O.Output.both refl c.u32.ensures (next_part g.O.Output.gives g.met.O.Output.both refl c.u32-2.ensures last))
