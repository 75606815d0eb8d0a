use Rattle.dexpool.proofs.Common.{◌<◌, length, get_or, take_all, refl, ap, map, sym, ◌∙◌, subst, All, All-push, All-get_or, Mentions, AreSorted, IsJoin, text_of, moved_proto, numbers_in, HasSpans, Moves, Denote, proto_of_row, IsRowOf}
use Rattle.dexpool.specs.internal.Joining.{proto_key, AreTablesOf}
use Rattle.dexpool.proofs.Pairs.{all_seen, seen_more, zip_more, zip_all, all_pushed}
use Rattle.dexpool.proofs.Moved.{types_count, protos_movable, protos_at_ranks}
use Rattle.dexpool.proofs.RowOrder.{protos_sorted}
use Rattle.dexpool.proofs.JoinedLevels.{protos_joined, texts_rise, type_texts_rise}
use Rattle.dexpool.proofs.joined_tables.LowerJoined.join_protos.Goals as goal

pub renumbered_protos-requires : goal.renumbered_protos-requires
renumbered_protos-requires c =
    let by_strings = subst (λ (m : Mentions). Moves m.texts c.args.self.now.strings.now.rows.items c.places.result.strings.now) (sym c.tables-part.ensures.symbols) (c.places.ensures.strings c.part-item.result c.part-item.is) in
    let by_types = subst (λ (m : Mentions). Moves m.types (map (text_of c.args.self.now.strings.now.rows.items) c.args.self.now.types.now.rows.items) c.places.result.types.now) (sym c.tables-part.ensures.symbols) (c.places.ensures.types c.part-item.result c.part-item.is) in
    rw (c.in_ok-protos.ensures.items, c.deref.ensures.value) (protos_movable c.tables-part.result.now c.tables-part.ensures.tables c.places.result.strings.now by_strings.count c.places.result.types.now (types_count c.tables-part.result.now c.tables-part.ensures.tables c.args.self.now.strings.now.rows.items c.places.result.strings.now by_strings c.args.self.now.types.now.rows.items c.places.result.types.now by_types))

pub loop-i-preserved : goal.loop-i-preserved
loop-i-preserved c =
    let by_strings = subst (λ (m : Mentions). Moves m.texts c.args.self.now.strings.now.rows.items c.places.result.strings.now) (sym c.tables-part.ensures.symbols) (c.places.ensures.strings c.part-item.result c.part-item.is) in
    let by_types = subst (λ (m : Mentions). Moves m.types (map (text_of c.args.self.now.strings.now.rows.items) c.args.self.now.types.now.rows.items) c.places.result.types.now) (sym c.tables-part.ensures.symbols) (c.places.ensures.types c.part-item.result c.part-item.is) in
    let table = c.in_ok-renumbered_protos.field-0 in
    let is = c.in_ok-renumbered_protos.ensures.rows ∙ ap (map (moved_proto c.places.result.strings.now c.places.result.types.now c.tables-part.result.now.parameters)) (c.in_ok-protos.ensures.items ∙ c.deref.ensures.value) in
    let are_encoded = protos_at_ranks c.tables-part.result.now c.tables-part.ensures.tables c.args.self.now.strings.now.rows.items c.places.result.strings.now by_strings c.args.self.now.types.now.rows.items c.places.result.types.now by_types (numbers_in table) is in
    record {
      spans = subst (All HasSpans) (sym c.in_ok-push.ensures.items) (All-push HasSpans c.loop-i.tables.items table c.loop-i.invariant.spans c.in_ok-renumbered_protos.ensures.spans);
      sorted = all_pushed (AreSorted proto_key) numbers_in c.loop-i.tables.items c.push.new.self.items table c.in_ok-push.ensures.items c.loop-i.invariant.sorted
          (protos_sorted c.tables-part.result.now c.tables-part.ensures.tables c.args.self.now.strings.now.rows.items (texts_rise (map (λ part. part.now) c.args.self.now.parts.now) c.requires.numberings c.args.self.now.strings.now.rows.items (map (λ image. image.items) c.args.self.now.strings.now.images.items) c.requires.strings) c.places.result.strings.now by_strings
          c.args.self.now.types.now.rows.items (type_texts_rise (map (λ part. part.now) c.args.self.now.parts.now) c.requires.numberings c.args.self.now.strings.now.rows.items (map (λ image. image.items) c.args.self.now.strings.now.images.items) c.requires.strings c.args.self.now.types.now.rows.items (map (λ image. image.items) c.args.self.now.types.now.images.items) c.requires.types) c.places.result.types.now by_types
          c.sorted_law.ensures (numbers_in table) is);
      rows = zip_more (λ (part : Mentions) xs. Denote (proto_of_row c.args.self.now.strings.now.rows.items c.args.self.now.types.now.rows.items) (IsRowOf c.args.self.now.strings.now.rows.items c.args.self.now.types.now.rows.items) part.protos xs) (λ part. part.now) numbers_in
          c.args.self.now.parts.now c.loop-i.tables.items c.push.new.self.items c.loop-i.i c.part-item.result table c.loop-i.invariant.rows c.loop-i-test.true c.part-item.is c.in_ok-push.ensures.items
          (subst (λ (m : Mentions). Denote (proto_of_row c.args.self.now.strings.now.rows.items c.args.self.now.types.now.rows.items) (IsRowOf c.args.self.now.strings.now.rows.items c.args.self.now.types.now.rows.items) m.protos (numbers_in table)) c.tables-part.ensures.symbols are_encoded);
    }

pub proto_rows-requires : goal.proto_rows-requires
proto_rows-requires c = subst HasSpans (sym (c.table-item.is ∙ ap (λ ts. get_or ts c.loop-table.table-index c.table-item.result) c.deref-table-items.ensures.value))
    (All-get_or HasSpans c.loop-i.tables.items c.loop-table.table-index c.table-item.result (subst (λ ts. c.loop-table.table-index < length ts) c.deref-table-items.ensures.value c.loop-table-test.true) c.loop-i.invariant.spans)

pub loop-table-preserved : goal.loop-table-preserved
loop-table-preserved c =
    seen_more (λ table. table.items) numbers_in c.loop-table.rows.items c.push-in-loop-table.new.self.items c.deref-table-items.result.now c.loop-table.table-index c.in_ok-proto_rows.field-0 c.table-item.result c.loop-table-test.true c.loop-table.invariant c.in_ok-push-2.ensures.items
    (c.in_ok-proto_rows.ensures ∙ ap numbers_in c.table-item.is)

pub join_rows-requires : goal.join_rows-requires
join_rows-requires c =
    let same = ap (map (λ rows. rows.items)) c.deref-2.ensures.value ∙ c.loop-table.invariant ∙ ap (map numbers_in) (take_all c.loop-table.table-index c.deref-table-items.result.now c.loop-table-test.false ∙ c.deref-table-items.ensures.value) in
    all_seen (λ rows. rows.items) numbers_in (AreSorted proto_key) c.deref-2.result.now c.loop-i.tables.items same c.loop-i.invariant.sorted

pub stored_protos-requires-clause-spans : goal.stored_protos-requires-clause-spans
stored_protos-requires-clause-spans c = subst (All HasSpans) (sym c.deref-3.ensures.value) c.loop-i.invariant.spans

pub stored_protos-requires-clause-joined : goal.stored_protos-requires-clause-joined
stored_protos-requires-clause-joined c =
    let joined = c.in_ok-joined.joined in
    let same = ap (map (λ rows. rows.items)) c.deref-2.ensures.value ∙ c.loop-table.invariant ∙ ap (map numbers_in) (take_all c.loop-table.table-index c.deref-table-items.result.now c.loop-table-test.false ∙ c.deref-table-items.ensures.value ∙ sym c.deref-3.ensures.value) in
    subst (λ rows. IsJoin proto_key rows joined.rows.items (map (λ image. image.items) joined.images.items)) same c.in_ok-joined.ensures

pub returns : goal.returns
returns c =
    let tables_are : AreTablesOf c.args.self.now.parts.now c.args.self.now.strings.now c.args.self.now.types.now c.loop-i.tables.items = zip_all (λ (part : Mentions) xs. Denote (proto_of_row c.args.self.now.strings.now.rows.items c.args.self.now.types.now.rows.items) (IsRowOf c.args.self.now.strings.now.rows.items c.args.self.now.types.now.rows.items) part.protos xs) (λ part. part.now) numbers_in
    c.args.self.now.parts.now c.loop-i.tables.items c.loop-i.tables.items c.loop-i.i c.loop-i-test.false refl c.loop-i.invariant.rows in
    let same = ap (map (λ rows. rows.items)) c.deref-2.ensures.value ∙ c.loop-table.invariant ∙ ap (map numbers_in) (take_all c.loop-table.table-index c.deref-table-items.result.now c.loop-table-test.false ∙ c.deref-table-items.ensures.value) in
    protos_joined (map (λ part. part.now) c.args.self.now.parts.now) c.requires.numberings c.args.self.now.strings.now.rows.items (map (λ image. image.items) c.args.self.now.strings.now.images.items) c.requires.strings c.args.self.now.types.now.rows.items (map (λ image. image.items) c.args.self.now.types.now.images.items) c.requires.types (map numbers_in c.loop-i.tables.items) tables_are
    c.in_ok-joined.joined.rows.items (map (λ image. image.items) c.in_ok-joined.joined.images.items) c.in_ok-stored_protos.field-0 (subst (λ rows. IsJoin proto_key rows c.in_ok-joined.joined.rows.items (map (λ image. image.items) c.in_ok-joined.joined.images.items)) same c.in_ok-joined.ensures) c.in_ok-stored_protos.ensures.spans c.in_ok-stored_protos.ensures.rows
