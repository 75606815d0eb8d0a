use Rattle.dexpool.proofs.Common.{length, map, ◌∙◌, sym, subst, Mentions, AreSorted, text_of, proto_of, method_of, method_key, moved_method, IsMethodWithin, Moves, Denote}
use Rattle.dexpool.proofs.Pairs.{within_other, zip_more, zip_all, all_pushed}
use Rattle.dexids.proofs.TypeLists.{if_ok_map}
use Rattle.dexpool.proofs.Moved.{types_count, protos_count, methods_among, methods_at_ranks}
use Rattle.dexpool.proofs.RowOrder.{methods_sorted}
use Rattle.dexpool.proofs.JoinedLevels.{texts_rise, type_texts_rise, proto_symbols_rise, methods_joined}
use Rattle.dexpool.proofs.JoinedTables.{part_moves}
use Rattle.dexpool.proofs.joined_tables.LowerJoined.join_methods.Goals as goal

pub index-requires : goal.index-requires
index-requires c = within_other (λ (m : Mentions) image. Moves m.protos (map (proto_of c.args.self.now.strings.now.rows.items c.args.self.now.types.now.rows.items c.args.protos.now.table.parameters.items) c.args.protos.now.table.rows.items) image) (λ part. part.now) (λ image. image.items) c.args.self.now.parts.now c.args.protos.now.images.items c.loop-i.i _ c.args.protos.now.images.ok.0 c.requires.protos.union.moves c.loop-i-test.true

pub renumbered_rows-requires-clause-within : goal.renumbered_rows-requires-clause-within
renumbered_rows-requires-clause-within c =
    let by_strings = subst (λ (m : Mentions). Moves m.texts c.args.self.now.strings.now.rows.items c.places.result.strings.now) (sym c.tables.ensures.symbols) (c.places.ensures.strings c.part-item.result c.part-item.is) in
    let by_types = subst (λ (m : Mentions). Moves m.types (map (text_of c.args.self.now.strings.now.rows.items) c.args.self.now.types.now.rows.items) c.places.result.types.now) (sym c.tables.ensures.symbols) (c.places.ensures.types c.part-item.result c.part-item.is) in
    let by_protos = part_moves (λ (m : Mentions). m.protos) (map (proto_of c.args.self.now.strings.now.rows.items c.args.self.now.types.now.rows.items c.args.protos.now.table.parameters.items) c.args.protos.now.table.rows.items) c.args.self.now.parts.now c.args.protos.now.images.items c.loop-i.i c.part-item.result c.index.result.now _ c.requires.protos.union.moves c.loop-i-test.true c.part-item.is c.index.ensures c.tables.ensures.symbols in
    rw (c.places.ensures.protos, c.deref-in-loop-i.ensures.value, c.in_ok-methods.ensures.items, c.deref.ensures.value) (methods_among c.tables.result.now c.tables.ensures.tables c.places.result.strings.now by_strings.count c.places.result.types.now (types_count c.tables.result.now c.tables.ensures.tables c.args.self.now.strings.now.rows.items c.places.result.strings.now by_strings c.args.self.now.types.now.rows.items c.places.result.types.now by_types)
    c.index.result.now.items (protos_count c.tables.result.now c.tables.ensures.tables c.args.self.now.strings.now.rows.items c.places.result.strings.now by_strings c.args.self.now.types.now.rows.items c.places.result.types.now by_types c.args.protos.now.table.parameters.items c.args.protos.now.table.rows.items c.index.result.now.items by_protos))

pub loop-i-preserved : goal.loop-i-preserved
loop-i-preserved c =
    let by_strings = subst (λ (m : Mentions). Moves m.texts c.args.self.now.strings.now.rows.items c.places.result.strings.now) (sym c.tables.ensures.symbols) (c.places.ensures.strings c.part-item.result c.part-item.is) in
    let by_types = subst (λ (m : Mentions). Moves m.types (map (text_of c.args.self.now.strings.now.rows.items) c.args.self.now.types.now.rows.items) c.places.result.types.now) (sym c.tables.ensures.symbols) (c.places.ensures.types c.part-item.result c.part-item.is) in
    let by_protos = part_moves (λ (m : Mentions). m.protos) (map (proto_of c.args.self.now.strings.now.rows.items c.args.self.now.types.now.rows.items c.args.protos.now.table.parameters.items) c.args.protos.now.table.rows.items) c.args.self.now.parts.now c.args.protos.now.images.items c.loop-i.i c.part-item.result c.index.result.now _ c.requires.protos.union.moves c.loop-i-test.true c.part-item.is c.index.ensures c.tables.ensures.symbols in
    let rows = c.renumbered_rows.result.items in
    let is = c.renumbered_rows.ensures ∙ (λ i. map (moved_method c.places.result.strings.now c.places.result.types.now ((c.places.ensures.protos ∙ c.deref-in-loop-i.ensures.value) i)) ((c.in_ok-methods.ensures.items ∙ c.deref.ensures.value) i)) in
    let are_encoded = methods_at_ranks c.tables.result.now c.tables.ensures.tables c.args.self.now.strings.now.rows.items c.places.result.strings.now by_strings c.args.self.now.types.now.rows.items c.places.result.types.now by_types c.args.protos.now.table.parameters.items c.args.protos.now.table.rows.items c.index.result.now.items by_protos rows is in
    record {
      are_encoded = zip_more (λ (part : Mentions) xs. Denote (method_of c.args.self.now.strings.now.rows.items c.args.self.now.types.now.rows.items c.args.protos.now.table.parameters.items c.args.protos.now.table.rows.items) (IsMethodWithin (length c.args.self.now.strings.now.rows.items) (length c.args.self.now.types.now.rows.items) (length c.args.protos.now.table.rows.items)) part.methods xs) (λ part. part.now) (λ xs. xs.items)
          c.args.self.now.parts.now c.loop-i.rows.items c.push.new.self.items c.loop-i.i c.part-item.result c.renumbered_rows.result c.loop-i.invariant.are_encoded c.loop-i-test.true c.part-item.is c.in_ok-push.ensures.items
          (subst (λ (m : Mentions). Denote (method_of c.args.self.now.strings.now.rows.items c.args.self.now.types.now.rows.items c.args.protos.now.table.parameters.items c.args.protos.now.table.rows.items) (IsMethodWithin (length c.args.self.now.strings.now.rows.items) (length c.args.self.now.types.now.rows.items) (length c.args.protos.now.table.rows.items)) m.methods rows) c.tables.ensures.symbols are_encoded);
      sorted = all_pushed (AreSorted method_key) (λ rows. rows.items) c.loop-i.rows.items c.push.new.self.items c.renumbered_rows.result c.in_ok-push.ensures.items c.loop-i.invariant.sorted
          (methods_sorted c.tables.result.now c.tables.ensures.tables c.args.self.now.strings.now.rows.items (texts_rise (map (λ part. part.now) c.args.self.now.parts.now) c.requires.numberings c.args.self.now.strings.now.rows.items (map (λ image. image.items) c.args.self.now.strings.now.images.items) c.requires.strings) c.places.result.strings.now by_strings
          c.args.self.now.types.now.rows.items (type_texts_rise (map (λ part. part.now) c.args.self.now.parts.now) c.requires.numberings c.args.self.now.strings.now.rows.items (map (λ image. image.items) c.args.self.now.strings.now.images.items) c.requires.strings c.args.self.now.types.now.rows.items (map (λ image. image.items) c.args.self.now.types.now.images.items) c.requires.types) c.places.result.types.now by_types
          c.args.protos.now.table.parameters.items c.args.protos.now.table.rows.items (proto_symbols_rise (map (λ part. part.now) c.args.self.now.parts.now) c.requires.numberings c.args.self.now.strings.now.rows.items (map (λ image. image.items) c.args.self.now.strings.now.images.items) c.requires.strings c.args.self.now.types.now.rows.items (map (λ image. image.items) c.args.self.now.types.now.images.items) c.requires.types c.args.protos.now.table.parameters.items c.args.protos.now.table.rows.items (map (λ image. image.items) c.args.protos.now.images.items) c.requires.protos) c.index.result.now.items by_protos
          c.sorted_law.ensures rows is);
    }

pub join_rows-requires : goal.join_rows-requires
join_rows-requires c = rw c.deref-2.ensures.value c.loop-i.invariant.sorted

pub returns : goal.returns
returns c =
    let are_encoded = zip_all (λ (part : Mentions) xs. Denote (method_of c.args.self.now.strings.now.rows.items c.args.self.now.types.now.rows.items c.args.protos.now.table.parameters.items c.args.protos.now.table.rows.items) (IsMethodWithin (length c.args.self.now.strings.now.rows.items) (length c.args.self.now.types.now.rows.items) (length c.args.protos.now.table.rows.items)) part.methods xs) (λ part. part.now) (λ xs. xs.items)
    c.args.self.now.parts.now c.loop-i.rows.items c.deref-2.result.now c.loop-i.i c.loop-i-test.false c.deref-2.ensures.value c.loop-i.invariant.are_encoded in
    if_ok_map _ _ c.join_rows.result (λ joined j. methods_joined (map (λ part. part.now) c.args.self.now.parts.now) c.requires.numberings c.args.self.now.strings.now.rows.items (map (λ image. image.items) c.args.self.now.strings.now.images.items) c.requires.strings c.args.self.now.types.now.rows.items (map (λ image. image.items) c.args.self.now.types.now.images.items) c.requires.types c.args.protos.now.table.parameters.items c.args.protos.now.table.rows.items (map (λ image. image.items) c.args.protos.now.images.items) c.requires.protos (map (λ rows. rows.items) c.deref-2.result.now) are_encoded joined.rows.items (map (λ image. image.items) joined.images.items) j) c.join_rows.ensures
