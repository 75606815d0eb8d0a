use Rattle.dexpool.proofs.Common.{length, map, ap, ◌∙◌, sym, subst, Mentions, AreSorted, text_of, field_of, field_key, moved_field, IsFieldWithin, Moves, Denote}
use Rattle.dexpool.proofs.Pairs.{zip_more, zip_all, all_pushed}
use Rattle.dexids.proofs.TypeLists.{if_ok_map}
use Rattle.dexpool.proofs.Moved.{types_count, fields_among, fields_at_ranks}
use Rattle.dexpool.proofs.RowOrder.{fields_sorted}
use Rattle.dexpool.proofs.JoinedLevels.{texts_rise, type_texts_rise, fields_joined}
use Rattle.dexpool.proofs.joined_tables.LowerJoined.join_fields.Goals as goal

pub renumbered_rows-requires-clause-within : goal.renumbered_rows-requires-clause-within
renumbered_rows-requires-clause-within c =
    let by_strings = subst (λ (m : Mentions). Moves m.texts c.args.self.now.strings.now.rows.items c.places.result.strings.now) (sym c.tables.ensures.symbols) (c.places.ensures.strings c.part-item.result c.part-item.is) in
    let by_types = subst (λ (m : Mentions). Moves m.types (map (text_of c.args.self.now.strings.now.rows.items) c.args.self.now.types.now.rows.items) c.places.result.types.now) (sym c.tables.ensures.symbols) (c.places.ensures.types c.part-item.result c.part-item.is) in
    rw (c.in_ok-fields.ensures.items, c.deref.ensures.value) (fields_among c.tables.result.now c.tables.ensures.tables c.places.result.strings.now by_strings.count c.places.result.types.now (types_count c.tables.result.now c.tables.ensures.tables c.args.self.now.strings.now.rows.items c.places.result.strings.now by_strings c.args.self.now.types.now.rows.items c.places.result.types.now by_types))

pub loop-i-preserved : goal.loop-i-preserved
loop-i-preserved c =
    let by_strings = subst (λ (m : Mentions). Moves m.texts c.args.self.now.strings.now.rows.items c.places.result.strings.now) (sym c.tables.ensures.symbols) (c.places.ensures.strings c.part-item.result c.part-item.is) in
    let by_types = subst (λ (m : Mentions). Moves m.types (map (text_of c.args.self.now.strings.now.rows.items) c.args.self.now.types.now.rows.items) c.places.result.types.now) (sym c.tables.ensures.symbols) (c.places.ensures.types c.part-item.result c.part-item.is) in
    let rows = c.renumbered_rows.result.items in
    let is = c.renumbered_rows.ensures ∙ ap (map (moved_field c.places.result.strings.now c.places.result.types.now)) (c.in_ok-fields.ensures.items ∙ c.deref.ensures.value) in
    let are_encoded = fields_at_ranks c.tables.result.now c.tables.ensures.tables c.args.self.now.strings.now.rows.items c.places.result.strings.now by_strings c.args.self.now.types.now.rows.items c.places.result.types.now by_types rows is in
    record {
      are_encoded = zip_more (λ (part : Mentions) xs. Denote (field_of c.args.self.now.strings.now.rows.items c.args.self.now.types.now.rows.items) (IsFieldWithin (length c.args.self.now.strings.now.rows.items) (length c.args.self.now.types.now.rows.items)) part.fields xs) (λ part. part.now) (λ xs. xs.items)
          c.args.self.now.parts.now c.loop-i.rows.items c.push.new.self.items c.loop-i.i c.part-item.result c.renumbered_rows.result c.loop-i.invariant.are_encoded c.loop-i-test.true c.part-item.is c.in_ok-push.ensures.items
          (subst (λ (m : Mentions). Denote (field_of c.args.self.now.strings.now.rows.items c.args.self.now.types.now.rows.items) (IsFieldWithin (length c.args.self.now.strings.now.rows.items) (length c.args.self.now.types.now.rows.items)) m.fields rows) c.tables.ensures.symbols are_encoded);
      sorted = all_pushed (AreSorted field_key) (λ rows. rows.items) c.loop-i.rows.items c.push.new.self.items c.renumbered_rows.result c.in_ok-push.ensures.items c.loop-i.invariant.sorted
          (fields_sorted c.tables.result.now c.tables.ensures.tables c.args.self.now.strings.now.rows.items (texts_rise (map (λ part. part.now) c.args.self.now.parts.now) c.requires.numberings c.args.self.now.strings.now.rows.items (map (λ image. image.items) c.args.self.now.strings.now.images.items) c.requires.strings) c.places.result.strings.now by_strings
          c.args.self.now.types.now.rows.items (type_texts_rise (map (λ part. part.now) c.args.self.now.parts.now) c.requires.numberings c.args.self.now.strings.now.rows.items (map (λ image. image.items) c.args.self.now.strings.now.images.items) c.requires.strings c.args.self.now.types.now.rows.items (map (λ image. image.items) c.args.self.now.types.now.images.items) c.requires.types) c.places.result.types.now by_types
          c.sorted_law.ensures rows is);
    }

pub join_rows-requires : goal.join_rows-requires
join_rows-requires c = rw c.deref-2.ensures.value c.loop-i.invariant.sorted

pub returns : goal.returns
returns c =
    let are_encoded = zip_all (λ (part : Mentions) xs. Denote (field_of c.args.self.now.strings.now.rows.items c.args.self.now.types.now.rows.items) (IsFieldWithin (length c.args.self.now.strings.now.rows.items) (length c.args.self.now.types.now.rows.items)) part.fields xs) (λ part. part.now) (λ xs. xs.items)
    c.args.self.now.parts.now c.loop-i.rows.items c.deref-2.result.now c.loop-i.i c.loop-i-test.false c.deref-2.ensures.value c.loop-i.invariant.are_encoded in
    if_ok_map _ _ c.join_rows.result (λ joined j. fields_joined (map (λ part. part.now) c.args.self.now.parts.now) c.requires.numberings c.args.self.now.strings.now.rows.items (map (λ image. image.items) c.args.self.now.strings.now.images.items) c.requires.strings c.args.self.now.types.now.rows.items (map (λ image. image.items) c.args.self.now.types.now.images.items) c.requires.types (map (λ rows. rows.items) c.deref-2.result.now) are_encoded joined.rows.items (map (λ image. image.items) joined.images.items) j) c.join_rows.ensures
