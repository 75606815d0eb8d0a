use Rattle.dexpool.proofs.Common.{ap, length, map, ◌∙◌, subst, ◌<◌, [], ◌∷◌, Mentions, AreSorted, text_of, moved_type, Moves, Denote}
use Rattle.dexrows.specs.declared.types.TypeRow.{TypeRow}
use Rattle.dexpool.proofs.Pairs.{within_other, zip_more, zip_all, all_pushed}
use Rattle.dexpool.proofs.Moved.{types_movable, types_at_ranks}
use Rattle.dexpool.proofs.RowOrder.{types_sorted}
use Rattle.dexpool.proofs.JoinedLevels.{texts_rise, types_joined}
use Rattle.dexpool.proofs.JoinedTables.{part_moves}
use Rattle.dexpool.proofs.joined_tables.join_types.Goals as goal

pub index-requires : goal.index-requires
index-requires c = within_other (λ (m : Mentions) image. Moves m.texts c.args.strings.now.rows.items image) (λ part. part.now) (λ image. image.items) c.args.parts.now c.args.strings.now.images.items c.loop-i.i _ c.args.strings.now.images.ok.0 c.requires.strings.moves c.loop-i-test.true

pub renumbered_types-requires : goal.renumbered_types-requires
renumbered_types-requires c =
    let by_texts = part_moves (λ (m : Mentions). m.texts) c.args.strings.now.rows.items c.args.parts.now c.args.strings.now.images.items c.loop-i.i c.index-parts-i.result c.index.result.now _ c.requires.strings.moves c.loop-i-test.true c.index-parts-i.is c.index.ensures c.tables.ensures.symbols in
    rw (c.deref.ensures.value, c.deref-in-loop-i.ensures.value) (types_movable c.tables.result.now c.tables.ensures.tables c.index.result.now.items by_texts.count)

pub loop-i-preserved : goal.loop-i-preserved
loop-i-preserved c =
    let texts = c.args.strings.now.rows.items in
    let by_texts = part_moves (λ (m : Mentions). m.texts) texts c.args.parts.now c.args.strings.now.images.items c.loop-i.i c.index-parts-i.result c.index.result.now _ c.requires.strings.moves c.loop-i-test.true c.index-parts-i.is c.index.ensures c.tables.ensures.symbols in
    let rows = c.in_ok-renumbered_types.field-0.items in
    let is = c.in_ok-renumbered_types.ensures ∙ (λ i. map (moved_type (c.deref-in-loop-i.ensures.value i)) (c.deref.ensures.value i)) in
    record {
      are_encoded = zip_more (λ (part : Mentions) xs. Denote (λ (row : TypeRow). text_of texts row.descriptor) (λ (row : TypeRow). row.descriptor < length texts) part.types xs) (λ part. part.now) (λ xs. xs.items)
          c.args.parts.now c.loop-i.rows.items c.push.new.self.items c.loop-i.i c.index-parts-i.result c.in_ok-renumbered_types.field-0 c.loop-i.invariant.are_encoded c.loop-i-test.true c.index-parts-i.is c.in_ok-push.ensures.items
          (subst (λ (m : Mentions). Denote (λ (row : TypeRow). text_of texts row.descriptor) (λ (row : TypeRow). row.descriptor < length texts) m.types rows) c.tables.ensures.symbols (types_at_ranks c.tables.result.now c.tables.ensures.tables texts c.index.result.now.items by_texts rows is));
      sorted = all_pushed (AreSorted (λ (row : TypeRow). row.descriptor ∷ [])) (λ rows. rows.items) c.loop-i.rows.items c.push.new.self.items c.in_ok-renumbered_types.field-0 c.in_ok-push.ensures.items c.loop-i.invariant.sorted
          (types_sorted c.tables.result.now c.tables.ensures.tables texts (texts_rise (map (λ part. part.now) c.args.parts.now) c.requires.numberings c.args.strings.now.rows.items (map (λ image. image.items) c.args.strings.now.images.items) c.requires.strings) c.index.result.now.items by_texts c.sorted_law.ensures rows is);
    }

pub join_rows-requires : goal.join_rows-requires
join_rows-requires c = rw c.deref-2.ensures.value c.loop-i.invariant.sorted

pub returns : goal.returns
returns c =
    let are_encoded = zip_all (λ (part : Mentions) xs. Denote (λ (row : TypeRow). text_of c.args.strings.now.rows.items row.descriptor) (λ (row : TypeRow). row.descriptor < length c.args.strings.now.rows.items) part.types xs) (λ part. part.now) (λ xs. xs.items)
    c.args.parts.now c.loop-i.rows.items c.deref-2.result.now c.loop-i.i c.loop-i-test.false c.deref-2.ensures.value c.loop-i.invariant.are_encoded in
    types_joined (map (λ part. part.now) c.args.parts.now) c.requires.numberings c.args.strings.now.rows.items (map (λ image. image.items) c.args.strings.now.images.items) c.requires.strings (map (λ rows. rows.items) c.deref-2.result.now) are_encoded
    c.in_ok-joined.joined.rows.items (map (λ image. image.items) c.in_ok-joined.joined.images.items) c.in_ok-descriptors.field-0.items c.in_ok-joined.ensures (c.in_ok-descriptors.ensures ∙ ap (map (λ (row : TypeRow). row.descriptor)) c.deref-3.ensures.value)
