use Rattle.dexpool.proofs.Common.{places, KeepsOrder, ℕ, ◌<◌, List, [], length, sym, ◌∙◌, ap, map, subst, slice_index, All, length-map, ProtoEntry, HasSpan, numbers_of, moved_proto, moved_field, moved_method, IsEntryWithin, number_or_none, IsCut}
use Rattle.dexpool.proofs.KeptRows.{places_keep}
use Rattle.dexpool.proofs.KeptTables.{left_all, numbers_count, cut_tables, cut_symbols}
use Rattle.dexpool.proofs.Moved.{have_images, IsFieldAmong, IsMethodAmong, types_movable, protos_movable, fields_among, methods_among}
use Rattle.dexpool.proofs.kept_tables.renumbered.Goals as goal

pub invariant_of-remap : goal.invariant_of-remap
invariant_of-remap c = record {
  texts_keep = subst KeepsOrder (sym (c.in_ok-places.ensures.places ∙ ap (places 0) c.deref.ensures.value)) (places_keep c.args.marks.strings.items);
  types_keep = subst KeepsOrder (sym (c.in_ok-places-2.ensures.places ∙ ap (places 0) c.deref-3.ensures.value)) (places_keep c.args.marks.types.items);
  protos_keep = subst KeepsOrder (sym (c.in_ok-places-3.ensures.places ∙ ap (places 0) c.deref-5.ensures.value)) (places_keep c.args.marks.protos.items);
  fields_keep = subst KeepsOrder (sym (c.in_ok-places-4.ensures.places ∙ ap (places 0) c.deref-7.ensures.value)) (places_keep c.args.marks.fields.items);
  methods_keep = subst KeepsOrder (sym (c.in_ok-places-5.ensures.places ∙ ap (places 0) c.deref-9.ensures.value)) (places_keep c.args.marks.methods.items);
}

pub invariant_of-remap-2 : goal.invariant_of-remap-2
invariant_of-remap-2 c = record {
  texts_keep = subst KeepsOrder (sym (c.in_ok-places.ensures.places ∙ ap (places 0) c.deref.ensures.value)) (places_keep c.args.marks.strings.items);
  types_keep = subst KeepsOrder (sym (c.in_ok-places-2.ensures.places ∙ ap (places 0) c.deref-3.ensures.value)) (places_keep c.args.marks.types.items);
  protos_keep = subst KeepsOrder (sym (c.in_ok-places-3.ensures.places ∙ ap (places 0) c.deref-5.ensures.value)) (places_keep c.args.marks.protos.items);
  fields_keep = subst KeepsOrder (sym (c.in_ok-places-4.ensures.places ∙ ap (places 0) c.deref-7.ensures.value)) (places_keep c.args.marks.fields.items);
  methods_keep = subst KeepsOrder (sym (c.in_ok-places-5.ensures.places ∙ ap (places 0) c.deref-9.ensures.value)) (places_keep c.args.marks.methods.items);
}

pub renumbered_protos-requires : goal.renumbered_protos-requires
renumbered_protos-requires c = rw c.requires.1.parameters_are
    (left_all (IsEntryWithin (length c.numbers.result.now) (length c.numbers-2.result.now) c.requires.0.parameters) c.args.marks.protos.items _ _ c.requires.1.protos_are
    (protos_movable c.requires.0 c.requires.1.tables _ (numbers_count _ _ _ (c.numbers.ensures ∙ ap (map number_or_none) (c.in_ok-places.ensures.places ∙ ap (places 0) c.deref.ensures.value)) c.requires.1.counted.strings_count) _ (numbers_count _ _ _ (c.numbers-2.ensures ∙ ap (map number_or_none) (c.in_ok-places-2.ensures.places ∙ ap (places 0) c.deref-3.ensures.value)) (c.requires.1.counted.types_count ∙ length-map c.requires.0.types.items _))))

pub renumbered_numbers-requires : goal.renumbered_numbers-requires
renumbered_numbers-requires c = left_all (λ n. n < length c.numbers.result.now) c.args.marks.types.items _ _ c.requires.1.types_are (types_movable c.requires.0 c.requires.1.tables _ (numbers_count _ _ _ (c.numbers.ensures ∙ ap (map number_or_none) (c.in_ok-places.ensures.places ∙ ap (places 0) c.deref.ensures.value)) c.requires.1.counted.strings_count))

pub renumbered_rows-requires-clause-within : goal.renumbered_rows-requires-clause-within
renumbered_rows-requires-clause-within c =
    left_all (IsFieldAmong (have_images c.numbers.result.now c.numbers-2.result.now [])) c.args.marks.fields.items _ _ c.requires.1.fields_are
    (fields_among c.requires.0 c.requires.1.tables _ (numbers_count _ _ _ (c.numbers.ensures ∙ ap (map number_or_none) (c.in_ok-places.ensures.places ∙ ap (places 0) c.deref.ensures.value)) c.requires.1.counted.strings_count) _ (numbers_count _ _ _ (c.numbers-2.ensures ∙ ap (map number_or_none) (c.in_ok-places-2.ensures.places ∙ ap (places 0) c.deref-3.ensures.value)) (c.requires.1.counted.types_count ∙ length-map c.requires.0.types.items _)))

pub renumbered_rows-requires-2-clause-within : goal.renumbered_rows-requires-2-clause-within
renumbered_rows-requires-2-clause-within c =
    left_all (IsMethodAmong (have_images c.numbers.result.now c.numbers-2.result.now c.numbers-3.result.now)) c.args.marks.methods.items _ _ c.requires.1.methods_are
    (methods_among c.requires.0 c.requires.1.tables _ (numbers_count _ _ _ (c.numbers.ensures ∙ ap (map number_or_none) (c.in_ok-places.ensures.places ∙ ap (places 0) c.deref.ensures.value)) c.requires.1.counted.strings_count) _ (numbers_count _ _ _ (c.numbers-2.ensures ∙ ap (map number_or_none) (c.in_ok-places-2.ensures.places ∙ ap (places 0) c.deref-3.ensures.value)) (c.requires.1.counted.types_count ∙ length-map c.requires.0.types.items _)) _ (numbers_count _ _ _ (c.numbers-3.ensures ∙ ap (map number_or_none) (c.in_ok-places-3.ensures.places ∙ ap (places 0) c.deref-5.ensures.value)) (c.requires.1.counted.protos_count ∙ length-map c.requires.0.protos.items _)))

pub returns : goal.returns
returns c = λ t rows.
    let ns = c.numbers.ensures ∙ ap (map number_or_none) (c.in_ok-places.ensures.places ∙ ap (places 0) c.deref.ensures.value) in
    let nt = c.numbers-2.ensures ∙ ap (map number_or_none) (c.in_ok-places-2.ensures.places ∙ ap (places 0) c.deref-3.ensures.value) in
    let np = c.numbers-3.ensures ∙ ap (map number_or_none) (c.in_ok-places-3.ensures.places ∙ ap (places 0) c.deref-5.ensures.value) in
    let cut : IsCut t c.args.marks (record { strings = c.args.rows.strings; types = c.renumbered_numbers.result; protos = c.in_ok-protos.protos.rows; parameters = c.own.result; fields = c.renumbered_rows.result; methods = c.renumbered_rows-2.result }) = record {
      strings_are = rows.strings_are;
      types_are = c.renumbered_numbers.ensures ∙ (λ i. map (slice_index (ns i)) (rows.types_are i));
      protos_are = ap (λ (ps : List ℕ). map (numbers_of ps) c.in_ok-protos.protos.rows.items) c.own.ensures ∙ c.in_ok-protos.ensures.rows
          ∙ (λ i. map (moved_proto (ns i) (nt i) (rows.parameters_are i)) (rows.protos_are i));
      spans = subst (λ (ps : List ℕ). All (λ (p : ProtoEntry). HasSpan ps p.parameters) c.in_ok-protos.protos.rows.items) (sym c.own.ensures) c.in_ok-protos.ensures.spans;
      fields_are = c.renumbered_rows.ensures ∙ (λ i. map (moved_field (ns i) (nt i)) (rows.fields_are i));
      methods_are = c.renumbered_rows-2.ensures ∙ (λ i. map (moved_method (ns i) (nt i) (np i)) (rows.methods_are i));
    } in
    record {
      tables_are = cut_tables t rows.tables c.args.marks rows.counted rows.closed _ cut c.sorted_law.ensures c.sorted_law-2.ensures c.sorted_law-3.ensures c.sorted_law-4.ensures;
      symbols_are = cut_symbols t rows.tables c.args.marks rows.counted rows.closed _ cut;
      maps_are = λ i. record {
        texts = (c.in_ok-places.ensures.places ∙ ap (places 0) c.deref.ensures.value) i;
        types = (c.in_ok-places-2.ensures.places ∙ ap (places 0) c.deref-3.ensures.value) i;
        protos = (c.in_ok-places-3.ensures.places ∙ ap (places 0) c.deref-5.ensures.value) i;
        fields = (c.in_ok-places-4.ensures.places ∙ ap (places 0) c.deref-7.ensures.value) i;
        methods = (c.in_ok-places-5.ensures.places ∙ ap (places 0) c.deref-9.ensures.value) i;
      };
    }
