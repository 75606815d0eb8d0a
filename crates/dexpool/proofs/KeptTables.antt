-- The marked rows of tables, renumbered: tables of the marked symbols.
use Rattle.dexpool.proofs.Common.{◌≡◌, ℕ, ◌<◌, Bool, true, List, length, get_or, map, refl, sym, ap, ◌∙◌, subst, slice_index, Ordering, All, IsTotalOrder, All-weaker, rises, text_cmp, IsDescriptor, Rises-from_rises, rises-from_Rises, text_total, row_cmp, AreSorted, kept, text_of, field_of, method_of, type_cmp, AreMarksOf, symbols_in, stored_proto, stored_field, stored_method, IsProtoEntry, AreTables, Tables, Marks, numbers_of, IsFieldWithin, IsMethodWithin, Denote, proto_of_row, IsRowOf, new_numbers, IsCut, IsMarked, AreClosed, HasMarkedEntry, HasMarkedField, HasMarkedMethod, kept_symbols}
use Rattle.dexspec.specs.Symbols as symbols
use Rattle.dexids.specs.Tables.{proto_cmp, field_cmp, method_cmp}
use Rattle.dexpool.specs.internal.Joining.{proto_key}
use Rattle.dexpool.proofs.KeptRows.{is_marked, kept_all, kept-map, kept_rises, kept_keeps, length-new_numbers}
use Rattle.dexpool.proofs.Moved.{Keeps, denote, text_kept, IsEntryAmong, IsFieldAmong, IsMethodAmong, protos_denote, fields_denote, methods_denote, entries_of}
use Rattle.dexpool.proofs.NumberOrder.{rises-map, type_total, proto_rows_total, field_rows_total, method_rows_total}
use Rattle.dexpool.proofs.Pairs.{map_both}
use Rattle.dexpool.proofs.RowOrder as order
use Rattle.dexpool.proofs.RowOrder.{TypesStay, ProtosStay, FieldsStay, MethodsStay}
use Rattle.dexpool.proofs.TablesAreAt.{are_numbering, tables_made}

-- ---- any lists

-- what two facts on each member give
pub all_both : {X : Type 0} (P Q S : X → Type 0) (xs : List X) → All P xs → All Q xs → ((x : X) → P x → Q x → S x) → All S xs
all_both P Q S xs p q both = λ k d lt. both (get_or xs k d) (p k d lt) (q k d lt)

-- what is kept of a list that rises, rises
pub kept_rise : {X : Type 0} (R : X → X → Ordering) → IsTotalOrder R → (marks : List Bool) (xs : List X) → rises R xs ≡ true → rises R (kept marks xs) ≡ true
kept_rise R o marks xs h = rises-from_Rises R (kept marks xs) (kept_rises R marks xs (Rises-from_rises R o xs h))

-- ---- the rows that are kept

module _ (t : Tables) (ok : AreTables t) (marks : Marks) (count : AreMarksOf (symbols_in t) marks) (closed : AreClosed t marks) (cut : Tables) (is : IsCut t marks cut) where
  -- ---- texts and types

  texts_keep : Keeps (is_marked marks.strings.items) t.strings.items cut.strings.items (new_numbers marks.strings.items)
  texts_keep = rw is.strings_are (kept_keeps marks.strings.items t.strings.items count.strings_count)

  cut_texts_rise : rises text_cmp cut.strings.items ≡ true
  cut_texts_rise = ap (rises text_cmp) is.strings_are ∙ kept_rise text_cmp text_total marks.strings.items t.strings.items ok.texts_rise

  types_denoted : Denote (text_of cut.strings.items) (λ n. n < length cut.strings.items) (map (text_of t.strings.items) (kept marks.types.items t.types.items)) cut.types.items
  types_denoted = rw is.types_are
      (denote (IsMarked marks.strings.items) (slice_index (new_numbers marks.strings.items)) (text_of t.strings.items) (text_of cut.strings.items) (λ n. n < length cut.strings.items)
      (text_kept t (order.marked_among marks) cut.strings.items (new_numbers marks.strings.items) texts_keep) (kept marks.types.items t.types.items) closed.types_closed)

  types_same : (symbols_in cut).types ≡ kept marks.types.items (symbols_in t).types
  types_same = types_denoted.same ∙ sym (kept-map (text_of t.strings.items) marks.types.items t.types.items)

  types_keep : Keeps (is_marked marks.types.items) (symbols_in t).types (symbols_in cut).types (new_numbers marks.types.items)
  types_keep = subst (λ xs. Keeps (is_marked marks.types.items) (symbols_in t).types xs (new_numbers marks.types.items)) (sym types_same) (kept_keeps marks.types.items (symbols_in t).types count.types_count)

  -- ---- protos

  protos_among : All (IsEntryAmong t (order.marked_among marks)) (kept marks.protos.items t.protos.items)
  protos_among =
      all_both (HasMarkedEntry t marks) (IsProtoEntry t) (IsEntryAmong t (order.marked_among marks)) (kept marks.protos.items t.protos.items) closed.protos_closed (kept_all (IsProtoEntry t) marks.protos.items t.protos.items ok.protos_at_ranks)
      (λ p m k. record { shorty_among = m.shorty_marked; return_among = m.return_marked; parameters_among = m.parameters_marked; shorty_is = k.shorty_is })

  protos_denoted : Denote (proto_of_row cut.strings.items cut.types.items) (IsRowOf cut.strings.items cut.types.items) (map (stored_proto t) (kept marks.protos.items t.protos.items)) (map (numbers_of cut.parameters) cut.protos.items)
  protos_denoted = rw is.protos_are
      (protos_denote t (order.marked_among marks) cut.strings.items (new_numbers marks.strings.items) texts_keep cut.types.items (new_numbers marks.types.items) types_keep (kept marks.protos.items t.protos.items) protos_among)

  protos_same : (symbols_in cut).protos ≡ kept marks.protos.items (symbols_in t).protos
  protos_same = sym (map_both (numbers_of cut.parameters) (proto_of_row cut.strings.items cut.types.items) (stored_proto cut) cut.protos.items (λ k d lt. refl))
      ∙ protos_denoted.same ∙ sym (kept-map (stored_proto t) marks.protos.items t.protos.items)

  protos_keep : Keeps (is_marked marks.protos.items) (symbols_in t).protos (symbols_in cut).protos (new_numbers marks.protos.items)
  protos_keep = subst (λ xs. Keeps (is_marked marks.protos.items) (symbols_in t).protos xs (new_numbers marks.protos.items)) (sym protos_same) (kept_keeps marks.protos.items (symbols_in t).protos count.protos_count)

  -- ---- fields and methods

  fields_among : All (IsFieldAmong (order.marked_among marks)) (kept marks.fields.items t.fields.items)
  fields_among = All-weaker (HasMarkedField marks) (IsFieldAmong (order.marked_among marks)) (λ f m. (m.class_marked, m.name_marked, m.type_marked)) (kept marks.fields.items t.fields.items) closed.fields_closed

  fields_denoted : Denote (field_of cut.strings.items cut.types.items) (IsFieldWithin (length cut.strings.items) (length cut.types.items)) (map (stored_field t) (kept marks.fields.items t.fields.items)) cut.fields.items
  fields_denoted = rw is.fields_are
      (fields_denote t (order.marked_among marks) cut.strings.items (new_numbers marks.strings.items) texts_keep cut.types.items (new_numbers marks.types.items) types_keep (kept marks.fields.items t.fields.items) fields_among)

  fields_same : (symbols_in cut).fields ≡ kept marks.fields.items (symbols_in t).fields
  fields_same = fields_denoted.same ∙ sym (kept-map (stored_field t) marks.fields.items t.fields.items)

  methods_among : All (IsMethodAmong (order.marked_among marks)) (kept marks.methods.items t.methods.items)
  methods_among = All-weaker (HasMarkedMethod marks) (IsMethodAmong (order.marked_among marks)) (λ x m. (m.class_marked, m.name_marked, m.proto_marked)) (kept marks.methods.items t.methods.items) closed.methods_closed

  methods_denoted : Denote (method_of cut.strings.items cut.types.items cut.parameters cut.protos.items) (IsMethodWithin (length cut.strings.items) (length cut.types.items) (length cut.protos.items)) (map (stored_method t) (kept marks.methods.items t.methods.items)) cut.methods.items
  methods_denoted = rw is.methods_are
      (methods_denote t (order.marked_among marks) cut.strings.items (new_numbers marks.strings.items) texts_keep cut.types.items (new_numbers marks.types.items) types_keep
      cut.parameters cut.protos.items (new_numbers marks.protos.items) protos_keep (kept marks.methods.items t.methods.items) methods_among)

  methods_same : (symbols_in cut).methods ≡ kept marks.methods.items (symbols_in t).methods
  methods_same = methods_denoted.same ∙ sym (kept-map (stored_method t) marks.methods.items t.methods.items)

  -- ---- the order

  module _ (types_stay : TypesStay) (protos_stay : ProtosStay) (fields_stay : FieldsStay) (methods_stay : MethodsStay) where
    cut_types_rise : rises type_cmp cut.types.items ≡ true
    cut_types_rise = subst (λ ns. rises type_cmp ns ≡ true) (sym is.types_are)
        (order.type_numbers_stay (order.marked_among marks) (order.new_lower marks) (order.marked_rise marks) types_stay (kept marks.types.items t.types.items) closed.types_closed
        (kept_rise type_cmp type_total marks.types.items t.types.items ok.types_rise))

    cut_protos_rise : rises (proto_cmp cut.parameters) cut.protos.items ≡ true
    cut_protos_rise =
        rises-map (proto_cmp cut.parameters) (row_cmp proto_key) (numbers_of cut.parameters) (λ p. Unit {0}) (λ x y p q. refl) cut.protos.items (λ k d lt. tt) ∙ subst (AreSorted proto_key) (sym is.protos_are)
        (order.protos_stay (order.marked_among marks) (order.new_lower marks) (order.marked_rise marks) protos_stay t (kept marks.protos.items t.protos.items) protos_among
        (kept_rise (proto_cmp t.parameters) (proto_rows_total t.parameters) marks.protos.items t.protos.items ok.protos_rise))

    cut_fields_rise : rises field_cmp cut.fields.items ≡ true
    cut_fields_rise = subst (λ fs. rises field_cmp fs ≡ true) (sym is.fields_are)
        (fields_stay (order.marked_among marks) (order.new_lower marks) (kept marks.fields.items t.fields.items) (order.marked_rise marks) fields_among
        (kept_rise field_cmp field_rows_total marks.fields.items t.fields.items ok.fields_rise))

    cut_methods_rise : rises method_cmp cut.methods.items ≡ true
    cut_methods_rise = subst (λ ms. rises method_cmp ms ≡ true) (sym is.methods_are)
        (methods_stay (order.marked_among marks) (order.new_lower marks) (kept marks.methods.items t.methods.items) (order.marked_rise marks) methods_among
        (kept_rise method_cmp method_rows_total marks.methods.items t.methods.items ok.methods_rise))

    -- they are tables
    pub cut_tables : AreTables cut
    cut_tables =
        let formed = are_numbering t ok in
        let entries = entries_of cut.strings.items cut.types.items cut.parameters cut.protos.items is.spans protos_denoted.within in
        tables_made cut cut_texts_rise cut_types_rise cut_protos_rise cut_fields_rise cut_methods_rise
        types_denoted.within (subst (All IsDescriptor) (sym types_same) (kept_all IsDescriptor marks.types.items (symbols_in t).types formed.types_formed))
        entries.0 entries.1 (subst (All symbols.IsProto) (sym protos_same) (kept_all symbols.IsProto marks.protos.items (symbols_in t).protos formed.protos_formed))
        fields_denoted.within (subst (All symbols.IsField) (sym fields_same) (kept_all symbols.IsField marks.fields.items (symbols_in t).fields formed.fields_formed))
        methods_denoted.within (subst (All symbols.IsMethod) (sym methods_same) (kept_all symbols.IsMethod marks.methods.items (symbols_in t).methods formed.methods_formed))

  -- ---- the whole

  -- of the marked symbols
  pub cut_symbols : symbols_in cut ≡ kept_symbols marks (symbols_in t)
  cut_symbols = λ i. record { texts = is.strings_are i; types = types_same i; protos = protos_same i; fields = fields_same i; methods = methods_same i }

-- ---- numbers in range of the new ones

-- what holds of all rows holds of what is left of them
pub left_all : {X : Type 0} (P : X → Type 0) (marks : List Bool) (rows left : List X) → left ≡ kept marks rows → All P rows → All P left
left_all P marks rows left e all = subst (All P) (sym e) (kept_all P marks rows all)

-- as many new numbers as marks
pub numbers_count : (ns : List ℕ) (marks : List Bool) (n : ℕ) → ns ≡ new_numbers marks → length marks ≡ n → length ns ≡ n
numbers_count ns marks n e count = ap length e ∙ length-new_numbers marks ∙ count
