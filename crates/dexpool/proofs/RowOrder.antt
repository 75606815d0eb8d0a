-- Rows whose numbers are replaced in their order stay sorted: what the law of rows says of each kind, in joins and in
-- cuts.
use Rattle.dexpool.proofs.Common.{◌≡◌, ℕ, Bool, true, false, List, [], ◌∷◌, length, get_or, map, Option, Some, None, refl, sym, ap, ◌∙◌, subst, arith, ltb-true, slice_index, All, IsTotalOrder, Ordering, get_or-map, All-map, All-weaker, rises, Text, text_cmp, text_total, proto_total, row_cmp, AreSorted, Among, Lower, RisesOn, RiseAmong, ProtoNumbers, FieldRow, MethodRow, ProtoEntry, Tables, Marks, text_of, proto_of, span_of, type_cmp, field_key, method_key, symbols_in, AreTables, StaySorted, numbers_of, moved_type, moved_proto, moved_field, moved_method, Moves, new_numbers}
use Rattle.dexspec.specs.Symbols as symbols
use Rattle.dexrows.specs.declared.types.TypeRow.{TypeRow}
use Rattle.dexpool.proofs.KeptPlaces.{marked_has}
use Rattle.dexids.specs.Tables.{proto_cmp}
use Rattle.dexpool.specs.internal.Joining.{proto_key}
use Rattle.dexpool.proofs.KeptRows.{is_marked, mark_within, new_number, places_keep}
use Rattle.dexpool.proofs.Mapping.{maps_to}
use Rattle.dexpool.proofs.Moved.{IsEntryAmong, has_image, have_images, types_among, types_count, protos_among, fields_among, protos_count, methods_among}
use Rattle.dexpool.proofs.NumberOrder.{rises-map}
use Rattle.dexpool.proofs.Pairs.{map_both}
use Rattle.dexpool.proofs.TablesAreAt.{are_rising}

-- ---- what the law says of each kind

-- the row of a type
abbrev pub type_row : ℕ → TypeRow
type_row n = record { descriptor = n }

-- the law for types, protos, fields and methods
abbrev pub TypesStay : Type 0
TypesStay = StaySorted (λ (row : TypeRow). row.descriptor ∷ []) (λ among row. among.strings row.descriptor ≡ true) (λ lower row. record { descriptor = lower.strings row.descriptor })

abbrev pub ProtosStay : Type 0
ProtosStay = StaySorted proto_key
    (λ among row. (among.types row.return_type ≡ true) × All (λ number. among.types number ≡ true) row.parameters)
    (λ lower row. record { shorty = lower.strings row.shorty; return_type = lower.types row.return_type; parameters = map lower.types row.parameters })

abbrev pub FieldsStay : Type 0
FieldsStay = StaySorted field_key
    (λ among row. (among.types row.class ≡ true) × (among.strings row.name ≡ true) × (among.types row.typ ≡ true))
    (λ lower row. record { class = lower.types row.class; name = lower.strings row.name; typ = lower.types row.typ })

abbrev pub MethodsStay : Type 0
MethodsStay = StaySorted method_key
    (λ among row. (among.types row.class ≡ true) × (among.strings row.name ≡ true) × (among.protos row.proto ≡ true))
    (λ lower row. record { class = lower.types row.class; name = lower.strings row.name; proto = lower.protos row.proto })

module _ (among : Among) (lower : Lower) (rise : RiseAmong among lower) where
  -- types, as the numbers of their texts
  pub types_stay : TypesStay → (types : List ℕ) → All (λ n. among.strings n ≡ true) types → rises type_cmp types ≡ true → AreSorted (λ (row : TypeRow). row.descriptor ∷ []) (map (λ n. type_row (lower.strings n)) types)
  types_stay law types within sorted =
      let Key : TypeRow → List ℕ = λ row. row.descriptor ∷ [] in
      subst (AreSorted Key) (map_both type_row (λ row. type_row (lower.strings row.descriptor)) (λ n. type_row (lower.strings n)) types (λ k d lt. refl))
      (law among lower (map type_row types) rise (All-map (λ row. among.strings row.descriptor ≡ true) type_row types within)
      (sym (rises-map type_cmp (row_cmp Key) type_row (λ n. Unit {0}) (λ x y p q. refl) types (λ k d lt. tt)) ∙ sorted))

  pub type_numbers_stay : TypesStay → (types : List ℕ) → All (λ n. among.strings n ≡ true) types → rises type_cmp types ≡ true → rises type_cmp (map lower.strings types) ≡ true
  type_numbers_stay law types within sorted =
      let Key : TypeRow → List ℕ = λ row. row.descriptor ∷ [] in
      rises-map type_cmp (row_cmp Key) type_row (λ n. Unit {0}) (λ x y p q. refl) (map lower.strings types) (λ k d lt. tt)
      ∙ ap (rises (row_cmp Key)) (map_both lower.strings type_row (λ n. type_row (lower.strings n)) types (λ k d lt. refl)) ∙ types_stay law types within sorted

  -- protos, as their entries
  pub protos_stay : ProtosStay → (t : Tables) (protos : List ProtoEntry) → All (IsEntryAmong t among) protos → rises (proto_cmp t.parameters) protos ≡ true
      → AreSorted proto_key (map (λ p. record { shorty = lower.strings p.shorty; return_type = lower.types p.return_type; parameters = map lower.types (span_of t.parameters p.parameters) }) protos)
  protos_stay law t protos within sorted =
      let numbers : ProtoEntry → ProtoNumbers = numbers_of t.parameters in
      let mapped : ProtoNumbers → ProtoNumbers = λ row. record { shorty = lower.strings row.shorty; return_type = lower.types row.return_type; parameters = map lower.types row.parameters } in
      let Within : ProtoNumbers → Type 0 = λ row. (among.types row.return_type ≡ true) × All (λ number. among.types number ≡ true) row.parameters in
      subst (AreSorted proto_key) (map_both numbers mapped (λ p. mapped (numbers p)) protos (λ k d lt. refl))
      (law among lower (map numbers protos) rise
      (All-map Within numbers protos (All-weaker (IsEntryAmong t among) (λ p. Within (numbers p)) (λ p m. (m.return_among, m.parameters_among)) protos within))
      (sym (rises-map (proto_cmp t.parameters) (row_cmp proto_key) numbers (λ p. Unit {0}) (λ x y p q. refl) protos (λ k d lt. tt)) ∙ sorted))

-- no number has one of no images
none_rise : (f : ℕ → ℕ) → RisesOn (has_image []) f
none_rise f m n p q lt = absurd (omega (arith, ltb-true m 0 p))

-- ---- joins: images of all numbers

-- the images of sorted members among sorted ones rise
images_rise : {X : Type 0} (R : X → X → Ordering) (o : IsTotalOrder R) (from to : List X) → rises R from ≡ true → rises R to ≡ true → (images : List ℕ) → Moves from to images → RisesOn (has_image images) (slice_index images)
images_rise R o from to from_rises to_rises images moves m n p q before =
    let some : (i : ℕ) → has_image images i ≡ true → get_or (map (λ (k : ℕ). Some k) images) i None ≡ Some (slice_index images i) =
    λ i lt. get_or-map {X = ℕ} {Y = Option ℕ} (λ k. Some k) images i 0 None (ltb-true i (length images) lt) in
    (maps_to R o from to from_rises to_rises images moves).rising m n (slice_index images m) (slice_index images n) before (some m p) (some n q)

module _ (t : Tables) (ok : AreTables t) (texts : List Text) (texts_rise : rises text_cmp texts ≡ true) (strings : List ℕ) (by_texts : Moves t.strings.items texts strings) where
  strings_rise : RisesOn (has_image strings) (slice_index strings)
  strings_rise = images_rise text_cmp text_total t.strings.items texts ok.texts_rise texts_rise strings by_texts

  pub types_sorted : TypesStay → (rows : List TypeRow) → rows ≡ map (moved_type strings) t.types.items → AreSorted (λ (row : TypeRow). row.descriptor ∷ []) rows
  types_sorted law rows is = rw is
      (types_stay (have_images strings [] []) (record { strings = slice_index strings; types = λ n. n; protos = λ n. n })
      (record { strings = strings_rise; types = none_rise (λ n. n); protos = none_rise (λ n. n) }) law t.types.items (types_among t ok strings by_texts.count) ok.types_rise)

  module _ (types : List ℕ) (types_rise : rises text_cmp (map (text_of texts) types) ≡ true) (images : List ℕ) (by_types : Moves (symbols_in t).types (map (text_of texts) types) images) where
    images_of_types_rise : RisesOn (has_image images) (slice_index images)
    images_of_types_rise = images_rise text_cmp text_total (symbols_in t).types (map (text_of texts) types) (are_rising t ok).types_rise types_rise images by_types

    -- the images of the numbers of texts and types
    abbrev lower_images : Lower
    lower_images = record { strings = slice_index strings; types = slice_index images; protos = λ n. n }

    lower_rise : RiseAmong (have_images strings images []) lower_images
    lower_rise = record { strings = strings_rise; types = images_of_types_rise; protos = none_rise (λ n. n) }

    pub protos_sorted : ProtosStay → (rows : List ProtoNumbers) → rows ≡ map (moved_proto strings images t.parameters) t.protos.items → AreSorted proto_key rows
    protos_sorted law rows is = rw is
        (protos_stay (have_images strings images []) lower_images lower_rise law t t.protos.items (protos_among t ok strings by_texts.count images (types_count t ok texts strings by_texts types images by_types)) ok.protos_rise)

    pub fields_sorted : FieldsStay → (rows : List FieldRow) → rows ≡ map (moved_field strings images) t.fields.items → AreSorted field_key rows
    fields_sorted law rows is = rw is
        (law (have_images strings images []) lower_images t.fields.items lower_rise (fields_among t ok strings by_texts.count images (types_count t ok texts strings by_texts types images by_types)) ok.fields_rise)

    module _ (parameters : List ℕ) (protos : List ProtoEntry) (protos_rise : rises symbols.proto_cmp (map (proto_of texts types parameters) protos) ≡ true)
        (proto_images : List ℕ) (by_protos : Moves (symbols_in t).protos (map (proto_of texts types parameters) protos) proto_images) where
      pub methods_sorted : MethodsStay → (rows : List MethodRow) → rows ≡ map (moved_method strings images proto_images) t.methods.items → AreSorted method_key rows
      methods_sorted law rows is = rw is
          (law (have_images strings images proto_images) (record { strings = slice_index strings; types = slice_index images; protos = slice_index proto_images }) t.methods.items
          (record {
            strings = strings_rise;
            types = images_of_types_rise;
            protos = images_rise symbols.proto_cmp proto_total (symbols_in t).protos (map (proto_of texts types parameters) protos) (are_rising t ok).protos_rise protos_rise proto_images by_protos;
          })
          (methods_among t ok strings by_texts.count images (types_count t ok texts strings by_texts types images by_types) proto_images (protos_count t ok texts strings by_texts types images by_types parameters protos proto_images by_protos)) ok.methods_rise)

-- ---- cuts: new numbers of marked ones

-- marked numbers are replaced in their order
new_rise : (marks : List Bool) → RisesOn (is_marked marks) (slice_index (new_numbers marks))
new_rise marks m n p q before =
    let x = marked_has marks m 0 false None (mark_within marks m p) p in
    let y = marked_has marks n 0 false None (mark_within marks n q) q in omega (arith, new_number marks m x.0 p x.1, new_number marks n y.0 q y.1, places_keep marks m n x.0 y.0 before x.1 y.1)

abbrev pub marked_among : Marks → Among
marked_among marks = record { strings = is_marked marks.strings.items; types = is_marked marks.types.items; protos = is_marked marks.protos.items }

abbrev pub new_lower : Marks → Lower
new_lower marks = record { strings = slice_index (new_numbers marks.strings.items); types = slice_index (new_numbers marks.types.items); protos = slice_index (new_numbers marks.protos.items) }

pub marked_rise : (marks : Marks) → RiseAmong (marked_among marks) (new_lower marks)
marked_rise marks = record { strings = new_rise marks.strings.items; types = new_rise marks.types.items; protos = new_rise marks.protos.items }
