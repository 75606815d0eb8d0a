-- Rows whose numbers are replaced denote the same symbols as before, in joins and in cuts.
use Rattle.dexpool.proofs.Common.{◌≡◌, ℕ, ◌<◌, Bool, true, List, [], length, get_or, map, sym, ◌∙◌, arith, slice_index, slice_index_or, nat_lt, lt-ltb, ltb-true, All, get_or-map, length-map, All-map, All-weaker, Text, shorty, Among, ProtoNumbers, FieldRow, MethodRow, all_seen, ProtoEntry, Tables, text_of, type_of, span_of, proto_of, field_of, method_of, IsAt, HasSpan, symbols_in, AreTables, stored_proto, stored_field, stored_method, numbers_of, moved_type, moved_proto, moved_field, moved_method, IsEntryWithin, IsFieldWithin, IsMethodWithin, Moves, Denote, HasShorty, proto_of_row, IsRowOf}
use Rattle.dexrows.specs.declared.types.TypeRow.{TypeRow}
use Rattle.dexpool.proofs.Pairs.{map_both}
use Rattle.dexpool.proofs.TablesAreAt.{types_in, protos_in, fields_in, methods_in}

-- the numbers among these are replaced by those of the same members
pub record Keeps {X : Type 0} (among : ℕ → Bool) (from to : List X) (image : List ℕ) : Type 0 where
  pub there : (n : ℕ) → among n ≡ true → n < length from
  pub same : (n : ℕ) (d : X) → among n ≡ true → IsAt to (slice_index image n) (slice_index_or from n d)

-- the rows denote what those denote that they replace
pub denote : {Q R X : Type 0} (P : R → Type 0) (moved : R → Q) (old : R → X) (new : Q → X) (Within : Q → Type 0) → ((r : R) → P r → (new (moved r) ≡ old r) × Within (moved r)) → (rows : List R) → All P rows → Denote new Within (map old rows) (map moved rows)
denote P moved old new Within each rows h = record {
  same = map_both moved new old rows (All-weaker P (λ r. new (moved r) ≡ old r) (λ r p. (each r p).0) rows h);
  within = All-map Within moved rows (All-weaker P (λ r. Within (moved r)) (λ r p. (each r p).1) rows h);
}

-- a row at a number denotes what that at its image does
row_kept : {Q R X : Type 0} (among : ℕ → Bool) (old : R → X) (new : Q → X) (from : List R) (to : List Q) (image : List ℕ) → Keeps among (map old from) (map new to) image
    → (n : ℕ) (d : R) (e : Q) → among n ≡ true → (new (get_or to (slice_index image n) e) ≡ old (get_or from n d)) × (slice_index image n < length to)
row_kept among old new from to image k n d e m =
    let at = k.same n (old d) m in
    let less : slice_index image n < length to = omega (arith, at.within, length-map to new) in
    (sym (get_or-map new to (slice_index image n) e (old d) less) ∙ at.is (old d) ∙ get_or-map old from n d (old d) (omega (arith, k.there n m, length-map from old)), less)

-- an entry's numbers are among these, and its shorty is the text of its shorty
pub record IsEntryAmong (t : Tables) (among : Among) (p : ProtoEntry) : Type 0 where
  pub shorty_among : among.strings p.shorty ≡ true
  pub return_among : among.types p.return_type ≡ true
  pub parameters_among : All (λ n. among.types n ≡ true) (span_of t.parameters p.parameters)
  pub shorty_is : HasShorty t.strings.items t.types.items t.parameters p

-- those of a field
abbrev pub IsFieldAmong : Among → FieldRow → Type 0
IsFieldAmong among f = (among.types f.class ≡ true) × (among.strings f.name ≡ true) × (among.types f.typ ≡ true)

-- those of a method
abbrev pub IsMethodAmong : Among → MethodRow → Type 0
IsMethodAmong among m = (among.types m.class ≡ true) × (among.strings m.name ≡ true) × (among.protos m.proto ≡ true)

module _ (t : Tables) (among : Among) (texts : List Text) (strings : List ℕ) (by_texts : Keeps among.strings t.strings.items texts strings) where
  pub text_kept : (n : ℕ) → among.strings n ≡ true → (text_of texts (slice_index strings n) ≡ text_of t.strings.items n) × (slice_index strings n < length texts)
  text_kept n m = let at = by_texts.same n [] m in (at.is [], at.within)

  module _ (types images : List ℕ) (by_types : Keeps among.types (symbols_in t).types (map (text_of texts) types) images) where
    type_kept : (n : ℕ) → among.types n ≡ true → (type_of texts types (slice_index images n) ≡ type_of t.strings.items t.types.items n) × (slice_index images n < length types)
    type_kept n m = row_kept among.types (text_of t.strings.items) (text_of texts) t.types.items types images by_types n 0 0 m

    pub protos_denote : (protos : List ProtoEntry) → All (IsEntryAmong t among) protos → Denote (proto_of_row texts types) (IsRowOf texts types) (map (stored_proto t) protos) (map (moved_proto strings images t.parameters) protos)
    protos_denote = denote (IsEntryAmong t among) (moved_proto strings images t.parameters) (stored_proto t) (proto_of_row texts types) (IsRowOf texts types) (λ p m.
        let s = text_kept p.shorty m.shorty_among in
        let r = type_kept p.return_type m.return_among in
        let ps = denote (λ n. among.types n ≡ true) (slice_index images) (type_of t.strings.items t.types.items) (type_of texts types) (λ n. n < length types) type_kept (span_of t.parameters p.parameters) m.parameters_among in (
          λ i. record { return_type = r.0 i; parameters = ps.same i },
          record { shorty_in = s.1; return_in = r.1; parameters_in = ps.within; shorty_is = s.0 ∙ m.shorty_is ∙ sym (λ i. shorty (r.0 i) (ps.same i)) },
        ))

    pub fields_denote : (fields : List FieldRow) → All (IsFieldAmong among) fields → Denote (field_of texts types) (IsFieldWithin (length texts) (length types)) (map (stored_field t) fields) (map (moved_field strings images) fields)
    fields_denote = denote (IsFieldAmong among) (moved_field strings images) (stored_field t) (field_of texts types) (IsFieldWithin (length texts) (length types)) (λ f m.
        let c = type_kept f.class m.0 in
        let n = text_kept f.name m.1 in
        let y = type_kept f.typ m.2 in
        (λ i. record { class = c.0 i; name = n.0 i; type = y.0 i }, record { class_in = c.1; name_in = n.1; type_in = y.1 }))

    module _ (parameters : List ℕ) (protos : List ProtoEntry) (places : List ℕ) (by_protos : Keeps among.protos (symbols_in t).protos (map (proto_of texts types parameters) protos) places) where
      pub methods_denote : (methods : List MethodRow) → All (IsMethodAmong among) methods
          → Denote (method_of texts types parameters protos) (IsMethodWithin (length texts) (length types) (length protos)) (map (stored_method t) methods) (map (moved_method strings images places) methods)
      methods_denote = denote (IsMethodAmong among) (moved_method strings images places) (stored_method t) (method_of texts types parameters protos) (IsMethodWithin (length texts) (length types) (length protos)) (λ m k.
          let c = type_kept m.class k.0 in
          let n = text_kept m.name k.1 in
          let p = row_kept among.protos (stored_proto t) (proto_of texts types parameters) t.protos.items protos places by_protos m.proto _ _ k.2 in
          (λ i. record { class = c.0 i; name = n.0 i; proto = p.0 i }, record { class_in = c.1; name_in = n.1; proto_in = p.1 }))

-- entries whose numbers make rows of protos
pub entries_of : (texts : List Text) (types ps : List ℕ) (protos : List ProtoEntry) → All (λ p. HasSpan ps p.parameters) protos → All (IsRowOf texts types) (map (numbers_of ps) protos)
    → All (IsEntryWithin (length texts) (length types) ps) protos × All (HasShorty texts types ps) protos
entries_of texts types ps protos spans rows =
    let each = all_seen (numbers_of ps) (IsRowOf texts types) protos rows in (
      λ k d lt. let r = each k d lt in record { shorty_in = r.shorty_in; return_in = r.return_in; span = spans k d lt; parameters_in = r.parameters_in },
      λ k d lt. (each k d lt).shorty_is,
    )

-- ---- joins: images of all numbers

-- the numbers that have an image
abbrev pub has_image : List ℕ → ℕ → Bool
has_image images n = nat_lt n (length images)

-- the numbers that have one of these images
abbrev pub have_images : List ℕ → List ℕ → List ℕ → Among
have_images strings types protos = record { strings = has_image strings; types = has_image types; protos = has_image protos }

images_keep : {X : Type 0} (from to : List X) (images : List ℕ) → Moves from to images → Keeps (has_image images) from to images
images_keep from to images m =
    let there : (n : ℕ) → has_image images n ≡ true → n < length from = λ n h. omega (arith, ltb-true n (length images) h, m.count) in record { there = there; same = λ n d h. m.same n d (there n h) }

-- where there is an image for each number, all rows name numbers that have one
module _ (t : Tables) (ok : AreTables t) (strings : List ℕ) (texts_count : length strings ≡ length t.strings.items) where
  pub types_movable : All (λ n. n < length strings) t.types.items
  types_movable = rw texts_count (types_in t ok)

  pub types_among : All (λ n. has_image strings n ≡ true) t.types.items
  types_among = All-weaker (λ n. n < length strings) (λ n. has_image strings n ≡ true) (λ n lt. lt-ltb n (length strings) lt) t.types.items types_movable

  module _ (types : List ℕ) (types_count : length types ≡ length t.types.items) where
    pub protos_movable : All (IsEntryWithin (length strings) (length types) t.parameters) t.protos.items
    protos_movable = rw (texts_count, types_count) (protos_in t ok)

    pub protos_among : All (IsEntryAmong t (have_images strings types [])) t.protos.items
    protos_among k d lt =
        let p = get_or t.protos.items k d in
        let h = protos_movable k d lt in
        record {
          shorty_among = lt-ltb p.shorty (length strings) h.shorty_in;
          return_among = lt-ltb p.return_type (length types) h.return_in;
          parameters_among = All-weaker (λ n. n < length types) (λ n. has_image types n ≡ true) (λ n lt. lt-ltb n (length types) lt) (span_of t.parameters p.parameters) h.parameters_in;
          shorty_is = (ok.protos_at_ranks k d lt).shorty_is;
        }

    pub fields_among : All (IsFieldAmong (have_images strings types [])) t.fields.items
    fields_among = rw (texts_count, types_count) (All-weaker (IsFieldWithin (length t.strings.items) (length t.types.items)) (λ f. (nat_lt f.class (length t.types.items) ≡ true) × (nat_lt f.name (length t.strings.items) ≡ true) × (nat_lt f.typ (length t.types.items) ≡ true))
        (λ f h. (lt-ltb f.class (length t.types.items) h.class_in, lt-ltb f.name (length t.strings.items) h.name_in, lt-ltb f.typ (length t.types.items) h.type_in)) t.fields.items (fields_in t ok))

    pub methods_among : (protos : List ℕ) → length protos ≡ length t.protos.items → All (IsMethodAmong (have_images strings types protos)) t.methods.items
    methods_among protos count = rw (texts_count, types_count, count) (All-weaker (IsMethodWithin (length t.strings.items) (length t.types.items) (length t.protos.items)) (λ m. (nat_lt m.class (length t.types.items) ≡ true) × (nat_lt m.name (length t.strings.items) ≡ true) × (nat_lt m.proto (length t.protos.items) ≡ true))
        (λ m h. (lt-ltb m.class (length t.types.items) h.class_in, lt-ltb m.name (length t.strings.items) h.name_in, lt-ltb m.proto (length t.protos.items) h.proto_in)) t.methods.items (methods_in t ok))

module _ (t : Tables) (ok : AreTables t) (texts : List Text) (strings : List ℕ) (by_texts : Moves t.strings.items texts strings) where
  pub types_at_ranks : (rows : List TypeRow) → rows ≡ map (moved_type strings) t.types.items → Denote (λ (row : TypeRow). text_of texts row.descriptor) (λ row. row.descriptor < length texts) (symbols_in t).types rows
  types_at_ranks rows is = rw is
      (denote (λ n. has_image strings n ≡ true) (moved_type strings) (text_of t.strings.items) (λ (row : TypeRow). text_of texts row.descriptor) (λ (row : TypeRow). row.descriptor < length texts)
      (text_kept t (have_images strings [] []) texts strings (images_keep t.strings.items texts strings by_texts)) t.types.items (types_among t ok strings by_texts.count))

  module _ (types images : List ℕ) (by_types : Moves (symbols_in t).types (map (text_of texts) types) images) where
    pub types_count : length images ≡ length t.types.items
    types_count = by_types.count ∙ length-map t.types.items (text_of t.strings.items)

    pub protos_at_ranks : (rows : List ProtoNumbers) → rows ≡ map (moved_proto strings images t.parameters) t.protos.items → Denote (proto_of_row texts types) (IsRowOf texts types) (symbols_in t).protos rows
    protos_at_ranks rows is = rw is
        (protos_denote t (have_images strings images []) texts strings (images_keep t.strings.items texts strings by_texts) types images (images_keep (symbols_in t).types (map (text_of texts) types) images by_types)
        t.protos.items (protos_among t ok strings by_texts.count images types_count))

    pub fields_at_ranks : (rows : List FieldRow) → rows ≡ map (moved_field strings images) t.fields.items → Denote (field_of texts types) (IsFieldWithin (length texts) (length types)) (symbols_in t).fields rows
    fields_at_ranks rows is = rw is
        (fields_denote t (have_images strings images []) texts strings (images_keep t.strings.items texts strings by_texts) types images (images_keep (symbols_in t).types (map (text_of texts) types) images by_types)
        t.fields.items (fields_among t ok strings by_texts.count images types_count))

    module _ (parameters : List ℕ) (protos : List ProtoEntry) (places : List ℕ) (by_protos : Moves (symbols_in t).protos (map (proto_of texts types parameters) protos) places) where
      pub protos_count : length places ≡ length t.protos.items
      protos_count = by_protos.count ∙ length-map t.protos.items (stored_proto t)

      pub methods_at_ranks : (rows : List MethodRow) → rows ≡ map (moved_method strings images places) t.methods.items
          → Denote (method_of texts types parameters protos) (IsMethodWithin (length texts) (length types) (length protos)) (symbols_in t).methods rows
      methods_at_ranks rows is = rw is
          (methods_denote t (have_images strings images places) texts strings (images_keep t.strings.items texts strings by_texts) types images (images_keep (symbols_in t).types (map (text_of texts) types) images by_types)
          parameters protos places (images_keep (symbols_in t).protos (map (proto_of texts types parameters) protos) places by_protos) t.methods.items (methods_among t ok strings by_texts.count images types_count places protos_count))
