-- Condition 10 of the file of classes in order: its map.
use Rattle.dexspec.proofs.Common.{◌≡◌, ◌≢◌, ℕ, ◌+◌, ◌*◌, ◌%◌, ◌^◌, ◌<◌, ◌≤◌, List, [], ◌∷◌, ◌++◌, length, get_or, map, refl, sym, ap, subst, ◌∙◌, arith, inl, inr, slice_index, ◌==◌, Bool, true, false, if◌then◌else◌, IsTrue, flat_map, All, Contains, nat_cmp, get_or-map, length-map, flat_map-append, flat_map-map, All-nil, All-cons, All-head, All-tail, All-append, All-map, eqb-true, eqb-false}
use Rattle.dexspec.specs.{rises, AreDistinct, uint, uint_at, BytesAt, Table, StringIds, TypeIds, ProtoIds, FieldIds, MethodIds, ClassDefs, tables, header_length, row_size, table_off, map_off, Section, HeaderItem, TableOf, MapList, type_code, MapEntry, map_entries, entries_at, IsKnown, HasTable, IsPlaced, HasMap, Ordered, Placed, offsets, end, table_count, tables_from, placed_tables, data_start, map_bytes, map_entry_bytes, data_sections, directory_section, type_list_section, annotation_section, array_section, string_section, debug_section, code_section, class_data_section, set_section, ref_list_section}
use Rattle.dexspec.proofs.written.PlacedBytes.{is_at}
use Rattle.dexspec.proofs.numbers.ByteNumbers.{uint_at-encodes}
use Rattle.dexspec.proofs.layout.Places.{IsAlign, items_within, items_few, FollowFrom, last_end, round_up_four, length-padding}
use Rattle.dexspec.proofs.layout.Placements.{sections_follow, sections_have_bytes, sections_aligned, HasBytes}
use Rattle.dexspec.proofs.layout.Tables.{is_at_here, is_at_next, table_place}
use Rattle.dexspec.proofs.layout.SectionPlaces.{Laid, map_place, map_list, map_place_is, file_length, table_few, data_before_map}
use Rattle.dexspec.proofs.layout.MapEntries.{entry_of, length-map_bytes, IsSmall, entries_at-encodes, Candidate, pick, picked, code_of, picked_there, differ, picked_differ, left_out, RisesTo, rises_append, rises_from_less, rises_between, rises_strictly}
use Rattle.dexspec.proofs.layout.HeaderLaws.{tables_end}

-- ---- the entries of tables and of sections

-- an empty table has no entry
abbrev table_entries : Table × ℕ × ℕ → List (Section × ℕ × ℕ)
table_entries t = if t.1 == 0 then [] else (TableOf t.0, t.1, t.2) ∷ []

-- an empty section has no entry
abbrev section_entries : Placed → List (Section × ℕ × ℕ)
section_entries p = if length p.items == 0 then [] else (p.kind, length p.items, slice_index (offsets p) 0) ∷ []

-- a property of the entry, if there is one
one_entry : (P : Section × ℕ × ℕ → Type 0) (e : Section × ℕ × ℕ) (empty : Bool) → P e → All P (if empty then [] else e ∷ [])
one_entry P e true h = All-nil P
one_entry P e false h = All-cons P e [] h (All-nil P)

-- a table's code is less than 7
table_code : (t : Table) → type_code (TableOf t) < 7
table_code StringIds = omega arith
table_code _ = omega arith

-- an entry of a table
record IsOfTable (K : Ordered) (e : Section × ℕ × ℕ) : Type 0 where
  kind : type_code e.0 < 7
  count : e.1 ≤ data_start K

-- the entries of tables are entries of a table
tables_are : (K : Ordered) (from : ℕ) (ts : List Table) → All (IsOfTable K) (flat_map table_entries (tables_from K from ts))
tables_are K from [] = All-nil (IsOfTable K)
tables_are K from (t ∷ ts) =
    All-append (IsOfTable K) (table_entries (t, table_count K t, if table_count K t == 0 then 0 else from)) (flat_map table_entries (tables_from K (from + row_size t * table_count K t) ts))
    (one_entry (IsOfTable K) (TableOf t, table_count K t, if table_count K t == 0 then 0 else from) (table_count K t == 0) (record { kind = table_code t; count = table_few K t }))
    (tables_are K (from + row_size t * table_count K t) ts)

-- a section has at most as many items as there are bytes up to its end
sections_few : (at : ℕ) (ps : List Placed) (last : ℕ) → FollowFrom at ps last → All HasBytes ps → All (λ e. e.1 ≤ last) (flat_map section_entries ps)
sections_few at [] last h some = All-nil (λ e. e.1 ≤ last)
sections_few at (p ∷ ps) last h some =
    let few : p.from + length p.items ≤ end p = items_few p.align p.from p.items (All-head HasBytes p ps some) in
    let less : end p ≤ last = last_end (end p) ps last h.1 in
    All-append (λ e. e.1 ≤ last) (section_entries p) (flat_map section_entries ps)
    (one_entry (λ e. e.1 ≤ last) (p.kind, length p.items, slice_index (offsets p) 0) (length p.items == 0) (omega (arith, few, less)))
    (sections_few (end p) ps last h.1 (All-tail HasBytes p ps some))

-- ---- the offsets rise

-- rows have bytes
rows_some : (t : Table) (n : ℕ) → (n ≡ 0 → ⊥) → 0 < row_size t * n
rows_some StringIds n some = omega (arith, some)
rows_some _ n some = omega (arith, some)

-- one table's offset, if it has an entry
table_rises : (t : Table) (from n : ℕ) (empty : Bool) → (n == 0) ≡ empty → RisesTo from (if empty then [] else (TableOf t, n, if empty then 0 else from) ∷ []) (from + row_size t * n)
table_rises t from n true is = omega arith
table_rises t from n false is = (omega arith, omega (arith, rows_some t n (eqb-false n 0 is)))

-- the offsets of consecutive tables
tables_rise : (K : Ordered) (from : ℕ) (ts : List Table) → RisesTo from (flat_map table_entries (tables_from K from ts)) (tables_end K from ts)
tables_rise K from [] = omega arith
tables_rise K from (t ∷ ts) =
    rises_append from (table_entries (t, table_count K t, if table_count K t == 0 then 0 else from)) (from + row_size t * table_count K t)
    (flat_map table_entries (tables_from K (from + row_size t * table_count K t) ts)) (tables_end K (from + row_size t * table_count K t) ts)
    (table_rises t from (table_count K t) (table_count K t == 0) refl) (tables_rise K (from + row_size t * table_count K t) ts)

-- one section's offset, if it has an entry
section_rises : (p : Placed) (empty : Bool) → (length p.items == 0) ≡ empty → HasBytes p → IsAlign p.align
    → RisesTo p.from (if empty then [] else (p.kind, length p.items, slice_index (offsets p) 0) ∷ []) (end p)
section_rises p true is some align = last_end p.from (p ∷ []) (end p) (refl, refl)
section_rises p false is some align =
    let none : length p.items ≡ 0 → ⊥ = eqb-false (length p.items) 0 is in
    let lt : 0 < length p.items = omega (arith, none) in
    let h = items_within p.align p.from p.items 0 [] align lt in
    let more : 0 < length (get_or p.items 0 []) = some 0 [] lt in
    (h.following, omega (arith, h.before, more))

-- the offsets of consecutive sections
sections_rise : (at : ℕ) (ps : List Placed) (last : ℕ) → FollowFrom at ps last → All HasBytes ps → All (λ p. IsAlign p.align) ps → RisesTo at (flat_map section_entries ps) last
sections_rise at [] last h some align = omega (arith, h)
sections_rise at (p ∷ ps) last h some align =
    rises_append at (section_entries p) (end p) (flat_map section_entries ps) last
    (rises_from_less p.from at (section_entries p) (end p) (omega (arith, h.0)) (section_rises p (length p.items == 0) refl (All-head HasBytes p ps some) (All-head (λ p. IsAlign p.align) p ps align)))
    (sections_rise (end p) ps last h.1 (All-tail HasBytes p ps some) (All-tail (λ p. IsAlign p.align) p ps align))

-- ---- all entries

-- the entries of tables
abbrev of_tables : Ordered → List (Section × ℕ × ℕ)
of_tables K = flat_map table_entries (placed_tables K)

-- the entries of sections, and the entry of the map
abbrev of_data : Ordered → List (Section × ℕ × ℕ)
of_data K = flat_map section_entries (data_sections K) ++ (MapList, 1, map_place K) ∷ []

-- the entry of the header, and all others
abbrev all_entries : Ordered → List (Section × ℕ × ℕ)
all_entries K = (HeaderItem, 1, 0) ∷ (of_tables K ++ of_data K)

-- they are the map
map_list_is : (K : Ordered) → map_list K ≡ all_entries K
unfolding map_list
map_list_is K = refl

-- the offsets of the entries in the data rise
data_rises : (K : Ordered) → RisesTo (data_start K) (of_data K) (map_place K + 1)
data_rises K =
    rises_append (data_start K) (flat_map section_entries (data_sections K)) (end (directory_section K)) ((MapList, 1, map_place K) ∷ []) (map_place K + 1)
    (sections_rise (data_start K) (data_sections K) (end (directory_section K)) (sections_follow K) (sections_have_bytes K) (sections_aligned K))
    (omega (arith, length-padding 4 (end (directory_section K)), map_place_is K), omega arith)

-- the offsets of all entries rise
all_rise : (K : Ordered) → RisesTo 0 (all_entries K) (map_place K + 1)
all_rise K = (
  omega arith,
  rises_from_less header_length 1 (of_tables K ++ of_data K) (map_place K + 1) (omega arith)
      (rises_append header_length (of_tables K) (data_start K) (of_data K) (map_place K + 1) (subst (RisesTo header_length (of_tables K)) (omega arith) (tables_rise K header_length tables)) (data_rises K)),
)

-- the numbers of all entries fit four bytes
all_small : (K : Ordered) → file_length K < 2 ^ 32 → All IsSmall (all_entries K)
all_small K small =
    let N = file_length K in
    let P : Section × ℕ × ℕ → Type 0 = λ e. e.1 ≤ N in
    let le = data_before_map K in
    let of : All P (of_tables K) = λ k d lt. omega (arith, le, (tables_are K header_length tables k d lt).count) in
    let to : All P (flat_map section_entries (data_sections K)) =
    λ k d lt. omega (arith, sections_few (data_start K) (data_sections K) (end (directory_section K)) (sections_follow K) (sections_have_bytes K) k d lt, length-padding 4 (end (directory_section K)), map_place_is K) in
    let one : 1 ≤ N = omega (arith, le) in
    let counts : All P (all_entries K) =
    All-cons P (HeaderItem, 1, 0) (of_tables K ++ of_data K) one
    (All-append P (of_tables K) (of_data K) of (All-append P (flat_map section_entries (data_sections K)) ((MapList, 1, map_place K) ∷ []) to (All-cons P (MapList, 1, map_place K) [] one (All-nil P)))) in
    let places = rises_between 0 (all_entries K) (map_place K + 1) (all_rise K) in
    λ k d lt. record { count = omega (arith, counts k d lt); place = omega (arith, (places k d lt).most, length-map_bytes (map_list K)) }

-- ---- the kinds of the entries

-- an entry of a table, and whether it is left out
abbrev table_candidate : Table × ℕ × ℕ → Candidate
table_candidate t = (t.1 == 0, (TableOf t.0, t.1, t.2))

-- an entry of a section, and whether it is left out
abbrev section_candidate : Placed → Candidate
section_candidate p = (length p.items == 0, (p.kind, length p.items, slice_index (offsets p) 0))

-- all entries, and which are left out
abbrev all_candidates : List (Table × ℕ × ℕ) → List Placed → ℕ → List Candidate
all_candidates ts ps at = (false, (HeaderItem, 1, 0)) ∷ (map table_candidate ts ++ (map section_candidate ps ++ (false, (MapList, 1, at)) ∷ []))

-- the candidates that are not left out are the entries
picked_is : (ts : List (Table × ℕ × ℕ)) (ps : List Placed) (at : ℕ) → picked (all_candidates ts ps at) ≡ (HeaderItem, 1, 0) ∷ (flat_map table_entries ts ++ (flat_map section_entries ps ++ (MapList, 1, at) ∷ []))
picked_is ts ps at =
    let last : List Candidate = (false, (MapList, 1, at)) ∷ [] in
    let e1 : picked (map table_candidate ts) ≡ flat_map table_entries ts = flat_map-map pick table_candidate ts in
    let e2 : picked (map section_candidate ps) ≡ flat_map section_entries ps = flat_map-map pick section_candidate ps in
    let e3 : picked (map section_candidate ps ++ last) ≡ flat_map section_entries ps ++ picked last = flat_map-append pick (map section_candidate ps) last ∙ ap (λ es. es ++ picked last) e2 in
    ap (λ es. (HeaderItem, 1, 0) ∷ es)
    (flat_map-append pick (map table_candidate ts) (map section_candidate ps ++ last) ∙ ap (λ es. es ++ picked (map section_candidate ps ++ last)) e1 ∙ ap (λ es. flat_map table_entries ts ++ es) e3)

-- the candidates of the file
abbrev candidates : Ordered → List Candidate
candidates K = all_candidates (placed_tables K) (data_sections K) (map_place K)

-- no kind occurs twice among them
candidates_differ : (K : Ordered) → differ (map code_of (candidates K)) ≡ true
unfolding type_list_section annotation_section array_section string_section debug_section code_section class_data_section set_section ref_list_section directory_section
candidates_differ K = refl

-- the number of a table's candidate
abbrev table_number : Table → ℕ
table_number StringIds = 1
table_number TypeIds = 2
table_number ProtoIds = 3
table_number FieldIds = 4
table_number MethodIds = 5
table_number ClassDefs = 6

-- it is a number of a candidate
table_number_few : (K : Ordered) (t : Table) → table_number t < length (candidates K)
table_number_few K StringIds = omega arith
table_number_few _ _ = omega arith

-- the candidate is the table's
candidate_at : (K : Ordered) (t : Table) (d : Candidate) → get_or (candidates K) (table_number t) d ≡ (table_count K t == 0, (TableOf t, table_count K t, table_place K t))
candidate_at K StringIds d = refl
candidate_at _ _ d = refl

-- an entry is in the list in its other form
entry_there : (es : List (Section × ℕ × ℕ)) (e : Section × ℕ × ℕ) → Contains es e → Contains (map entry_of es) (entry_of e)
entry_there es e c = (c.0, omega (arith, c.1, length-map es entry_of), get_or-map entry_of es c.0 e (entry_of e) c.1 ∙ ap entry_of c.2)

-- ---- the map

-- the list of entries is valid for the file
record IsMap (b : List ℕ) (es : List MapEntry) : Type 0 where
  known : All IsKnown es
  once : AreDistinct (map (λ e. e.kind) es)
  rise : IsTrue (rises nat_cmp (map (λ e. e.off) es))
  header : (rest : List MapEntry) × (es ≡ record { kind = type_code HeaderItem; size = 1; off = 0 } ∷ rest)
  tables : (t : Table) → HasTable b es t
  itself : Contains es (record { kind = type_code MapList; size = 1; off = map_off b })
  others : All (IsPlaced b) es

module _ {K : Ordered} {b : List ℕ} (h : Laid K b) where
  -- all entries, in both forms
  forms : picked (candidates K) ≡ all_entries K
  forms = picked_is (placed_tables K) (data_sections K) (map_place K)

  -- the entry of a table, or none of its kind
  table_by : (t : Table) (empty : Bool) → (table_count K t == 0) ≡ empty → HasTable b (map entry_of (picked (candidates K))) t
  table_by t true is =
      let flag : (get_or (candidates K) (table_number t) (true, (TableOf t, 0, 0))).0 ≡ true = ap (λ (x : Candidate). x.0) (candidate_at K t (true, (TableOf t, 0, 0))) ∙ is in
      let none : All (λ e. type_code e.0 ≢ type_code (TableOf t)) (picked (candidates K)) =
      subst (λ (x : Candidate). All (λ e. type_code e.0 ≢ code_of x) (picked (candidates K))) (candidate_at K t (true, (TableOf t, 0, 0)))
      (left_out (candidates K) (table_number t) (true, (TableOf t, 0, 0)) (candidates_differ K) (table_number_few K t) flag) in
      inl (h.count t ∙ eqb-true (table_count K t) 0 is, All-map (λ e. e.kind ≢ type_code (TableOf t)) entry_of (picked (candidates K)) none)
  table_by t false is =
      let e : Section × ℕ × ℕ = (TableOf t, table_count K t, table_place K t) in
      let there : Contains (picked (candidates K)) e = picked_there (candidates K) (table_number t) e (table_number_few K t) (candidate_at K t (true, e) ∙ ap (λ c. (c, e)) is) in
      let entry : Contains (map entry_of (picked (candidates K))) (record { kind = type_code (TableOf t); size = table_count K t; off = table_place K t }) = entry_there (picked (candidates K)) e there in
      inr (
        λ none. eqb-false (table_count K t) 0 is (sym (h.count t) ∙ none),
        subst (λ n. Contains (map entry_of (picked (candidates K))) (record { kind = type_code (TableOf t); size = n; off = table_off b t })) (sym (h.count t))
            (subst (λ n. Contains (map entry_of (picked (candidates K))) (record { kind = type_code (TableOf t); size = table_count K t; off = n })) (sym (h.place t)) entry),
      )

  -- the map's own entry
  itself_there : Contains (map entry_of (picked (candidates K))) (record { kind = type_code MapList; size = 1; off = map_off b })
  itself_there =
      let e : Section × ℕ × ℕ = (MapList, 1, map_place K) in
      let there : Contains (picked (candidates K)) e = picked_there (candidates K) 17 e (omega arith) refl in
      subst (λ n. Contains (map entry_of (picked (candidates K))) (record { kind = type_code MapList; size = 1; off = n })) (sym h.map_from) (entry_there (picked (candidates K)) e there)

  -- each entry is the header's, a table's, or in the data
  all_placed : All (IsPlaced b) (map entry_of (all_entries K))
  all_placed =
      let P : Section × ℕ × ℕ → Type 0 = λ e. IsPlaced b (entry_of e) in
      let between = rises_between (data_start K) (of_data K) (map_place K + 1) (data_rises K) in
      All-map (IsPlaced b) entry_of (all_entries K)
      (All-cons P (HeaderItem, 1, 0) (of_tables K ++ of_data K) (inl (omega arith))
      (All-append P (of_tables K) (of_data K) (λ k d lt. inl (tables_are K header_length tables k d lt).kind)
      (λ k d lt. inr (omega (arith, h.data_from, (between k d lt).least), omega (arith, h.file, h.size, length-map_bytes (map_list K), (between k d lt).most)))))

  -- the entries of the file are valid
  all_right : IsMap b (map entry_of (all_entries K))
  all_right = record {
    known = All-map IsKnown entry_of (all_entries K) (λ k d lt. ((get_or (all_entries K) k d).0, refl));
    once = subst (λ es. AreDistinct (map (λ e. e.kind) (map entry_of es))) forms (picked_differ (candidates K) (candidates_differ K));
    rise = rises_strictly 0 (all_entries K) (map_place K + 1) (all_rise K);
    header = (map entry_of (of_tables K ++ of_data K), refl);
    tables = λ t. subst (λ es. HasTable b (map entry_of es) t) forms (table_by t (table_count K t == 0) refl);
    itself = subst (λ es. Contains (map entry_of es) (record { kind = type_code MapList; size = 1; off = map_off b })) forms itself_there;
    others = all_placed;
  }

  -- the number of entries
  map_size : uint_at b (map_off b) ≡ length (map_list K)
  map_size =
      let at : BytesAt b (map_off b) (map_bytes (map_list K)) = is_at (sym h.map_from) h.entries in
      uint_at-encodes (omega (arith, h.small, h.size, length-map_bytes (map_list K))) (is_at_here (uint (length (map_list K))) (flat_map map_entry_bytes (map_list K)) at)

  -- the entries that are read
  pub map_read : map_entries b ≡ map entry_of (map_list K)
  map_read =
      let at : BytesAt b (map_off b) (map_bytes (map_list K)) = is_at (sym h.map_from) h.entries in
      let small : All IsSmall (map_list K) = subst (All IsSmall) (sym (map_list_is K)) (all_small K (omega (arith, h.small, h.size))) in
      ap (entries_at b (map_off b + 4)) map_size
      ∙ entries_at-encodes (map_off b + 4) (map_list K) small (is_at_next (length (map_list K)) (flat_map map_entry_bytes (map_list K)) at)

  -- 10 Map
  pub laid_map : HasMap b
  laid_map =
      let right : IsMap b (map_entries b) = subst (IsMap b) (sym (map_read ∙ ap (map entry_of) (map_list_is K))) all_right in
      record {
        in_data = record { following = omega (arith, h.map_in_data.following, h.map_from); within = omega (arith, h.size, h.map_from, map_size, length-map_bytes (map_list K)) };
        aligned = ap (λ n. n % 4) (h.map_from ∙ map_place_is K) ∙ round_up_four (end (directory_section K));
        known = right.known;
        once = right.once;
        rise = right.rise;
        header = right.header;
        tables = right.tables;
        itself = right.itself;
        others = right.others;
      }
