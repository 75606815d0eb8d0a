-- The file of a program's classes: its tables and map from their parts, and its length.
use Rattle.dexlayout.proofs.Common.{◌≡◌, ℕ, ◌+◌, ◌*◌, ◌≤◌, List, [], ◌∷◌, ◌++◌, length, map, refl, ap, ◌∙◌, arith, flat_map, ◌==◌, slice_index, length-map, round_up, Table, Mentions, Section, HeaderItem, TableOf, MapList, TypeLists, AnnotationItems, EncodedArrayItems, StringDataItems, DebugInfoItems, CodeItems, ClassDataItems, AnnotationSets, AnnotationSetRefLists, AnnotationsDirectories, Ordered, Placed, offsets, offsets_from, end, placed_tables, data_sections, map_of, data_start, type_list_section, annotation_section, array_section, string_section, debug_section, code_section, class_data_section, set_section, ref_list_section, directory_section, NumberedClass, definition_of, sym, subst, drop, padding, HasSize, Collection, definitions, mentions, Caps, greatest_caps, AreCaps, Fits, IsGood, AreWellFormed, EqualOnce, map_bytes, unsigned_file, with_sums, ordered, canonical, set_offsets, data_before_map, map_place, map_place_is, map_list_named, parts, StatesLayout, map_start, map_list, entry_meant, IsNumbering, AreWritable, ordered_of, entry_of, table_parts, section_parts, SetPlaces, file_end, AreLaidIn, AreLaidSo, AreEncodedIn, AreSharedAt, AreSharedItemsOf, AreSets, HaveOwnBytes, IsLaid, IsMap, AreItemsIn, AreKeptIn, placed_map, whole_map, if◌then◌else◌}
use Rattle.dexhead.specs.declared.map_list.MapEntry.{MapEntry}
use Rattle.dexclass.specs.Programs.{AreClassesOf}
use Rattle.dexlayout.specs.Places.{Places}
use Rattle.dexlayout.proofs.Ends.{end_in_file, map_start_is}
use Rattle.dexlayout.proofs.DebugsApart.{debugs_apart}

-- the rows of all tables fit the file
pub rows_few : (m : Mentions) (cs : List NumberedClass) → AreWritable m cs → 112 + 4 * length m.texts + 4 * length m.types + 12 * length m.protos + 8 * length m.fields + 8 * length m.methods + 32 * length cs ≤ 1073741824
rows_few m cs w = omega (arith, (end_in_file (ordered_of m cs) w.fits).tables, length-map cs (definition_of m))

-- ten of each, one by one
pub ten_same : {X : Type 0} (a b c d e f g h j k a' b' c' d' e' f' g' h' j' k' : X) → a ≡ a' → b ≡ b' → c ≡ c' → d ≡ d' → e ≡ e' → f ≡ f' → g ≡ g' → h ≡ h' → j ≡ j' → k ≡ k' → a ∷ b ∷ c ∷ d ∷ e ∷ f ∷ g ∷ h ∷ j ∷ k ∷ [] ≡ a' ∷ b' ∷ c' ∷ d' ∷ e' ∷ f' ∷ g' ∷ h' ∷ j' ∷ k' ∷ []
ten_same a b c d e f g h j k a' b' c' d' e' f' g' h' j' k' ea eb ec ed ee ef eg eh ej ek = cc

-- entries of parts, as the map has them
entries_mapped : {X : Type 0} (part : X → Section × ℕ × ℕ) (entries : X → List (Section × ℕ × ℕ)) → ((x : X) → entry_of (part x) ≡ entries x) → (xs : List X) → flat_map entry_of (map part xs) ≡ flat_map entries xs
entries_mapped part entries each [] = refl
entries_mapped part entries each (x ∷ xs) = ap (λ es. es ++ flat_map entry_of (map part xs)) (each x) ∙ ap (λ es. entries x ++ es) (entries_mapped part entries each xs)

-- the offset of the first item, if there is one
first_encoded : (kind : Section) (align from : ℕ) (items : List (List ℕ)) → entry_of (kind, length items, round_up align from) ≡ (if length items == 0 then [] else (kind, length items, slice_index (offsets_from align from items) 0) ∷ [])
first_encoded kind align from [] = refl
first_encoded kind align from (x ∷ xs) = refl

-- the map by its parts
pub map_parts : (K : Ordered) (map_off : ℕ) → (HeaderItem, 1, 0) ∷ (flat_map entry_of (table_parts K) ++ (flat_map entry_of (section_parts K) ++ (MapList, 1, map_off) ∷ [])) ≡ map_of K map_off
map_parts K map_off =
    let tables : Table × ℕ × ℕ → List (Section × ℕ × ℕ) = λ t. if t.1 == 0 then [] else (TableOf t.0, t.1, t.2) ∷ [] in
    let sections : Placed → List (Section × ℕ × ℕ) = λ p. if length p.items == 0 then [] else (p.kind, length p.items, slice_index (offsets p) 0) ∷ [] in
    ap (λ es. (HeaderItem, 1, 0) ∷ (es ++ (flat_map entry_of (section_parts K) ++ (MapList, 1, map_off) ∷ []))) (entries_mapped (λ t. (TableOf t.0, t.1, t.2)) tables (λ t. refl) (placed_tables K))
    ∙ ap (λ es. (HeaderItem, 1, 0) ∷ (flat_map tables (placed_tables K) ++ (es ++ (MapList, 1, map_off) ∷ [])))
    (entries_mapped (λ p. (p.kind, length p.items, round_up p.align p.from)) sections (λ p. first_encoded p.kind p.align p.from p.items) (data_sections K))

-- the sections as parts of the map, by kind
abbrev pub named_parts : Ordered → List (Section × ℕ × ℕ)
named_parts K =
    (TypeLists, length (type_list_section K).items, round_up 4 (data_start K))
    ∷ (AnnotationItems, length (annotation_section K).items, round_up 1 (end (type_list_section K)))
    ∷ (EncodedArrayItems, length (array_section K).items, round_up 1 (end (annotation_section K)))
    ∷ (StringDataItems, length (string_section K).items, round_up 1 (end (array_section K)))
    ∷ (DebugInfoItems, length (debug_section K).items, round_up 1 (end (string_section K)))
    ∷ (CodeItems, length (code_section K).items, round_up 4 (end (debug_section K)))
    ∷ (ClassDataItems, length (class_data_section K).items, round_up 1 (end (code_section K)))
    ∷ (AnnotationSets, length (set_section K).items, round_up 4 (end (class_data_section K)))
    ∷ (AnnotationSetRefLists, length (ref_list_section K).items, round_up 4 (end (set_section K)))
    ∷ (AnnotationsDirectories, length (directory_section K).items, round_up 4 (end (ref_list_section K))) ∷ []

-- they are those of the sections
pub named_parts_are : (K : Ordered) → named_parts K ≡ section_parts K
unfolding type_list_section annotation_section array_section string_section debug_section code_section class_data_section set_section ref_list_section directory_section
named_parts_are K = refl

-- ---- the length of the file

-- where the map begins, by two names
places_same : (K : Ordered) → map_place K ≡ map_start K
places_same K = map_place_is K ∙ sym (map_start_is K)

-- the file ends at `file_end`
length_file : (K : Ordered) → length (with_sums (unsigned_file K)) ≡ file_end K
length_file K = (parts K).size ∙ ap (λ n. n + length (map_bytes (Rattle.dexspec.proofs.layout.SectionPlaces.map_list K))) (places_same K) ∙ ap (λ n. map_start K + n) (ap (λ es. length (map_bytes es)) (map_list_named K ∙ ap (map_of K) (places_same K)))

-- and so does a canonical file
pub length_canonical : (C : Collection) → length (canonical C) ≡ file_end (ordered (definitions C))
unfolding canonical
length_canonical C = length_file (ordered (definitions C))

-- ---- a program's classes

-- in order they are those of the canonical file
pub ordered_is : (C : Collection) (cs : List NumberedClass) → AreClassesOf C cs → ordered_of (mentions (definitions C)) cs ≡ ordered (definitions C)
ordered_is C cs of = ap (λ ds. record { classes = ds; pools = mentions (definitions C); sharing = EqualOnce }) of.are

-- the greatest caps are caps
greatest_are : AreCaps greatest_caps
greatest_are = record { types = omega arith; protos = omega arith; fields = omega arith; methods = omega arith; short_strings = omega arith; weight = omega arith }

-- what is good can be written
pub writable : (C : Collection) (cs : List NumberedClass) → IsNumbering (mentions (definitions C)) → IsGood greatest_caps (definitions C) → AreWellFormed (definitions C)
    → ((caps : Caps) (D : Collection) → AreCaps caps → Fits caps (definitions D) → HasSize (canonical D)) → AreClassesOf C cs → AreWritable (mentions (definitions C)) cs
writable C cs numbering good formed law of = record {
  numbering = numbering;
  known = of.known;
  types_few = good.fits.types;
  protos_few = good.fits.protos;
  debugs_apart = subst HaveOwnBytes (sym (ordered_is C cs of)) (debugs_apart C good formed);
  fits = omega (arith, (law greatest_caps C greatest_are good.fits).most, length_canonical C, ap file_end (ordered_is C cs of));
}

-- ---- classes of the same definitions have the same layout

module _ (m : Mentions) (cs ds : List NumberedClass) (e : ordered_of m cs ≡ ordered_of m ds) where
  sets_same : {p : SetPlaces} → AreSets m cs p → AreSets m ds p
  sets_same {p} h = record {
    own_are = h.own_are ∙ ap (λ (K : Ordered). map (λ s. s.own) (set_offsets K)) e;
    fields_are = h.fields_are ∙ ap (λ (K : Ordered). flat_map (λ s. s.fields) (set_offsets K)) e;
    methods_are = h.methods_are ∙ ap (λ (K : Ordered). flat_map (λ s. map (λ os. slice_index os 0) s.methods) (set_offsets K)) e;
    parameters_are = h.parameters_are ∙ ap (λ (K : Ordered). flat_map (λ s. flat_map (drop 1) s.methods) (set_offsets K)) e;
    written_are = subst (λ (K : Ordered). AreItemsIn (set_section K) p.written) e h.written_are;
  }

  pub laid_same : {p : Places} → IsLaid m cs p → IsLaid m ds p
  laid_same {p} h = record {
    head_states = subst (StatesLayout p.head) e h.head_states;
    signature_length = h.signature_length;
    type_lists_are = subst (λ (K : Ordered). AreSharedAt (type_list_section K) p.type_lists) e h.type_lists_are;
    annotations_are = subst (λ (K : Ordered). AreItemsIn (annotation_section K) p.annotations) e h.annotations_are;
    static_values_are = subst (λ (K : Ordered). AreEncodedIn (array_section K) p.static_values) e h.static_values_are;
    strings_are = subst (λ (K : Ordered). AreLaidSo (offsets (string_section K)) (end (string_section K)) p.strings) e h.strings_are;
    debugs_are = subst (λ (K : Ordered). AreSharedItemsOf (debug_section K) p.debugs) e h.debugs_are;
    codes_are = subst (λ (K : Ordered). AreKeptIn (code_section K) p.codes) e h.codes_are;
    class_data_are = subst (λ (K : Ordered). AreEncodedIn (class_data_section K) p.class_data) e h.class_data_are;
    sets_are = sets_same h.sets_are;
    ref_lists_are = subst (λ (K : Ordered). AreLaidIn (ref_list_section K) p.ref_lists) e h.ref_lists_are;
    directories_are = subst (λ (K : Ordered). AreEncodedIn (directory_section K) p.directories) e h.directories_are;
    map_is = record {
      bytes_are = h.map_is.bytes_are ∙ ap (λ (K : Ordered). padding 4 (end (directory_section K)) ++ map_list K) e;
      places_are = subst (λ (K : Ordered). AreLaidSo (map_start K ∷ []) (file_end K) p.map.places) e h.map_is.places_are;
    };
  }

-- the data begin before the map
pub data_before : (K : Ordered) → data_start K ≤ map_start K
data_before K = omega (arith, data_before_map K, places_same K)

-- ---- the map

-- the entries of the parts are the map
entries_same : (K : Ordered) (off : ℕ) (tables sections : List (Section × ℕ × ℕ)) → tables ≡ table_parts K → sections ≡ section_parts K → off ≡ map_start K → (HeaderItem, 1, 0) ∷ (flat_map entry_of tables ++ (flat_map entry_of sections ++ (MapList, 1, off) ∷ [])) ≡ map_of K (map_start K)
entries_same K off tables sections et es eo =
    ap (λ ts. (HeaderItem, 1, 0) ∷ (flat_map entry_of ts ++ (flat_map entry_of sections ++ (MapList, 1, off) ∷ []))) et
    ∙ ap (λ ss. (HeaderItem, 1, 0) ∷ (flat_map entry_of (table_parts K) ++ (flat_map entry_of ss ++ (MapList, 1, off) ∷ []))) es
    ∙ map_parts K off ∙ ap (map_of K) eo

-- after the sections they are laid out as it is
pub map_laid : (m : Mentions) (cs : List NumberedClass) (tables sections : List MapEntry) (from : ℕ) → map entry_meant tables ≡ table_parts (ordered_of m cs) → map entry_meant sections ≡ section_parts (ordered_of m cs)
    → from ≡ end (directory_section (ordered_of m cs)) → IsMap m cs (placed_map tables sections from)
map_laid m cs tables sections from et es is =
    let K = ordered_of m cs in
    let off : round_up 4 from ≡ map_start K = ap (round_up 4) is ∙ sym (map_start_is K) in
    let list : map_bytes (whole_map tables sections (round_up 4 from)) ≡ map_list K = ap map_bytes (entries_same K (round_up 4 from) (map entry_meant tables) (map entry_meant sections) et es off) in
    record {
      bytes_are = ap (λ n. padding 4 n ++ map_bytes (whole_map tables sections (round_up 4 from))) is ∙ ap (λ l. padding 4 (end (directory_section K)) ++ l) list;
      places_are = record { offsets_are = ap (λ n. n ∷ []) off; end_is = ap (λ n. n + length (map_bytes (whole_map tables sections (round_up 4 from)))) off ∙ ap (λ (l : List ℕ). map_start K + length l) list };
    }
