-- The contents of the file of classes in order, by offset: `Laid`, which the laws on header, layout, map, rows and
-- items use.
use Rattle.dexspec.proofs.Common.{◌≡◌, ◌≢◌, ℕ, zero, suc, ◌+◌, ◌-◌, ◌*◌, ◌%◌, ◌^◌, ◌<◌, ◌≤◌, List, ◌∷◌, ◌++◌, length, get_or, drop, refl, sym, ap, subst, ◌∙◌, arith, slice_index, ◌==◌, Bool, true, false, if◌then◌else◌, flat_map, zip, length-append, length-drop, get_or-drop, cond-false, ne_eqb}
use Rattle.dexspec.specs.{zip_with, uint, BytesAt, round_up, padding, Text, Proto, Field, Method, Definition, Table, StringIds, TypeIds, ProtoIds, FieldIds, MethodIds, ClassDefs, header_length, row_size, table_size, table_off, file_size, header_size, endian_tag, link_size, link_off, map_off, data_size, data_off, Section, IsInData, row_at, text_index, Ordered, Placed, offsets, section_bytes, end, uses_offsets, table_count, data_start, proto_row_bytes, field_row_bytes, method_row_bytes, class_offsets, class_row_bytes, table_bytes, header_bytes, map_of, map_bytes, unsigned_file, with_sums, type_list_section, annotation_section, array_section, debug_section, code_section, class_data_section, set_section, ref_list_section, directory_section, data_sections, string_section}
use Rattle.dexspec.proofs.written.PlacedBytes.{is_at_in, is_at, is_at_row, is_at_whole}
use Rattle.dexspec.proofs.numbers.ByteNumbers.{length-uint, uint_at-encodes}
use Rattle.dexspec.proofs.layout.Sums.{with_sums_is_at, length-with_sums}
use Rattle.dexspec.proofs.layout.Places.{last_end, length-padding, items_are_at, items_within, length-sections, sections_are_at, sections_between}
use Rattle.dexspec.proofs.layout.Placements.{length-zip, sections_follow, sections_aligned, length-string_offsets, length-class_offsets, length-type_list_offsets, length-directory_offsets, length-class_data_offsets, length-array_offsets}
use Rattle.dexspec.proofs.layout.Tables.{is_at_next, is_at_here, is_at_end, is_at_zip_row, length-proto_row, length-field_row, length-method_row, length-class_row, rows_bytes, table_start, table_place, table_is_at, length-table_bytes, HeaderIsAt, header_is_at, length-header_bytes}

-- ---- the parts of the file

-- the offset of the map
unfoldable pub map_place : Ordered → ℕ
map_place K = round_up 4 (end (directory_section K))

-- the entries of the map
unfoldable pub map_list : Ordered → List (Section × ℕ × ℕ)
map_list K = map_of K (map_place K)

-- it is the map of the sections
pub map_list_named : (K : Ordered) → map_list K ≡ map_of K (map_place K)
unfolding map_list
map_list_named K = refl

-- the length of the file
abbrev pub file_length : Ordered → ℕ
file_length K = map_place K + length (map_bytes (map_list K))

-- the parts of the file, each at its offset
pub record Parts (b : List ℕ) (K : Ordered) : Type 0 where
  pub header : BytesAt b 32 (header_bytes K (map_place K) (file_length K))
  pub tables : BytesAt b header_length (table_bytes K)
  pub sections : BytesAt b (data_start K) (flat_map section_bytes (data_sections K))
  pub entries : BytesAt b (map_place K) (map_bytes (map_list K))
  pub size : length b ≡ file_length K

-- five parts after the sums, by their lengths
record Five (b h t s m : List ℕ) (from at : ℕ) : Type 0 where
  one : BytesAt b 32 h
  two : BytesAt b header_length t
  three : BytesAt b from s
  five : BytesAt b at m
  size : length b ≡ at + length m

-- they follow one another
five_parts : (h t s p m : List ℕ) (from to at : ℕ) → length h ≡ 80 → header_length + length t ≡ from → from + length s ≡ to → to + length p ≡ at
    → Five (with_sums (h ++ (t ++ (s ++ (p ++ m))))) h t s m from at
five_parts h t s p m from to at eh et es ep =
    let rest = h ++ (t ++ (s ++ (p ++ m))) in
    let b = with_sums rest in
    let h0 : BytesAt b 32 rest = is_at refl (with_sums_is_at (is_at_whole rest)) in
    let h1 : BytesAt b header_length (t ++ (s ++ (p ++ m))) = is_at_end h (t ++ (s ++ (p ++ m))) 80 eh h0 in
    let h2 : BytesAt b from (s ++ (p ++ m)) = is_at et (is_at_end t (s ++ (p ++ m)) (length t) refl h1) in
    let h3 : BytesAt b to (p ++ m) = is_at es (is_at_end s (p ++ m) (length s) refl h2) in
    let h4 : BytesAt b at m = is_at ep (is_at_end p m (length p) refl h3) in
    record {
      one = is_at_here h (t ++ (s ++ (p ++ m))) h0;
      two = is_at_here t (s ++ (p ++ m)) h1;
      three = is_at_here s (p ++ m) h2;
      five = h4;
      size = omega (arith, length-with_sums rest, length-append h (t ++ (s ++ (p ++ m))), length-append t (s ++ (p ++ m)), length-append s (p ++ m), length-append p m);
    }

-- the file consists of its parts
unsigned_is : (K : Ordered) → unsigned_file K ≡ header_bytes K (map_place K) (file_length K) ++ (table_bytes K ++ (flat_map section_bytes (data_sections K) ++ (padding 4 (end (directory_section K)) ++ map_bytes (map_list K))))
unfolding unsigned_file map_place map_list
unsigned_is K = refl

-- the map is after the sections
pub map_place_is : (K : Ordered) → map_place K ≡ round_up 4 (end (directory_section K))
unfolding map_place
map_place_is K = refl

-- each of them is at its offset
pub parts : (K : Ordered) → Parts (with_sums (unsigned_file K)) K
parts K =
    let h = five_parts (header_bytes K (map_place K) (file_length K)) (table_bytes K) (flat_map section_bytes (data_sections K)) (padding 4 (end (directory_section K))) (map_bytes (map_list K))
    (data_start K) (end (directory_section K)) (map_place K)
    (length-header_bytes K (map_place K) (file_length K)) (length-table_bytes K)
    (length-sections (data_start K) (data_sections K) (end (directory_section K)) (sections_follow K)) (length-padding 4 (end (directory_section K)) ∙ sym (map_place_is K)) in
    subst (λ rest. Parts (with_sums rest) K) (sym (unsigned_is K)) (record { header = h.one; tables = h.two; sections = h.three; entries = h.five; size = h.size })

-- ---- what is read from the file

-- an item: its bytes at an offset in the data, at a multiple of the alignment
pub record ItemIsAt (b : List ℕ) (align o : ℕ) (x : List ℕ) : Type 0 where
  pub encodes : BytesAt b o x
  pub in_data : IsInData b o (length x)
  pub multiple : o % align ≡ 0
  pub some : o ≢ 0

-- each item of a section is at its offset
abbrev pub SectionIsAt : List ℕ → Placed → Type 0
SectionIsAt b p = (i : ℕ) (d : List ℕ) → i < length p.items → ItemIsAt b p.align (slice_index (offsets p) i) (get_or p.items i d)

-- the offsets in a class's row
abbrev pub class_places : Ordered → ℕ → ℕ × ℕ × ℕ × ℕ
class_places K r = (
  slice_index (uses_offsets (type_list_section K)) (length K.pools.protos + r),
  slice_index (uses_offsets (directory_section K)) r,
  slice_index (uses_offsets (class_data_section K)) r,
  slice_index (uses_offsets (array_section K)) r,
)

-- The contents of b, the file of K: the header's fields as they are read, each row, each item of each section, and the
-- map.
pub record Laid (K : Ordered) (b : List ℕ) : Type 0 where
  pub small : length b < 2 ^ 32
  pub size : length b ≡ file_length K
  pub file : file_size b ≡ length b
  pub own : header_size b ≡ header_length
  pub endian : endian_tag b ≡ 0x12345678
  pub no_link_bytes : link_size b ≡ 0
  pub no_link_place : link_off b ≡ 0
  pub map_from : map_off b ≡ map_place K
  pub count : (t : Table) → table_size b t ≡ table_count K t
  pub place : (t : Table) → table_off b t ≡ table_place K t
  pub begins : (t : Table) → 0 < table_count K t → table_off b t ≡ table_start K t
  pub data_from : data_off b ≡ data_start K
  pub data_to : data_off b + data_size b ≡ length b
  pub string_row : (i : ℕ) → i < length K.pools.texts → BytesAt b (row_at b StringIds i) (uint (slice_index (offsets (string_section K)) i))
  pub type_row : (i : ℕ) (d : Text) → i < length K.pools.types → BytesAt b (row_at b TypeIds i) (uint (text_index K.pools (get_or K.pools.types i d)))
  pub proto_row : (i : ℕ) (d : Proto) → i < length K.pools.protos → BytesAt b (row_at b ProtoIds i) (proto_row_bytes K.pools (get_or K.pools.protos i d) (slice_index (uses_offsets (type_list_section K)) i))
  pub field_row : (i : ℕ) (d : Field) → i < length K.pools.fields → BytesAt b (row_at b FieldIds i) (field_row_bytes K.pools (get_or K.pools.fields i d))
  pub method_row : (i : ℕ) (d : Method) → i < length K.pools.methods → BytesAt b (row_at b MethodIds i) (method_row_bytes K.pools (get_or K.pools.methods i d))
  pub class_row : (r : ℕ) (d : Definition) → r < length K.classes → BytesAt b (row_at b ClassDefs r) (class_row_bytes K.pools (get_or K.classes r d) (class_places K r))
  pub type_lists : SectionIsAt b (type_list_section K)
  pub annotations : SectionIsAt b (annotation_section K)
  pub arrays : SectionIsAt b (array_section K)
  pub strings : SectionIsAt b (string_section K)
  pub debugs : SectionIsAt b (debug_section K)
  pub codes : SectionIsAt b (code_section K)
  pub class_data : SectionIsAt b (class_data_section K)
  pub sets : SectionIsAt b (set_section K)
  pub ref_lists : SectionIsAt b (ref_list_section K)
  pub directories : SectionIsAt b (directory_section K)
  pub entries : BytesAt b (map_place K) (map_bytes (map_list K))
  pub map_in_data : IsInData b (map_place K) (length (map_bytes (map_list K)))

-- an element of two lists that are combined
pub get_or-zip_with : {X Y Z : Type 0} (f : X → Y → Z) (xs : List X) (ys : List Y) (i : ℕ) (d : X) (e : Y) (z : Z) → i < length xs → i < length ys → get_or (zip_with f xs ys) i z ≡ f (get_or xs i d) (get_or ys i e)
get_or-zip_with f (x ∷ xs) (y ∷ ys) zero d e z lt le = refl
get_or-zip_with f (x ∷ xs) (y ∷ ys) (suc i) d e z lt le = get_or-zip_with f xs ys i d e z (omega arith) (omega arith)
get_or-zip_with f _ _ i d e z lt le = absurd (omega arith)

-- an element of two lists as pairs
pub get_or-zip : {X Y : Type 0} (xs : List X) (ys : List Y) (i : ℕ) (d : X) (e : Y) → i < length xs → i < length ys → get_or (zip xs ys) i (d, e) ≡ (get_or xs i d, get_or ys i e)
get_or-zip (x ∷ xs) (y ∷ ys) zero d e lt le = refl
get_or-zip (x ∷ xs) (y ∷ ys) (suc i) d e lt le = get_or-zip xs ys i d e (omega arith) (omega arith)
get_or-zip _ _ i d e lt le = absurd (omega arith)

-- the offsets of a class
pub class_at : (K : Ordered) (r : ℕ) (e : ℕ × ℕ × ℕ × ℕ) → r < length K.classes → get_or (class_offsets K) r e ≡ class_places K r
class_at K r e lt =
    let n = length K.pools.protos in
    let lists = uses_offsets (type_list_section K) in
    let is = drop n lists in
    let bs = uses_offsets (directory_section K) in
    let cs = uses_offsets (class_data_section K) in
    let ds = uses_offsets (array_section K) in
    let ea : length is ≡ length K.classes = length-drop n lists ∙ omega (arith, length-type_list_offsets K) in
    let eab : length (zip is bs) ≡ length K.classes = length-zip is bs (length K.classes) ea (length-directory_offsets K) in
    let ecd : length (zip cs ds) ≡ length K.classes = length-zip cs ds (length K.classes) (length-class_data_offsets K) (length-array_offsets K) in
    let la : r < length is = omega (arith, lt, ea) in
    let lb : r < length bs = omega (arith, lt, length-directory_offsets K) in
    let lc : r < length cs = omega (arith, lt, length-class_data_offsets K) in
    let ld : r < length ds = omega (arith, lt, length-array_offsets K) in
    let lab : r < length (zip is bs) = omega (arith, lt, eab) in
    let lcd : r < length (zip cs ds) = omega (arith, lt, ecd) in
    let f : ℕ × ℕ → ℕ × ℕ → ℕ × ℕ × ℕ × ℕ = λ p q. (p.0, p.1, q.0, q.1) in
    get_or-zip_with f (zip is bs) (zip cs ds) r (0, 0) (0, 0) e lab lcd
    ∙ ap (λ p. f p (get_or (zip cs ds) r (0, 0))) (get_or-zip is bs r 0 0 la lb)
    ∙ ap (f (get_or is r 0, get_or bs r 0)) (get_or-zip cs ds r 0 0 lc ld)
    ∙ ap (λ o. f (o, get_or bs r 0) (get_or cs r 0, get_or ds r 0)) (get_or-drop n lists r 0)

-- a table ends before the data
table_within : (K : Ordered) (t : Table) → table_start K t + row_size t * table_count K t ≤ data_start K
table_within K StringIds = omega arith
table_within _ _ = omega arith

-- a table has at most as many rows as bytes
pub table_few : (K : Ordered) (t : Table) → table_count K t ≤ data_start K
table_few K StringIds = omega arith
table_few _ _ = omega arith

-- zero, or the number
unless_zero : (c : Bool) (n m : ℕ) → n ≤ m → (if c then 0 else n) ≤ m
unless_zero true n m le = omega arith
unless_zero false n m le = le

-- a number that is not 0
not_zero : (c n : ℕ) → 0 < c → (if c == 0 then 0 else n) ≡ n
not_zero c n lt = cond-false (c == 0) 0 n (ne_eqb c 0 (λ e. omega (arith, e)))

-- the sections end before the map
sections_before_map : (K : Ordered) → end (directory_section K) ≤ map_place K
sections_before_map K = omega (arith, length-padding 4 (end (directory_section K)), map_place_is K)

-- the data begins before the map
pub data_before_map : (K : Ordered) → data_start K ≤ map_place K
data_before_map K = omega (arith, sections_before_map K, last_end (data_start K) (data_sections K) (end (directory_section K)) (sections_follow K))

module _ (K : Ordered) (b : List ℕ) (p : Parts b K) (small : length b < 2 ^ 32) where
  -- the data begins before the end of the file
  starts : data_start K ≤ file_length K
  starts = omega (arith, data_before_map K)

  -- the header's fields
  fields : HeaderIsAt b K (map_place K) (file_length K)
  fields = header_is_at K (map_place K) (file_length K) p.header

  data_from_is : data_off b ≡ data_start K
  data_from_is = uint_at-encodes (omega (arith, starts, p.size)) fields.data_place

  -- the size of the data
  data_bytes_is : data_size b ≡ file_length K - data_start K
  data_bytes_is = uint_at-encodes (omega (arith, p.size)) fields.data_bytes

  -- sizes and offsets of tables
  count_is : (t : Table) → table_size b t ≡ table_count K t
  count_is t = uint_at-encodes (omega (arith, table_few K t, starts, p.size)) (is_at_here (uint (table_count K t)) (uint (table_place K t)) (fields.table t))

  -- the offset of a table in the header
  place_is : (t : Table) → table_off b t ≡ table_place K t
  place_is t =
      let le : table_place K t ≤ data_start K = unless_zero (table_count K t == 0) (table_start K t) (data_start K) (omega (arith, table_within K t)) in
      uint_at-encodes (omega (arith, le, starts, p.size)) (is_at_next (table_count K t) (uint (table_place K t)) (fields.table t))

  -- the offset of a table that has rows
  begins_at : (t : Table) → 0 < table_count K t → table_off b t ≡ table_start K t
  begins_at t lt = place_is t ∙ not_zero (table_count K t) (table_start K t) lt

  -- the rows of a table
  rows : (t : Table) → BytesAt b (table_start K t) (rows_bytes K t)
  rows = table_is_at K p.tables

  -- a row of it
  row : {x : List ℕ} (t : Table) (i : ℕ) → i < table_count K t → BytesAt (rows_bytes K t) (row_size t * i) x → BytesAt b (row_at b t i) x
  row t i lt h = is_at (ap (λ n. n + row_size t * i) (sym (begins_at t (omega arith)))) (is_at_in (rows t) h)

  -- a section's items
  section : (j : ℕ) (d : Placed) → j < length (data_sections K) → SectionIsAt b (get_or (data_sections K) j d)
  section j d lt i e le =
      let q = get_or (data_sections K) j d in
      let at : BytesAt b q.from (section_bytes q) = sections_are_at (data_start K) (data_sections K) (end (directory_section K)) j d (sections_follow K) p.sections lt in
      let between = sections_between (data_start K) (data_sections K) (end (directory_section K)) j d (sections_follow K) lt in
      let within = items_within q.align q.from q.items i e (sections_aligned K j d lt) le in
      record {
        encodes = items_are_at q.align q.from q.items i e at le;
        in_data = record { following = omega (arith, data_from_is, between.0, within.following); within = omega (arith, between.1, within.before, sections_before_map K, p.size) };
        multiple = within.multiple;
        some = λ none. omega (arith, none, between.0, within.following);
      }

  -- all of the contents
  pub laid_parts : Laid K b
  laid_parts = record {
    small = small;
    size = p.size;
    file = uint_at-encodes (omega (arith, p.size)) fields.file ∙ sym p.size;
    own = uint_at-encodes (omega arith) fields.own;
    endian = uint_at-encodes (omega arith) fields.endian;
    no_link_bytes = uint_at-encodes (omega arith) fields.link_bytes;
    no_link_place = uint_at-encodes (omega arith) fields.link_place;
    map_from = uint_at-encodes (omega (arith, p.size)) fields.map_list;
    count = count_is;
    place = place_is;
    begins = begins_at;
    data_from = data_from_is;
    data_to = omega (arith, data_from_is, data_bytes_is, starts, p.size);
    string_row = λ i lt. row StringIds i lt (is_at_row uint 4 length-uint (offsets (string_section K)) i 0 (omega (arith, lt, length-string_offsets K)));
    type_row = λ i d lt. row TypeIds i lt (is_at_row (λ t. uint (text_index K.pools t)) 4 (λ t. length-uint (text_index K.pools t)) K.pools.types i d lt);
    proto_row = λ i d lt. row ProtoIds i lt
        (is_at_zip_row (proto_row_bytes K.pools) 12 (length-proto_row K.pools) K.pools.protos (uses_offsets (type_list_section K)) i d 0 lt (omega (arith, length-type_list_offsets K)));
    field_row = λ i d lt. row FieldIds i lt (is_at_row (field_row_bytes K.pools) 8 (length-field_row K.pools) K.pools.fields i d lt);
    method_row = λ i d lt. row MethodIds i lt (is_at_row (method_row_bytes K.pools) 8 (length-method_row K.pools) K.pools.methods i d lt);
    class_row = λ r d lt.
        subst (λ offs. BytesAt b (row_at b ClassDefs r) (class_row_bytes K.pools (get_or K.classes r d) offs)) (class_at K r (class_places K r) lt)
        (row ClassDefs r lt (is_at_zip_row (class_row_bytes K.pools) 32 (length-class_row K.pools) K.classes (class_offsets K) r d (class_places K r) lt (omega (arith, length-class_offsets K))));
    type_lists = section 0 (type_list_section K) (omega arith);
    annotations = section 1 (type_list_section K) (omega arith);
    arrays = section 2 (type_list_section K) (omega arith);
    strings = section 3 (type_list_section K) (omega arith);
    debugs = section 4 (type_list_section K) (omega arith);
    codes = section 5 (type_list_section K) (omega arith);
    class_data = section 6 (type_list_section K) (omega arith);
    sets = section 7 (type_list_section K) (omega arith);
    ref_lists = section 8 (type_list_section K) (omega arith);
    directories = section 9 (type_list_section K) (omega arith);
    entries = p.entries;
    map_in_data = record { following = omega (arith, data_from_is, data_before_map K); within = omega (arith, p.size) };
  }

-- the file of classes in order has these contents, if it is not too long
pub laid : (K : Ordered) → length (with_sums (unsigned_file K)) < 2 ^ 32 → Laid K (with_sums (unsigned_file K))
laid K small = laid_parts K (with_sums (unsigned_file K)) (parts K) small
