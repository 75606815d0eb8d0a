-- What follows the header, how long a whole file is, and its sums.
use Rattle.dexcanon.proofs.Common.{◌≡◌, suc, ◌<◌, ◌≤◌, ◌^◌, List, [], ◌∷◌, length, refl, ap, arith, zip_with, Mentions, uses_offsets, proto_row_bytes, type_list_section, length-type_list_offsets, NumberedClass, ordered_of, AreWritable, ℕ, ◌+◌, ◌++◌, sym, subst, ◌∙◌, flat_map, length-append, round_up, padding, Collection, definitions, header_length, mentions, Ordered, section_bytes, end, table_bytes, data_start, data_sections, directory_section, unsigned_file, with_sums, ordered, canonical, sections_follow, length-table_bytes, map_list, after_header, Places, IsLaid, file_end, drop, drop_at, drop-drop, drop-append-add, sha1, uint, adler_32, magic, length-uint, Head, with_sums_set, field_bytes, head_bytes, take_at, take, header_bytes, length-header_bytes, StatesLayout, StatesTables, IsReady}
use Rattle.dexlayout.proofs.Ends.{end_in_file}
use Rattle.dexspec.proofs.layout.Places.{length-padding, length-sections}

-- two lists that are zipped, of which the second is no shorter
length-zip_with_long : {X Y Z : Type 0} (f : X → Y → Z) (xs : List X) (ys : List Y) → length xs ≤ length ys → length (zip_with f xs ys) ≡ length xs
length-zip_with_long f [] ys enough = refl
length-zip_with_long f (x ∷ xs) [] enough = absurd (omega (arith, enough))
length-zip_with_long f (x ∷ xs) (y ∷ ys) enough = ap suc (length-zip_with_long f xs ys (omega (arith, enough)))

module _ (m : Mentions) (cs : List NumberedClass) where
  -- there is a row for each proto
  pub count_proto_rows : length (zip_with (proto_row_bytes m) m.protos (uses_offsets (type_list_section (ordered_of m cs)))) ≡ length m.protos
  count_proto_rows = length-zip_with_long (proto_row_bytes m) m.protos (uses_offsets (type_list_section (ordered_of m cs))) (omega (arith, length-type_list_offsets (ordered_of m cs)))

  -- there are not too many texts and types
  pub texts_few : AreWritable m cs → length m.texts < 2 ^ 32
  texts_few w = omega (arith, (end_in_file (ordered_of m cs) w.fits).tables)

-- ---- how long a whole file is

-- the header and what follows it, where the map is m
length_named : (K : Ordered) (m : List ℕ) → header_length + length (table_bytes K ++ (flat_map section_bytes (data_sections K) ++ (padding 4 (end (directory_section K)) ++ m))) ≡ round_up 4 (end (directory_section K)) + length m
length_named K m =
    let s = flat_map section_bytes (data_sections K) in
    let p = padding 4 (end (directory_section K)) in
    omega (arith, length-append (table_bytes K) (s ++ (p ++ m)), length-append s (p ++ m), length-append p m, length-table_bytes K, length-sections (data_start K) (data_sections K) (end (directory_section K)) (sections_follow K), length-padding 4 (end (directory_section K)))

-- the header and what follows it reach to the end of the file
pub length_after : (K : Ordered) → header_length + length (after_header K) ≡ file_end K
length_after K = length_named K (map_list K)

-- the file can be made
pub ready : {m M : Mentions} {cs : List NumberedClass} {p : Places} → m ≡ M → AreWritable M cs → IsLaid M cs p → IsReady m cs p
ready {cs = cs} {p = p} same writable laid = subst (λ n. IsReady n cs p) (sym same) (record { writable = writable; laid = laid })

-- the file of the numbers is that of the program
pub canonical_is : (K : Collection) (m : Mentions) (cs : List NumberedClass) → m ≡ mentions (definitions K) → ordered_of (mentions (definitions K)) cs ≡ ordered (definitions K) → with_sums (unsigned_file (ordered_of m cs)) ≡ canonical K
unfolding canonical
canonical_is K m cs same is = ap (λ n. with_sums (unsigned_file (ordered_of n cs))) same ∙ ap (λ O. with_sums (unsigned_file O)) is

-- ---- a header with its two sums, and what follows it

-- the part of a header after its checksum
pub after_checksum : (h : Head) → drop 12 (head_bytes h) ≡ h.signature ++ field_bytes h
unfolding head_bytes
after_checksum h = drop-append-add magic (uint h.checksum ++ (h.signature ++ field_bytes h)) 4 ∙ drop_at (uint h.checksum) (h.signature ++ field_bytes h) 4 (length-uint h.checksum)

-- the part of a header after its signature
pub after_signature : (h : Head) → length h.signature ≡ 20 → drop 32 (head_bytes h) ≡ field_bytes h
after_signature h twenty = sym (drop-drop 20 12 (head_bytes h)) ∙ ap (drop 20) (after_checksum h) ∙ drop_at h.signature (field_bytes h) 20 twenty

-- a header with the sums of what another describes, with all that follows
pub stated_is : (h l : Head) (body : List ℕ) → length l.signature ≡ 20 → field_bytes h ≡ field_bytes l → h.signature ≡ sha1 (field_bytes l ++ body) → h.checksum ≡ adler_32 (h.signature ++ (field_bytes l ++ body))
    → ((k : Head) (rest : List ℕ) → k.signature ≡ sha1 (field_bytes k ++ rest) → k.checksum ≡ adler_32 (k.signature ++ (field_bytes k ++ rest)) → head_bytes k ++ rest ≡ with_sums (field_bytes k ++ rest))
    → ((k : Head) (rest : List ℕ) → length k.signature ≡ 20 → with_sums_set (head_bytes k ++ rest) ≡ with_sums (field_bytes k ++ rest))
    → head_bytes h ++ body ≡ with_sums_set (head_bytes l ++ body)
stated_is h l body twenty same s n reported set =
    reported h body (s ∙ ap (λ f. sha1 (f ++ body)) (sym same)) (n ∙ ap (λ f. adler_32 (h.signature ++ (f ++ body))) (sym same))
    ∙ ap (λ f. with_sums (f ++ body)) same ∙ sym (set l body twenty)

-- ---- a header with the two sums of its file

-- how many bytes the signature is of
pub length_signed : (l : Head) (K : Ordered) → length l.signature ≡ 20 → StatesLayout l K → ((h : Head) (O : Ordered) → StatesTables h O → field_bytes h ≡ header_bytes O h.map_off h.file_size) → l.file_size ≡ 32 + length (drop 32 (head_bytes l) ++ after_header K)
length_signed l K twenty reports law =
    omega (arith, ap (λ (z : List ℕ). length z) (after_signature l twenty ∙ law l K reports.tables) ∙ length-header_bytes K l.map_off l.file_size, reports.file_ends, length_after K, length-append (drop 32 (head_bytes l)) (after_header K))

-- a header with the sums of what another describes is that of the file
pub summed : (h l : Head) (K : Ordered) → length l.signature ≡ 20 → StatesLayout l K → field_bytes h ≡ field_bytes l → h.signature ≡ sha1 (drop 32 (head_bytes l) ++ after_header K) → h.checksum ≡ adler_32 (h.signature ++ (drop 32 (head_bytes l) ++ after_header K))
    → ((k : Head) (rest : List ℕ) → k.signature ≡ sha1 (field_bytes k ++ rest) → k.checksum ≡ adler_32 (k.signature ++ (field_bytes k ++ rest)) → head_bytes k ++ rest ≡ with_sums (field_bytes k ++ rest))
    → ((k : Head) (rest : List ℕ) → length k.signature ≡ 20 → with_sums_set (head_bytes k ++ rest) ≡ with_sums (field_bytes k ++ rest))
    → ((k : Head) (O : Ordered) → length k.signature ≡ 20 → StatesLayout k O → with_sums_set (head_bytes k ++ after_header O) ≡ with_sums (unsigned_file O))
    → head_bytes h ++ after_header K ≡ with_sums (unsigned_file K)
summed h l K twenty reports same signature checksum reported set law =
    let rest = after_header K in
    stated_is h l rest twenty same (signature ∙ ap (λ z. sha1 (z ++ rest)) (after_signature l twenty)) (checksum ∙ ap (λ z. adler_32 (h.signature ++ (z ++ rest))) (after_signature l twenty)) reported set
    ∙ law l K twenty reports

-- all of a vector is written over
pub written_over : (n : ℕ) (x items : List ℕ) → length x ≡ length items → n ≡ length items → take n (x ++ drop (length x) items) ≡ x
written_over n x items e is = take_at x (drop (length x) items) n (omega (arith, e, is))
