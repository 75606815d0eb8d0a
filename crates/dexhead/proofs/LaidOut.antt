-- A header that was put before the rest of a file, with the sums set.
use Rattle.dexhead.proofs.Common.{◌≡◌, ℕ, List, ◌++◌, length, take, drop, refl, ap, ◌∙◌, append_assoc, take_at, drop_at, sha1, uint, adler_32, magic, with_sums, length-uint, map, sym, flat_map, flat_map-map, Table, placed_tables, header_bytes, unsigned_file, signed, with_sums_set, field_bytes, head_bytes, rows_bytes, rows_meant, StatesTables, StatesLayout, after_header, map_start}
use Rattle.dexspec.specs.Placing.{Ordered}
use Rattle.dexhead.specs.declared.head.Head.{Head}
use Rattle.dexhead.specs.declared.head.Rows.{Rows}
use Rattle.dexhead.proofs.Overwritten.{drop_after}

-- three parts, and more after them
joined : (m c s x r : List ℕ) → (m ++ (c ++ (s ++ x))) ++ r ≡ m ++ (c ++ (s ++ (x ++ r)))
joined m c s x r = append_assoc m (c ++ (s ++ x)) r ∙ ap (λ y. m ++ y) (append_assoc c (s ++ x) r ∙ ap (λ y. c ++ y) (append_assoc s x r))

-- the first of the parts
first_part : (m c s x r : List ℕ) (n : ℕ) → length m ≡ n → take n ((m ++ (c ++ (s ++ x))) ++ r) ≡ m
first_part m c s x r n e = ap (take n) (joined m c s x r) ∙ take_at m (c ++ (s ++ (x ++ r))) n e

-- the rest after all three
following : (m c s x r : List ℕ) → length m ≡ 8 → length c ≡ 4 → length s ≡ 20 → drop 32 ((m ++ (c ++ (s ++ x))) ++ r) ≡ x ++ r
following m c s x r e8 e4 e20 = ap (drop 32) (joined m c s x r) ∙ drop_after m (c ++ (s ++ (x ++ r))) 8 24 e8 ∙ drop_after c (s ++ (x ++ r)) 4 20 e4 ∙ drop_at s (x ++ r) 20 e20

-- setting the sums keeps the magic and what they are of
pub sums_set : (file rest : List ℕ) → take 8 file ≡ magic → drop 32 file ≡ rest → with_sums_set file ≡ with_sums rest
unfolding with_sums_set signed with_sums
sums_set file rest prefix back = ap (λ m. m ++ (uint (adler_32 (sha1 (drop 32 file) ++ drop 32 file)) ++ (sha1 (drop 32 file) ++ drop 32 file))) prefix ∙ ap (λ r. magic ++ (uint (adler_32 (sha1 r ++ r)) ++ (sha1 r ++ r))) back

-- a header with the sums set is the two sums before its fields and the rest
pub head_set : (h : Head) (rest : List ℕ) → length h.signature ≡ 20 → with_sums_set (head_bytes h ++ rest) ≡ with_sums (field_bytes h ++ rest)
unfolding head_bytes
head_set h rest twenty =
    sums_set ((magic ++ (uint h.checksum ++ (h.signature ++ field_bytes h))) ++ rest) (field_bytes h ++ rest)
    (first_part magic (uint h.checksum) h.signature (field_bytes h) rest 8 refl)
    (following magic (uint h.checksum) h.signature (field_bytes h) rest refl (length-uint h.checksum) twenty)

-- the bytes of a header that has the right sums are those with its sums set
pub head_stated : (h : Head) (rest : List ℕ) → h.signature ≡ sha1 (field_bytes h ++ rest) → h.checksum ≡ adler_32 (h.signature ++ (field_bytes h ++ rest)) → head_bytes h ++ rest ≡ with_sums (field_bytes h ++ rest)
unfolding head_bytes with_sums
head_stated h rest s c =
    joined magic (uint h.checksum) h.signature (field_bytes h) rest
    ∙ ap (λ k. magic ++ (uint k ++ (h.signature ++ (field_bytes h ++ rest)))) c
    ∙ ap (λ y. magic ++ (uint (adler_32 (y ++ (field_bytes h ++ rest))) ++ (y ++ (field_bytes h ++ rest)))) s

-- ---- a header before the rest of the file of classes in order

-- two numbers of four bytes each
abbrev pair_bytes : ℕ × ℕ → List ℕ
pair_bytes p = uint p.0 ++ uint p.1

-- the size and the offset of a table
abbrev size_and_off : Table × ℕ × ℕ → ℕ × ℕ
size_and_off t = (t.1, t.2)

same_rows : (rs : List Rows) (ts : List (Table × ℕ × ℕ)) → map rows_meant rs ≡ map (λ t. (t.1, t.2)) ts → flat_map rows_bytes rs ≡ flat_map (λ t. uint t.1 ++ uint t.2) ts
same_rows rs ts e = sym (flat_map-map pair_bytes rows_meant rs) ∙ ap (flat_map pair_bytes) e ∙ flat_map-map pair_bytes size_and_off ts

pub same_fields : (h : Head) (K : Ordered) → StatesTables h K → field_bytes h ≡ header_bytes K h.map_off h.file_size
unfolding field_bytes
same_fields h K reports = rw (same_rows h.tables (placed_tables K) reports.rows, reports.data_begins, reports.data_ends) refl

-- the fields and what follows them
same_file : (h : Head) (K : Ordered) → StatesLayout h K → field_bytes h ++ after_header K ≡ unsigned_file K
unfolding unsigned_file
same_file h K reports = ap (λ x. x ++ after_header K) (same_fields h K reports.tables) ∙ ap (λ m. header_bytes K m h.file_size ++ after_header K) reports.map_begins ∙ ap (λ n. header_bytes K (map_start K) n ++ after_header K) reports.file_ends

pub whole_file : (h : Head) (K : Ordered) → length h.signature ≡ 20 → StatesLayout h K → with_sums_set (head_bytes h ++ after_header K) ≡ with_sums (unsigned_file K)
whole_file h K twenty reports = head_set h (after_header K) twenty ∙ ap with_sums (same_file h K reports)

pub stated_file : (h : Head) (K : Ordered) → StatesLayout h K → h.signature ≡ sha1 (unsigned_file K) → h.checksum ≡ adler_32 (h.signature ++ unsigned_file K) → head_bytes h ++ after_header K ≡ with_sums (unsigned_file K)
stated_file h K reports s c =
    let same : field_bytes h ++ after_header K ≡ unsigned_file K = same_file h K reports in
    head_stated h (after_header K) (s ∙ ap sha1 (sym same)) (c ∙ ap (λ x. adler_32 (h.signature ++ x)) (sym same)) ∙ ap with_sums same
