-- The header and the rows of the tables: their contents by offset.
use Rattle.dexspec.proofs.Common.{◌≡◌, ℕ, zero, suc, ◌+◌, ◌-◌, ◌*◌, ◌<◌, ◌≤◌, List, [], ◌∷◌, ◌++◌, length, get_or, ap, ◌∙◌, arith, ◌==◌, if◌then◌else◌, flat_map, concat, length-append, Mentions}
use Rattle.dexspec.specs.{zip_with, uint, BytesAt, Proto, Field, Method, Definition, Table, StringIds, TypeIds, ProtoIds, FieldIds, MethodIds, ClassDefs, header_length, size_place, row_size, text_index, Ordered, offsets, uses_offsets, table_count, placed_tables, data_start, proto_row_bytes, field_row_bytes, method_row_bytes, class_offsets, class_row_bytes, string_section, type_list_section, table_bytes, header_bytes}
use Rattle.dexspec.proofs.written.PlacedBytes.{is_at_first, is_at_whole, is_at_later, is_at_in, is_at, is_at_row, length_rows}
use Rattle.dexspec.proofs.numbers.ByteNumbers.{length-uint, length-ushort}
use Rattle.dexspec.proofs.layout.Placements.{length-string_offsets, length-type_list_offsets, length-class_offsets}

-- ---- in sequence

-- the first of two
pub is_at_here : {b : List ℕ} {o : ℕ} (x r : List ℕ) → BytesAt b o (x ++ r) → BytesAt b o x
is_at_here x r h = is_at (omega arith) (is_at_in h (is_at_first x r))

-- the second, after a first of n bytes
pub is_at_end : {b : List ℕ} {o : ℕ} (x r : List ℕ) (n : ℕ) → length x ≡ n → BytesAt b o (x ++ r) → BytesAt b (o + n) r
is_at_end x r n e h = is_at (omega (arith, e)) (is_at_in h (is_at_later x (is_at_whole r)))

-- after four bytes
pub is_at_next : {b : List ℕ} {o : ℕ} (n : ℕ) (r : List ℕ) → BytesAt b o (uint n ++ r) → BytesAt b (o + 4) r
is_at_next n r h = is_at_end (uint n) r 4 (length-uint n) h

-- ---- rows of two lists

-- the bytes of rows of one size, the second list at least as long as the first
pub length_zip_rows : {X Y : Type 0} (f : X → Y → List ℕ) (w : ℕ) → ((x : X) (y : Y) → length (f x y) ≡ w) → (xs : List X) (ys : List Y) → length xs ≤ length ys
    → length (concat (zip_with f xs ys)) ≡ w * length xs
length_zip_rows f w each [] ys e = omega arith
length_zip_rows f w each (x ∷ xs) [] e = absurd (omega (arith, e))
length_zip_rows f w each (x ∷ xs) (y ∷ ys) e =
    length-append (f x y) (concat (zip_with f xs ys)) ∙ omega (arith, each x y, length_zip_rows f w each xs ys (omega (arith, e)))

-- the i-th row
pub is_at_zip_row : {X Y : Type 0} (f : X → Y → List ℕ) (w : ℕ) → ((x : X) (y : Y) → length (f x y) ≡ w) → (xs : List X) (ys : List Y) (i : ℕ) (d : X) (e : Y) → i < length xs → length xs ≤ length ys
    → BytesAt (concat (zip_with f xs ys)) (w * i) (f (get_or xs i d) (get_or ys i e))
is_at_zip_row f w each [] ys i d e lt same = absurd (omega arith)
is_at_zip_row f w each (x ∷ xs) [] i d e lt same = absurd (omega (arith, same))
is_at_zip_row f w each (x ∷ xs) (y ∷ ys) zero d e lt same = is_at (omega arith) (is_at_first (f x y) (concat (zip_with f xs ys)))
is_at_zip_row f w each (x ∷ xs) (y ∷ ys) (suc i) d e lt same =
    is_at (omega (arith, each x y)) (is_at_later (f x y) (is_at_zip_row f w each xs ys i d e (omega arith) (omega (arith, same))))

-- ---- the sizes of rows

-- a proto_id_item
pub length-proto_row : (m : Mentions) (p : Proto) (off : ℕ) → length (proto_row_bytes m p off) ≡ 12
length-proto_row m p off = omega (arith, length-append {A = ℕ}, length-uint)

-- a field_id_item
pub length-field_row : (m : Mentions) (f : Field) → length (field_row_bytes m f) ≡ 8
length-field_row m f = omega (arith, length-append {A = ℕ}, length-uint, length-ushort)

-- a method_id_item
pub length-method_row : (m : Mentions) (x : Method) → length (method_row_bytes m x) ≡ 8
length-method_row m x = omega (arith, length-append {A = ℕ}, length-uint, length-ushort)

-- a class_def_item
pub length-class_row : (m : Mentions) (d : Definition) (offs : ℕ × ℕ × ℕ × ℕ) → length (class_row_bytes m d offs) ≡ 32
length-class_row m d offs = omega (arith, length-append {A = ℕ}, length-uint)

-- ---- the tables

-- the bytes of a table's rows
abbrev pub rows_bytes : Ordered → Table → List ℕ
rows_bytes K StringIds = flat_map uint (offsets (string_section K))
rows_bytes K TypeIds = flat_map (λ t. uint (text_index K.pools t)) K.pools.types
rows_bytes K ProtoIds = concat (zip_with (proto_row_bytes K.pools) K.pools.protos (uses_offsets (type_list_section K)))
rows_bytes K FieldIds = flat_map (field_row_bytes K.pools) K.pools.fields
rows_bytes K MethodIds = flat_map (method_row_bytes K.pools) K.pools.methods
rows_bytes K ClassDefs = concat (zip_with (class_row_bytes K.pools) K.classes (class_offsets K))

-- rows of one size
pub length_rows_bytes : (K : Ordered) (t : Table) → length (rows_bytes K t) ≡ row_size t * table_count K t
length_rows_bytes K StringIds = length_rows uint 4 length-uint (offsets (string_section K)) ∙ ap (λ n. 4 * n) (length-string_offsets K)
length_rows_bytes K TypeIds = length_rows (λ t. uint (text_index K.pools t)) 4 (λ t. length-uint (text_index K.pools t)) K.pools.types
length_rows_bytes K ProtoIds = length_zip_rows (proto_row_bytes K.pools) 12 (length-proto_row K.pools) K.pools.protos (uses_offsets (type_list_section K)) (omega (arith, length-type_list_offsets K))
length_rows_bytes K FieldIds = length_rows (field_row_bytes K.pools) 8 (length-field_row K.pools) K.pools.fields
length_rows_bytes K MethodIds = length_rows (method_row_bytes K.pools) 8 (length-method_row K.pools) K.pools.methods
length_rows_bytes K ClassDefs = length_zip_rows (class_row_bytes K.pools) 32 (length-class_row K.pools) K.classes (class_offsets K) (omega (arith, length-class_offsets K))

-- the offset of the rows of a table that has rows
abbrev pub table_start : Ordered → Table → ℕ
table_start K StringIds = header_length
table_start K TypeIds = header_length + row_size StringIds * table_count K StringIds
table_start K ProtoIds = header_length + row_size StringIds * table_count K StringIds + row_size TypeIds * table_count K TypeIds
table_start K FieldIds = header_length + row_size StringIds * table_count K StringIds + row_size TypeIds * table_count K TypeIds + row_size ProtoIds * table_count K ProtoIds
table_start K MethodIds = header_length + row_size StringIds * table_count K StringIds + row_size TypeIds * table_count K TypeIds + row_size ProtoIds * table_count K ProtoIds + row_size FieldIds * table_count K FieldIds
table_start K ClassDefs = header_length + row_size StringIds * table_count K StringIds + row_size TypeIds * table_count K TypeIds + row_size ProtoIds * table_count K ProtoIds + row_size FieldIds * table_count K FieldIds + row_size MethodIds * table_count K MethodIds

-- the rows of each table are at this offset
pub table_is_at : {b : List ℕ} (K : Ordered) → BytesAt b header_length (table_bytes K) → (t : Table) → BytesAt b (table_start K t) (rows_bytes K t)
table_is_at {b} K h = at
  where
    r : Table → List ℕ
    r = rows_bytes K

    n : (t : Table) → length (rows_bytes K t) ≡ row_size t * table_count K t
    n = length_rows_bytes K

    h1 : BytesAt b (table_start K TypeIds) (r TypeIds ++ (r ProtoIds ++ (r FieldIds ++ (r MethodIds ++ r ClassDefs))))
    h1 = is_at_end (r StringIds) (r TypeIds ++ (r ProtoIds ++ (r FieldIds ++ (r MethodIds ++ r ClassDefs)))) (row_size StringIds * table_count K StringIds) (n StringIds) h

    h2 : BytesAt b (table_start K ProtoIds) (r ProtoIds ++ (r FieldIds ++ (r MethodIds ++ r ClassDefs)))
    h2 = is_at_end (r TypeIds) (r ProtoIds ++ (r FieldIds ++ (r MethodIds ++ r ClassDefs))) (row_size TypeIds * table_count K TypeIds) (n TypeIds) h1

    h3 : BytesAt b (table_start K FieldIds) (r FieldIds ++ (r MethodIds ++ r ClassDefs))
    h3 = is_at_end (r ProtoIds) (r FieldIds ++ (r MethodIds ++ r ClassDefs)) (row_size ProtoIds * table_count K ProtoIds) (n ProtoIds) h2

    h4 : BytesAt b (table_start K MethodIds) (r MethodIds ++ r ClassDefs)
    h4 = is_at_end (r FieldIds) (r MethodIds ++ r ClassDefs) (row_size FieldIds * table_count K FieldIds) (n FieldIds) h3

    at : (t : Table) → BytesAt b (table_start K t) (rows_bytes K t)
    at StringIds = is_at_here (r StringIds) (r TypeIds ++ (r ProtoIds ++ (r FieldIds ++ (r MethodIds ++ r ClassDefs)))) h
    at TypeIds = is_at_here (r TypeIds) (r ProtoIds ++ (r FieldIds ++ (r MethodIds ++ r ClassDefs))) h1
    at ProtoIds = is_at_here (r ProtoIds) (r FieldIds ++ (r MethodIds ++ r ClassDefs)) h2
    at FieldIds = is_at_here (r FieldIds) (r MethodIds ++ r ClassDefs) h3
    at MethodIds = is_at_here (r MethodIds) (r ClassDefs) h4
    at ClassDefs = is_at_end (r MethodIds) (r ClassDefs) (row_size MethodIds * table_count K MethodIds) (n MethodIds) h4

-- all rows are the bytes from the header to the data
pub length-table_bytes : (K : Ordered) → header_length + length (table_bytes K) ≡ data_start K
length-table_bytes K =
    let n = length_rows_bytes K in
    omega (arith, length-append {A = ℕ}, n StringIds, n TypeIds, n ProtoIds, n FieldIds, n MethodIds, n ClassDefs)

-- ---- the header

-- the offset of a table in the header
abbrev pub table_place : Ordered → Table → ℕ
table_place K t = if table_count K t == 0 then 0 else table_start K t

-- the contents of the header after the sums
pub record HeaderIsAt (b : List ℕ) (K : Ordered) (map_place size : ℕ) : Type 0 where
  pub file : BytesAt b 32 (uint size)
  pub own : BytesAt b 36 (uint header_length)
  pub endian : BytesAt b 40 (uint 0x12345678)
  pub link_bytes : BytesAt b 44 (uint 0)
  pub link_place : BytesAt b 48 (uint 0)
  pub map_list : BytesAt b 52 (uint map_place)
  pub table : (t : Table) → BytesAt b (size_place t) (uint (table_count K t) ++ uint (table_place K t))
  pub data_bytes : BytesAt b 104 (uint (size - data_start K))
  pub data_place : BytesAt b 108 (uint (data_start K))

-- the size and the offset of a table
abbrev place_bytes : Table × ℕ × ℕ → List ℕ
place_bytes t = uint t.1 ++ uint t.2

-- they have eight bytes
length-place_bytes : (t : Table × ℕ × ℕ) → length (place_bytes t) ≡ 8
length-place_bytes t = omega (arith, length-append (uint t.1) (uint t.2), length-uint t.1, length-uint t.2)

-- of each table, at their place
offsets_are_at : {b : List ℕ} (K : Ordered) → BytesAt b 56 (flat_map place_bytes (placed_tables K)) → (t : Table) → BytesAt b (size_place t) (uint (table_count K t) ++ uint (table_place K t))
offsets_are_at K h StringIds = is_at_in h (is_at_row place_bytes 8 length-place_bytes (placed_tables K) 0 (StringIds, 0, 0) (omega arith))
offsets_are_at K h TypeIds = is_at_in h (is_at_row place_bytes 8 length-place_bytes (placed_tables K) 1 (StringIds, 0, 0) (omega arith))
offsets_are_at K h ProtoIds = is_at_in h (is_at_row place_bytes 8 length-place_bytes (placed_tables K) 2 (StringIds, 0, 0) (omega arith))
offsets_are_at K h FieldIds = is_at_in h (is_at_row place_bytes 8 length-place_bytes (placed_tables K) 3 (StringIds, 0, 0) (omega arith))
offsets_are_at K h MethodIds = is_at_in h (is_at_row place_bytes 8 length-place_bytes (placed_tables K) 4 (StringIds, 0, 0) (omega arith))
offsets_are_at K h ClassDefs = is_at_in h (is_at_row place_bytes 8 length-place_bytes (placed_tables K) 5 (StringIds, 0, 0) (omega arith))

-- each number of the header, at its place
pub header_is_at : {b : List ℕ} (K : Ordered) (map_place size : ℕ) → BytesAt b 32 (header_bytes K map_place size) → HeaderIsAt b K map_place size
header_is_at {b} K map_place size h0 =
    let sizes = uint (size - data_start K) ++ uint (data_start K) in
    let tables = flat_map place_bytes (placed_tables K) in
    let six : length tables ≡ 48 = length_rows place_bytes 8 length-place_bytes (placed_tables K) in
    let r6 = tables ++ sizes in
    let r5 = uint map_place ++ r6 in
    let r4 = uint 0 ++ r5 in
    let r3 = uint 0 ++ r4 in
    let r2 = uint 0x12345678 ++ r3 in
    let r1 = uint header_length ++ r2 in
    let h1 : BytesAt b 36 r1 = is_at_next size r1 h0 in
    let h2 : BytesAt b 40 r2 = is_at_next header_length r2 h1 in
    let h3 : BytesAt b 44 r3 = is_at_next 0x12345678 r3 h2 in
    let h4 : BytesAt b 48 r4 = is_at_next 0 r4 h3 in
    let h5 : BytesAt b 52 r5 = is_at_next 0 r5 h4 in
    let h6 : BytesAt b 56 r6 = is_at_next map_place r6 h5 in
    let h7 : BytesAt b 104 sizes = is_at_end tables sizes 48 six h6 in
    record {
      file = is_at_here (uint size) r1 h0;
      own = is_at_here (uint header_length) r2 h1;
      endian = is_at_here (uint 0x12345678) r3 h2;
      link_bytes = is_at_here (uint 0) r4 h3;
      link_place = is_at_here (uint 0) r5 h4;
      map_list = is_at_here (uint map_place) r6 h5;
      table = offsets_are_at K (is_at_here tables sizes h6);
      data_bytes = is_at_here (uint (size - data_start K)) (uint (data_start K)) h7;
      data_place = is_at_next (size - data_start K) (uint (data_start K)) h7;
    }

-- it has 80 bytes
pub length-header_bytes : (K : Ordered) (map_place size : ℕ) → length (header_bytes K map_place size) ≡ 80
length-header_bytes K map_place size = omega (arith, length-append {A = ℕ}, length-uint, length_rows place_bytes 8 length-place_bytes (placed_tables K))
