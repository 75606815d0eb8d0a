-- How many bytes a header and a map have.
use Rattle.dexhead.proofs.Common.{◌≡◌, ℕ, ◌+◌, ◌*◌, List, length, map, arith, flat_map, length-map, uint, header_length, Section, type_code, map_entry_bytes, map_bytes, length_rows, length-ushort, length-uint, rows_bytes, field_bytes, head_bytes, entry_meant}
use Rattle.std.proofs.Math.ListN.{length-append}
use Rattle.dexhead.specs.declared.head.Head.{Head}
use Rattle.dexhead.specs.declared.head.Rows.{Rows}
use Rattle.dexhead.specs.declared.map_list.MapEntry.{MapEntry}

pub length_rows_bytes : (r : Rows) → length (rows_bytes r) ≡ 8
length_rows_bytes r = omega (arith, length-append (uint r.size) (uint r.off), length-uint r.size, length-uint r.off)

pub length_tables : (rs : List Rows) → length (flat_map rows_bytes rs) ≡ 8 * length rs
length_tables rs = length_rows rows_bytes 8 length_rows_bytes rs

length_one : (e : Section × ℕ × ℕ) → length (map_entry_bytes e) ≡ 12
length_one e = simp length-append (omega (arith, length-ushort (type_code e.0), length-ushort 0, length-uint e.1, length-uint e.2))

pub length_map : (es : List MapEntry) → length (map_bytes (map entry_meant es)) ≡ 4 + 12 * length es
length_map es =
    let n : length (map entry_meant es) ≡ length es = length-map es entry_meant in
    omega (arith, length-append (uint (length (map entry_meant es))) (flat_map map_entry_bytes (map entry_meant es)), length-uint (length (map entry_meant es)), n, length_rows map_entry_bytes 12 length_one (map entry_meant es))

-- ---- a header

pub length_fields : (h : Head) → length h.tables ≡ 6 → length (field_bytes h) ≡ 80
unfolding field_bytes
length_fields h six = simp length-append (omega (arith, six, length_tables h.tables, length-uint h.file_size, length-uint header_length, length-uint 0x12345678, length-uint 0, length-uint h.map_off, length-uint h.data_size, length-uint h.data_off))

pub length_head : (h : Head) → length h.tables ≡ 6 → length h.signature ≡ 20 → length (head_bytes h) ≡ 112
unfolding head_bytes
length_head h six twenty = simp length-append (omega (arith, twenty, length_fields h six, length-uint h.checksum))
