-- A header's first fields, whatever the bytes after them: conditions 1, 4, 5 and 6; and a map that is read at its
-- offset.
use Rattle.dexspec.proofs.Common.{◌≡◌, ℕ, ◌+◌, ◌^◌, ◌<◌, ◌≤◌, List, ◌++◌, length, map, refl, ◌∙◌, arith, All, flat_map}
use Rattle.dexspec.specs.{uint, uint_at, BytesAt, header_length, HasSize, HasLengths, HasEndian, HasNoLink, Section, entries_at, with_sums, map_bytes, map_entry_bytes}
use Rattle.dexspec.proofs.written.PlacedBytes.{is_at_whole, is_at}
use Rattle.dexspec.proofs.numbers.ByteNumbers.{uint_at-encodes}
use Rattle.dexspec.proofs.layout.Sums.{with_sums_is_at}
use Rattle.dexspec.proofs.layout.Tables.{is_at_here, is_at_next}
use Rattle.dexspec.proofs.layout.MapEntries.{IsSmall, entry_of, entries_at-encodes}

-- the five numbers of a header after its signature, and more bytes
abbrev pub opening : ℕ → List ℕ → List ℕ
opening size tail = uint size ++ (uint header_length ++ (uint 0x12345678 ++ (uint 0 ++ (uint 0 ++ tail))))

-- the values of the five numbers that are at their offset
pub record OpeningIsAt (b : List ℕ) (size : ℕ) : Type 0 where
  pub file : uint_at b 32 ≡ size
  pub own : uint_at b 36 ≡ header_length
  pub order : uint_at b 40 ≡ 0x12345678
  pub link_bytes : uint_at b 44 ≡ 0
  pub link_place : uint_at b 48 ≡ 0

pub opening_is_at : (size : ℕ) (tail : List ℕ) → size < 2 ^ 32 → OpeningIsAt (with_sums (opening size tail)) size
opening_is_at size tail small =
    let r1 = uint header_length ++ (uint 0x12345678 ++ (uint 0 ++ (uint 0 ++ tail))) in
    let r2 = uint 0x12345678 ++ (uint 0 ++ (uint 0 ++ tail)) in
    let r3 = uint 0 ++ (uint 0 ++ tail) in
    let r4 = uint 0 ++ tail in
    let h0 : BytesAt (with_sums (opening size tail)) 32 (opening size tail) = is_at refl (with_sums_is_at (is_at_whole (opening size tail))) in
    let h1 : BytesAt (with_sums (opening size tail)) 36 r1 = is_at_next size r1 h0 in
    let h2 : BytesAt (with_sums (opening size tail)) 40 r2 = is_at_next header_length r2 h1 in
    let h3 : BytesAt (with_sums (opening size tail)) 44 r3 = is_at_next 0x12345678 r3 h2 in
    let h4 : BytesAt (with_sums (opening size tail)) 48 r4 = is_at_next 0 r4 h3 in
    record {
      file = uint_at-encodes small (is_at_here (uint size) r1 h0);
      own = uint_at-encodes (omega arith) (is_at_here (uint header_length) r2 h1);
      order = uint_at-encodes (omega arith) (is_at_here (uint 0x12345678) r3 h2);
      link_bytes = uint_at-encodes (omega arith) (is_at_here (uint 0) r4 h3);
      link_place = uint_at-encodes (omega arith) (is_at_here (uint 0) tail h4);
    }

-- the four conditions
pub record IsOpened (b : List ℕ) : Type 0 where
  pub bytes : HasSize b
  pub lengths : HasLengths b
  pub endian : HasEndian b
  pub link : HasNoLink b

-- they hold if the header has the length of the file
pub opened : (size : ℕ) (tail : List ℕ) → size ≡ length (with_sums (opening size tail)) → 112 ≤ size → size ≤ 2 ^ 30 → IsOpened (with_sums (opening size tail))
opened size tail is least most =
    let h = opening_is_at size tail (omega arith) in
    record {
      bytes = record { least = omega arith; most = omega arith };
      lengths = record { file = h.file ∙ is; header = h.own };
      endian = h.order;
      link = record { size = h.link_bytes; off = h.link_place };
    }

-- a map that is at an offset is read there
pub map_is_at : (b : List ℕ) (o : ℕ) (es : List (Section × ℕ × ℕ)) → length es < 2 ^ 32 → All IsSmall es → BytesAt b o (map_bytes es) → (uint_at b o ≡ length es) × (entries_at b (o + 4) (length es) ≡ map entry_of es)
map_is_at b o es few small h =
    (uint_at-encodes few (is_at_here (uint (length es)) (flat_map map_entry_bytes es) h), entries_at-encodes (o + 4) es small (is_at_next (length es) (flat_map map_entry_bytes es) h))
