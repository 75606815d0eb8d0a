-- The header, and the first eight conditions. Source: "Dalvik Executable format", "header_item", "DEX_FILE_MAGIC",
-- "ENDIAN_CONSTANT"; Adler-32 as the page names it; SHA-1 as the kit's crate defines FIPS 180-4.
use Rattle.std.specs.Prelude.{◌≡◌, ℕ, ◌+◌, ◌-◌, ◌*◌, ◌%◌, ◌^◌, ◌≤◌, List, [], ◌∷◌, length, take, drop, slice_index, All}
use Rattle.std.specs.List.{fold}
use Rattle.sha1.specs.Sha1.{sha1}
use Rattle.dexspec.specs.Bytes.{uint_at}

-- ---- Adler-32

-- the two sums after one more byte: the first grows by the byte, the second by the new first, both modulo 65521
abbrev pub adler_step : ℕ × ℕ → ℕ → ℕ × ℕ
adler_step sums byte = ((sums.0 + byte) % 65521, (sums.1 + (sums.0 + byte) % 65521) % 65521)

-- the two sums after more bytes
abbrev pub adler_sums : ℕ × ℕ → List ℕ → ℕ × ℕ
adler_sums sums bytes = fold adler_step sums bytes

-- the number that two sums encode
abbrev pub adler_number : ℕ × ℕ → ℕ
adler_number sums = sums.1 * 65536 + sums.0

-- the Adler-32 of the bytes
unfoldable pub adler_32 : List ℕ → ℕ
adler_32 bytes = adler_number (adler_sums (1, 0) bytes)

-- ---- fields of the header

-- the number of bytes of the header
abbrev pub header_length : ℕ
header_length = 112

-- the Adler-32 of the following bytes, as the header has it
abbrev pub checksum : List ℕ → ℕ
checksum b = uint_at b 8

-- the SHA-1 of the following bytes, as the header has it, in 20 bytes
abbrev pub signature : List ℕ → List ℕ
signature b = take 20 (drop 12 b)

-- the length of the file, as the header has it
abbrev pub file_size : List ℕ → ℕ
file_size b = uint_at b 32

-- the length of the header, as the header has it
abbrev pub header_size : List ℕ → ℕ
header_size b = uint_at b 36

-- the number that shows the byte order
abbrev pub endian_tag : List ℕ → ℕ
endian_tag b = uint_at b 40

-- the size of link data
abbrev pub link_size : List ℕ → ℕ
link_size b = uint_at b 44

-- the offset of link data
abbrev pub link_off : List ℕ → ℕ
link_off b = uint_at b 48

-- the offset of the map
abbrev pub map_off : List ℕ → ℕ
map_off b = uint_at b 52

-- the five pools and the class definitions: the tables after the header, in order
pub data Table : Type 0 where
  StringIds TypeIds ProtoIds FieldIds MethodIds ClassDefs : Table

-- the six tables, in the order of the header and of the file
abbrev pub tables : List Table
tables = StringIds ∷ TypeIds ∷ ProtoIds ∷ FieldIds ∷ MethodIds ∷ ClassDefs ∷ []

-- the offset of the table's number of rows in the header; the table's offset is four bytes after it
abbrev pub size_place : Table → ℕ
size_place StringIds = 56
size_place TypeIds = 64
size_place ProtoIds = 72
size_place FieldIds = 80
size_place MethodIds = 88
size_place ClassDefs = 96

-- the number of rows
abbrev pub table_size : List ℕ → Table → ℕ
table_size b t = uint_at b (size_place t)

-- the offset of the rows
abbrev pub table_off : List ℕ → Table → ℕ
table_off b t = uint_at b (size_place t + 4)

-- the size of the data
abbrev pub data_size : List ℕ → ℕ
data_size b = uint_at b 104

-- the offset of the data
abbrev pub data_off : List ℕ → ℕ
data_off b = uint_at b 108

-- the number of bytes of a row
abbrev pub row_size : Table → ℕ
row_size StringIds = 4
row_size TypeIds = 4
row_size ProtoIds = 12
row_size FieldIds = 8
row_size MethodIds = 8
row_size ClassDefs = 32

-- the maximum number of rows; strings and classes are bounded by the size of the file alone
abbrev pub MayHave : Table → ℕ → Type 0
MayHave StringIds n = Unit {0}
MayHave TypeIds n = n ≤ 65535
MayHave ProtoIds n = n ≤ 65535
MayHave FieldIds n = n ≤ 65536
MayHave MethodIds n = n ≤ 65536
MayHave ClassDefs n = Unit {0}

-- ---- conditions 1 to 8

-- 1 Size: at least the header, and at most 2 ^ 30 bytes (the latter this project's rule)
pub record HasSize (b : List ℕ) : Type 0 where
  pub least : header_length ≤ length b
  pub most : length b ≤ 2 ^ 30

-- an ASCII digit
abbrev pub IsDigit : ℕ → Type 0
IsDigit c = (0x30 ≤ c) × (c ≤ 0x39)

-- 2 Magic: `dex`, a line feed, three digits, a zero byte
pub record HasMagic (b : List ℕ) : Type 0 where
  pub word : take 4 b ≡ 0x64 ∷ 0x65 ∷ 0x78 ∷ 0x0a ∷ []
  pub digits : All IsDigit (take 3 (drop 4 b))
  pub end : slice_index b 7 ≡ 0

-- the number that the three digits write
abbrev pub version : List ℕ → ℕ
version b = 100 * (slice_index b 4 - 0x30) + 10 * (slice_index b 5 - 0x30) + (slice_index b 6 - 0x30)

-- 3 Version: the digits are 035
abbrev pub HasVersion : List ℕ → Type 0
HasVersion b = version b ≡ 35

-- 4 Lengths
pub record HasLengths (b : List ℕ) : Type 0 where
  pub file : file_size b ≡ length b
  pub header : header_size b ≡ header_length

-- 5 Endian
abbrev pub HasEndian : List ℕ → Type 0
HasEndian b = endian_tag b ≡ 0x12345678

-- 6 Link: the size and the offset of link data are 0 (this project's rule)
pub record HasNoLink (b : List ℕ) : Type 0 where
  pub size : link_size b ≡ 0
  pub off : link_off b ≡ 0

-- 7 Checksum: it is the Adler-32 of the bytes after it
abbrev pub HasChecksum : List ℕ → Type 0
HasChecksum b = checksum b ≡ adler_32 (drop 12 b)

-- 8 Signature: it is the SHA-1 of the bytes after it
abbrev pub HasSignature : List ℕ → Type 0
HasSignature b = signature b ≡ sha1 (drop 32 b)
