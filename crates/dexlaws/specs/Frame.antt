-- The statements of the laws of canonical files.
use Rattle.std.specs.Prelude.{◌≡◌, ℕ, ◌+◌, ◌%◌, ◌^◌, ◌<◌, ◌≤◌, List, ◌++◌, length, map, All, slice_index}
use Rattle.std.specs.Prelude.{slice_index_or}
use Rattle.std.specs.List.{Contains}
use Rattle.dexspec.specs.Bytes.{uint, BytesAt, round_up}
use Rattle.dexspec.specs.Texts.{Text}
use Rattle.dexspec.specs.Symbols.{Proto, Field, Method, Symbol, TextSymbol, TypeSymbol, ProtoSymbol, FieldSymbol}
use Rattle.dexspec.specs.Symbols.{MethodSymbol}
use Rattle.dexspec.specs.Header.{Table, StringIds, TypeIds, ProtoIds, FieldIds, MethodIds, ClassDefs, table_size}
use Rattle.dexspec.specs.Header.{data_off, data_size, file_size, map_off, header_length, HasSize, HasMagic, HasVersion}
use Rattle.dexspec.specs.Header.{HasLengths, HasEndian, HasNoLink, HasChecksum, HasSignature}
use Rattle.dexspec.specs.Sections.{IsInData, Section, MapEntry, type_code, entries_at}
use Rattle.dexspec.specs.Rows.{row_at, SymbolRow}
use Rattle.dexspec.specs.Classes.{Definition}
use Rattle.dexspec.specs.Files.{Collection, definitions}
use Rattle.dexspec.specs.Mentions.{Mentions, mentions}
use Rattle.dexspec.specs.Spellings.{text_index, symbol_index}
use Rattle.dexspec.specs.Placing.{Ordered, Placed, offsets, end, uses_offsets}
use Rattle.dexspec.specs.Canonical.{with_sums, unsigned_file, canonical, table_count, data_start, type_list_section}
use Rattle.dexspec.specs.Canonical.{string_section, directory_section, data_sections, class_offsets, map_of, map_bytes}
use Rattle.dexspec.specs.Canonical.{proto_row_bytes, field_row_bytes, method_row_bytes, class_row_bytes}
use Rattle.dexspec.specs.WellFormed.{AreWellFormed}
use Rattle.dexspec.specs.Merging.{Caps, AreCaps, Fits}
use Rattle.dexspec.specs.Accepted.{IsFrame}

-- the file of classes in order, with its two sums
abbrev pub signed_file : Ordered → List ℕ
signed_file K = with_sums (unsigned_file K)

-- if the canonical file is not too long, it meets conditions 1 to 10
abbrev pub IsFrameIfShort : Collection → Type 0
IsFrameIfShort K = length (canonical K) ≤ 2 ^ 30 → IsFrame (canonical K)

-- if the caps are possible and the collection fits them, the fact holds
abbrev pub OnFits : Caps → Collection → Type 0 → Type 0
OnFits caps K fact = AreCaps caps → Fits caps (definitions K) → fact

-- if also its definitions are well formed, the fact holds
abbrev pub OnFitsFormed : Caps → Collection → Type 0 → Type 0
OnFitsFormed caps K fact = OnFits caps K (AreWellFormed (definitions K) → fact)

-- no pool has more symbols than its indices can denote
pub record HasFewSymbols (m : Mentions) : Type 0 where
  pub types : length m.types ≤ 65535
  pub protos : length m.protos ≤ 65535
  pub fields : length m.fields ≤ 65536
  pub methods : length m.methods ≤ 65536

-- the header has the sizes, and the offsets of data and map
pub record HasFields (K : Ordered) (b : List ℕ) : Type 0 where
  pub file : file_size b ≡ length b
  pub tables : (t : Table) → table_size b t ≡ table_count K t
  pub data_begins : data_off b ≡ data_start K
  pub data_ends : data_off b + data_size b ≡ length b
  pub map_begins : map_off b ≡ round_up 4 (end (directory_section K))

-- each row of each table is at the offset that the header gives
pub record HasRows (K : Ordered) (b : List ℕ) : Type 0 where
  pub strings : (i : ℕ) → i < length K.pools.texts
      → BytesAt b (row_at b StringIds i) (uint (slice_index (offsets (string_section K)) i))
  pub types : (i : ℕ) (d : Text) → i < length K.pools.types
      → BytesAt b (row_at b TypeIds i) (uint (text_index K.pools (slice_index_or K.pools.types i d)))
  pub protos : (i : ℕ) (d : Proto) → i < length K.pools.protos
      → BytesAt b (row_at b ProtoIds i)
      (proto_row_bytes K.pools (slice_index_or K.pools.protos i d) (slice_index (uses_offsets (type_list_section K)) i))
  pub fields : (i : ℕ) (d : Field) → i < length K.pools.fields
      → BytesAt b (row_at b FieldIds i) (field_row_bytes K.pools (slice_index_or K.pools.fields i d))
  pub methods : (i : ℕ) (d : Method) → i < length K.pools.methods
      → BytesAt b (row_at b MethodIds i) (method_row_bytes K.pools (slice_index_or K.pools.methods i d))
  pub classes : (r : ℕ) (d : Definition) (e : ℕ × ℕ × ℕ × ℕ) → r < length K.classes
      → BytesAt b (row_at b ClassDefs r)
      (class_row_bytes K.pools (slice_index_or K.classes r d) (slice_index_or (class_offsets K) r e))

-- the bytes are at the offset, in the data, at a multiple of the alignment
pub record BytesAligned (b : List ℕ) (align o : ℕ) (x : List ℕ) : Type 0 where
  pub encodes : BytesAt b o x
  pub in_data : IsInData b o (length x)
  pub multiple : o % align ≡ 0

-- each item of each section is at its offset, and the map after them
pub record HasItems (K : Ordered) (b : List ℕ) : Type 0 where
  pub items : (p : Placed) → Contains (data_sections K) p → (i : ℕ) (d : List ℕ) → i < length p.items
      → BytesAligned b p.align (slice_index (offsets p) i) (slice_index_or p.items i d)
  pub map_list : BytesAligned b 4 (map_off b) (map_bytes (map_of K (map_off b)))

-- the five numbers after the signature of a header, and the rest of it
abbrev pub opening : ℕ → List ℕ → List ℕ
opening size tail = uint size ++ (uint header_length ++ (uint 0x12345678 ++ (uint 0 ++ (uint 0 ++ tail))))

-- with its two sums the header meets conditions 1 to 8
pub record IsOpened (b : List ℕ) : Type 0 where
  pub bytes : HasSize b
  pub magic : HasMagic b
  pub version : HasVersion b
  pub lengths : HasLengths b
  pub endian : HasEndian b
  pub link : HasNoLink b
  pub checksum : HasChecksum b
  pub signature : HasSignature b

-- a header that has the length of the file is opened
abbrev pub IsOpenedAtSize : ℕ → List ℕ → Type 0
IsOpenedAtSize size b = size ≡ length b → 112 ≤ size → size ≤ 2 ^ 30 → IsOpened b

-- an entry of a map by its section
abbrev pub entry_of : Section × ℕ × ℕ → MapEntry
entry_of e = record { kind = type_code e.0; size = e.1; off = e.2 }

-- if a map whose numbers fit 32 bits is at the offset, the fact holds
abbrev pub OnMap : List ℕ → ℕ → List (Section × ℕ × ℕ) → Type 0 → Type 0
OnMap b o es fact =
    length es < 2 ^ 32 → All (λ e. (e.1 < 2 ^ 32) × (e.2 < 2 ^ 32)) es → BytesAt b o (map_bytes es) → fact

-- the entries of the map at the offset
abbrev pub HasEntries : List ℕ → ℕ → List (Section × ℕ × ℕ) → Type 0
HasEntries b o es = entries_at b (o + 4) (length es) ≡ map entry_of es

-- the symbol is a member of its pool
abbrev pub IsMentioned : Mentions → Symbol → Type 0
IsMentioned m (TextSymbol s) = Contains m.texts s
IsMentioned m (TypeSymbol t) = Contains m.types t
IsMentioned m (ProtoSymbol p) = Contains m.protos p
IsMentioned m (FieldSymbol f) = Contains m.fields f
IsMentioned m (MethodSymbol x) = Contains m.methods x

-- a symbol that the collection mentions is in the row of its index
abbrev pub HasItsRow : Collection → Symbol → Type 0
HasItsRow K s =
    IsMentioned (mentions (definitions K)) s → SymbolRow (canonical K) (symbol_index (mentions (definitions K)) s) s
