-- Items of a layout, from the offset on where those of the sections before end.
use Rattle.std.specs.Prelude.{◌≡◌, ℕ, ◌^◌, ◌≤◌, List, [], ◌∷◌, ◌++◌, Option, Some, map, length, All, slice_index}
use Rattle.std.specs.Prelude.{Result, OnOk}
use Rattle.std.specs.Option.{option_map_or}
use Rattle.std.specs.Borrow.{Bor}
use Rattle.std.specs.List.{flat_map}
use Rattle.dexspec.specs.Bytes.{round_up}
use Rattle.dexspec.specs.Texts.{string_data}
use Rattle.dexspec.specs.Mentions.{Mentions}
use Rattle.dexspec.specs.Sections.{Section, HeaderItem, MapList}
use Rattle.dexspec.specs.Placing.{Ordered, offsets_from, end_from, end, Placed, section_bytes}
use Rattle.dexspec.specs.Canonical.{data_start, type_list_items, set_items, debug_section, code_section}
use Rattle.dexspec.specs.Canonical.{class_data_section, ref_list_section, placed_tables, map_bytes}
use Rattle.dexhead.specs.declared.head.Head.{Head}
use Rattle.dexhead.specs.declared.map_list.MapEntry.{MapEntry}
use Rattle.dexhead.specs.Laid.{StatesLayout, map_start}
use Rattle.dexhead.specs.Written.{entry_meant}
use Rattle.dexval.specs.declared.set.AnnotationSet.{AnnotationSet as CodeSet}
use Rattle.dexval.specs.Code.{set_of}
use Rattle.dexval.specs.Numbered.{set_in, type_at, IsKnownSet}
use Rattle.dexclass.specs.Numbered.{NumberedClass}
use Rattle.dexlayout.specs.declared.data.Back.{Back}
use Rattle.dexlayout.specs.declared.data.Data.{Data}
use Rattle.dexlayout.specs.declared.list_sharing.ListShared.{ListShared}
use Rattle.dexlayout.specs.declared.sharing.Shared.{Shared}
use Rattle.dexlayout.specs.declared.tables.Tables.{Tables}
use Rattle.dexlayout.specs.Places.{ItemPlaces, EncodedItems, KeptItems, EncodedSharedItems, SharedPlaces, SetPlaces}
use Rattle.dexlayout.specs.Laid.{ordered_of, file_end, AreWritable, AreLaidSo, AreLaidIn, AreAnnotations, AreCodes}
use Rattle.dexlayout.specs.Laid.{AreClassData, AreDirectories, AreRefLists, AreSets, AreShared}
use Rattle.dexlayout.specs.internal.Parts.{AreTables, AreBack, AreData, entry_of, section_parts}
use Rattle.dexlayout.specs.internal.Encoding.{encode_use, encode_uses, list_bytes, no_items_from, without_bytes}
use Rattle.dexlayout.specs.internal.OffsetLists.{list_item}

-- ---- sections

-- the parts are those of these classes, over each numbering in whose file the section before ends at the offset
abbrev pub PlacedFrom : {P : Type 0} → (Ordered → Placed) → (Mentions → List NumberedClass → P → Type 0)
    → List NumberedClass → ℕ → P → Type 0
PlacedFrom before Are cs from p = (m : Mentions) → AreWritable m cs → from ≡ end (before (ordered_of m cs)) → Are m cs p

-- the code can be placed after debug programs at these offsets
abbrev pub CanPlaceCodes : List NumberedClass → ItemPlaces → Type 0
CanPlaceCodes cs debugs = (m : Mentions) × AreWritable m cs × AreLaidIn (debug_section (ordered_of m cs)) debugs

-- it is placed so
abbrev pub PlacedCodes : List NumberedClass → ItemPlaces → KeptItems → Type 0
PlacedCodes cs debugs p =
    (m : Mentions) → AreWritable m cs → AreLaidIn (debug_section (ordered_of m cs)) debugs → AreCodes m cs p

-- an output is given the bytes of the code after debug programs at these offsets
abbrev pub GivesCodes : {O : Type 0} → (List ℕ → O → O → Type 0) → List NumberedClass → ItemPlaces → O → O → Type 0
GivesCodes gives cs debugs old new =
    (m : Mentions) → AreWritable m cs → AreLaidIn (debug_section (ordered_of m cs)) debugs
    → gives (section_bytes (code_section (ordered_of m cs))) old new

-- the class data can be placed after code at these offsets
abbrev pub CanPlaceClassData : List NumberedClass → ItemPlaces → Type 0
CanPlaceClassData cs codes = (m : Mentions) × AreWritable m cs × AreLaidIn (code_section (ordered_of m cs)) codes

-- they are placed so
abbrev pub PlacedClassData : List NumberedClass → ItemPlaces → EncodedItems → Type 0
PlacedClassData cs codes p =
    (m : Mentions) → AreWritable m cs → AreLaidIn (code_section (ordered_of m cs)) codes → AreClassData m cs p

-- an output is given the bytes of the lists of sets, by these offsets of the sets
abbrev pub GivesRefLists : {O : Type 0} → (List ℕ → O → O → Type 0) → List NumberedClass → SetPlaces → O → O → Type 0
GivesRefLists gives cs sets old new =
    (m : Mentions) → AreWritable m cs → AreSets m cs sets
    → gives (section_bytes (ref_list_section (ordered_of m cs))) old new

-- the sets and what is after them can be placed from the offset on, by these offsets of the annotations
abbrev pub CanPlaceSets : List NumberedClass → EncodedItems → ℕ → Type 0
CanPlaceSets cs annotations from =
    (m : Mentions) × AreWritable m cs × AreAnnotations m cs annotations
    × (from ≡ end (class_data_section (ordered_of m cs)))

-- they are placed so
abbrev pub PlacedSets : {P : Type 0} → (Mentions → List NumberedClass → P → Type 0) → List NumberedClass → EncodedItems
    → ℕ → P → Type 0
PlacedSets Are cs annotations from p =
    (m : Mentions) → AreWritable m cs → AreAnnotations m cs annotations
    → from ≡ end (class_data_section (ordered_of m cs)) → Are m cs p

-- the lists of sets can be placed, by these offsets of the sets
abbrev pub CanPlaceRefLists : List NumberedClass → SetPlaces → Type 0
CanPlaceRefLists cs sets = (m : Mentions) × AreWritable m cs × AreSets m cs sets

-- they are placed so
abbrev pub PlacedRefLists : List NumberedClass → SetPlaces → ItemPlaces → Type 0
PlacedRefLists cs sets p = (m : Mentions) → AreWritable m cs → AreSets m cs sets → AreRefLists m cs p

-- a list of `count` sets can be added to items at these places
abbrev pub CanPutList : ℕ → ItemPlaces → Type 0
CanPutList count p =
    (list : List ℕ) × (length list ≡ count)
    × ((encode_use 4 (without_bytes p) (list_item list)).places.end ≤ 2 ^ 30)

-- it is added, whatever its offsets
abbrev pub PutsList : {A E : Type 0} → Result A E → ℕ → ItemPlaces → ItemPlaces → Type 0
PutsList result count old new =
    (list : List ℕ) → length list ≡ count
    → OnOk result (new ≡ (encode_use 4 (without_bytes old) (list_item list)).places)

-- the directories can be placed, by these offsets of the sets and of the lists of sets
abbrev pub CanPlaceDirectories : List NumberedClass → SetPlaces → ItemPlaces → Type 0
CanPlaceDirectories cs sets lists = (m : Mentions) × AreWritable m cs × AreSets m cs sets × AreRefLists m cs lists

-- they are placed so
abbrev pub PlacedDirectories : List NumberedClass → SetPlaces → ItemPlaces → EncodedItems → Type 0
PlacedDirectories cs sets lists p =
    (m : Mentions) → AreWritable m cs → AreSets m cs sets → AreRefLists m cs lists → AreDirectories m cs p

-- they are placed so, after these sets
abbrev pub PlacedBack : List NumberedClass → SetPlaces → Back → Type 0
PlacedBack cs sets p = (m : Mentions) → AreWritable m cs → AreSets m cs sets → AreBack m cs p

-- the texts from the offset on
abbrev pub AreStringsFrom : ℕ → Mentions → ItemPlaces → Type 0
AreStringsFrom from m =
    AreLaidSo (offsets_from 1 from (map string_data m.texts)) (end_from 1 from (map string_data m.texts))

-- ---- the items of uses

-- the offset of the item of each use, or 0 where it has none
abbrev pub use_offsets : List (Option ℕ) → List ℕ → List ℕ
use_offsets numbers written = map (λ n. option_map_or (slice_index written) n 0) numbers

-- the offsets of the items that uses share, for each use
abbrev pub shared_places : List (Option ℕ) → ItemPlaces → ItemPlaces
shared_places numbers written = record {
  offsets = use_offsets numbers written.offsets;
  end = written.end;
}

-- the same of items, with their number
abbrev pub shared_at : List (Option ℕ) → ItemPlaces → SharedPlaces
shared_at numbers written =
    record { count = length written.offsets; places = shared_places numbers written }

-- the same of encoded items
abbrev pub shared_by : List (Option ℕ) → EncodedItems → EncodedSharedItems
shared_by numbers written =
    record {
      bytes = written.bytes;
      count = length written.places.offsets;
      places = shared_places numbers written.places;
    }

-- ---- type lists

-- the lists from the offset on
abbrev pub encoded_lists : ℕ → List (List ℕ) → EncodedItems
encoded_lists from lists = encode_uses 4 (no_items_from from) (map (λ list. Some (list_bytes list)) lists)

-- the type lists are those of the file of these classes
abbrev pub HaveTypeLists : Mentions → List NumberedClass → Shared (List ℕ) → Type 0
HaveTypeLists m cs shared =
    AreShared (map (type_at m)) (type_list_items (ordered_of m cs)) shared.written.items shared.numbers.items

-- ---- sets

-- the sets are those that are written in the file of these classes
abbrev pub AreWrittenSets : Mentions → List NumberedClass → List (Bor CodeSet) → Type 0
AreWrittenSets m cs sets = map (λ s. set_in m (set_of s.now)) sets ≡ (set_items (ordered_of m cs)).written

-- the numbers in the sets are known
abbrev pub AreKnownSets : Mentions → List (Bor CodeSet) → Type 0
AreKnownSets m sets = All (λ s. IsKnownSet m (set_of s.now)) sets

-- the sets are those of the file of these classes
abbrev pub AreSharedBy : List NumberedClass → List (Bor CodeSet) → List (Option ℕ) → Type 0
AreSharedBy cs written numbers =
    (m : Mentions) → AreWritable m cs
    → AreShared (λ s. set_in m (set_of s.now)) (set_items (ordered_of m cs)) written numbers

abbrev pub HaveSets : List NumberedClass → ListShared (Bor CodeSet) → Type 0
HaveSets cs shared = AreSharedBy cs shared.written.items shared.numbers

-- the numbers in the sets are known
abbrev pub HaveKnownSets : List NumberedClass → ListShared (Bor CodeSet) → Type 0
HaveKnownSets cs shared = (m : Mentions) → AreWritable m cs → AreKnownSets m shared.written.items

-- no offsets of sets yet, beside the sets that are written
abbrev pub no_sets : EncodedItems → SetPlaces
no_sets written = record { own = []; fields = []; methods = []; parameters = []; written = written }

-- ---- debug programs

-- their encodings from the offset on
abbrev pub encoded_debugs : ℕ → List (List ℕ) → EncodedItems
encoded_debugs from written = encode_uses 1 (no_items_from from) (map Some written)

-- ---- the header and the map

-- the header of the file that has these tables, and this map at its end
abbrev pub StatesParts : Tables → EncodedItems → Head → Type 0
StatesParts tables map head =
    (K : Ordered) → AreTables K tables → AreLaidSo (map_start K ∷ []) (file_end K) map.places → StatesLayout head K

-- how many rows each table has, and where they begin
abbrev pub table_rows : Ordered → List (ℕ × ℕ)
table_rows K = map (λ t. (t.1, t.2)) (placed_tables K)

-- what entries say
abbrev pub parts_in : List MapEntry → List (Section × ℕ × ℕ)
parts_in entries = map entry_meant entries

-- those of parts that are not empty
abbrev pub full_parts : List MapEntry → List (Section × ℕ × ℕ)
full_parts parts = flat_map entry_of (parts_in parts)

-- the map of a file with these tables and sections: first the header, last the map itself
abbrev pub whole_map : List MapEntry → List MapEntry → ℕ → List (Section × ℕ × ℕ)
whole_map tables sections map_off =
    (HeaderItem, 1, 0) ∷ (full_parts tables ++ (full_parts sections ++ (MapList, 1, map_off) ∷ []))

-- the map after sections that end at an offset
abbrev pub placed_map : List MapEntry → List MapEntry → ℕ → EncodedItems
placed_map tables sections from =
    encode_use 4 (no_items_from from) (Some (map_bytes (whole_map tables sections (round_up 4 from))))

-- the data are those of some classes of the numbering, from the offset on
abbrev pub IsDataFrom : Mentions → Data → ℕ → Type 0
IsDataFrom m d from =
    (cs : List NumberedClass) × AreWritable m cs × AreData m cs d × (from ≡ data_start (ordered_of m cs))

-- the entries are those of the sections of such data
abbrev pub AreEntriesOf : Mentions → Data → ℕ → List MapEntry → Type 0
AreEntriesOf m d from entries =
    (cs : List NumberedClass) → AreWritable m cs → AreData m cs d → from ≡ data_start (ordered_of m cs)
    → map entry_meant entries ≡ section_parts (ordered_of m cs)
