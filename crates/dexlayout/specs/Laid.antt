-- When a layout is that of the canonical file of classes.
use Rattle.std.specs.Prelude.{◌≡◌, ℕ, ◌+◌, ◌^◌, ◌≤◌, Option, IfSome, List, [], ◌∷◌, ◌++◌, map, length, All, drop}
use Rattle.std.specs.Prelude.{slice_index}
use Rattle.std.specs.List.{Contains, flat_map}
use Rattle.dexspec.specs.Bytes.{padding}
use Rattle.dexspec.specs.Debug.{Debug}
use Rattle.dexspec.specs.Lists.{present}
use Rattle.dexspec.specs.Mentions.{Mentions, mentions}
use Rattle.dexspec.specs.Files.{Collection, definitions}
use Rattle.dexspec.specs.Placing.{Ordered, EqualOnce, Placed, Items, section_bytes, end, uses_offsets, offsets}
use Rattle.dexspec.specs.Placing.{debug_uses}
use Rattle.dexspec.specs.Spellings.{debug_bytes}
use Rattle.dexspec.specs.Canonical.{type_list_section, annotation_section, array_section, string_section, debug_section}
use Rattle.dexspec.specs.Canonical.{code_section, class_data_section, set_section, set_offsets, ref_list_section}
use Rattle.dexspec.specs.Canonical.{directory_section, ordered}
use Rattle.dexhead.specs.Laid.{StatesLayout, map_start, map_list}
use Rattle.dexpool.specs.Numberings.{IsNumbering}
use Rattle.dexclass.specs.Numbered.{NumberedClass, definition_of}
use Rattle.dexclass.specs.Uses.{IsKnownClass}
use Rattle.dexclass.specs.Programs.{AreClassesOf}
use Rattle.dexlayout.specs.Places.{ItemPlaces, EncodedItems, KeptItems, EncodedSharedItems, SharedPlaces, SetPlaces}
use Rattle.dexlayout.specs.Places.{Places}

-- ---- classes that are laid out

-- the classes in their order, over the numbering of what they mention
abbrev pub ordered_of : Mentions → List NumberedClass → Ordered
ordered_of m cs = record { classes = map (definition_of m) cs; pools = m; sharing = EqualOnce }

-- where the file ends
abbrev pub file_end : Ordered → ℕ
file_end K = map_start K + length (map_list K)

-- debug programs of the file that have the same bytes are the same
abbrev pub HaveOwnBytes : Ordered → Type 0
HaveOwnBytes K =
    (x y : Debug) → Contains (present (debug_uses K)) x → Contains (present (debug_uses K)) y
    → debug_bytes K.pools x ≡ debug_bytes K.pools y → x ≡ y

-- the classes are those of a numbering, their indices fit, their debug programs differ in their bytes, and the file is
-- not too long
pub record AreWritable (m : Mentions) (cs : List NumberedClass) : Type 0 where
  pub numbering : IsNumbering m
  pub known : All (IsKnownClass m) cs
  pub types_few : length m.types ≤ 65535
  pub protos_few : length m.protos ≤ 65535
  pub debugs_apart : HaveOwnBytes (ordered_of m cs)
  pub fits : file_end (ordered_of m cs) ≤ 2 ^ 30

-- ---- parts of a layout

-- items of one kind have these offsets and this end
pub record AreLaidSo (offsets : List ℕ) (end : ℕ) (p : ItemPlaces) : Type 0 where
  pub offsets_are : p.offsets ≡ offsets
  pub end_is : p.end ≡ end

-- items of uses have the offsets and the end that they have in this section
abbrev pub AreLaidIn : Placed → ItemPlaces → Type 0
AreLaidIn section = AreLaidSo (uses_offsets section) (end section)

-- encoded items of uses have the bytes, the offsets and the end that they have in this section
pub record AreEncodedIn (section : Placed) (p : EncodedItems) : Type 0 where
  pub bytes_are : p.bytes ≡ section_bytes section
  pub places_are : AreLaidIn section p.places

-- items of uses have the offsets and the end that they have in this section, and if their bytes are kept, the bytes
pub record AreKeptIn (section : Placed) (p : KeptItems) : Type 0 where
  pub bytes_are : IfSome p.bytes (λ bytes. bytes ≡ section_bytes section)
  pub places_are : AreLaidIn section p.places

-- items that uses share have the bytes, the number and the offsets that they have in this section
pub record AreSharedItemsOf (section : Placed) (p : EncodedSharedItems) : Type 0 where
  pub bytes_are : p.bytes ≡ section_bytes section
  pub count_is : p.count ≡ length section.items
  pub places_are : AreLaidIn section p.places

-- the same without the bytes
pub record AreSharedAt (section : Placed) (p : SharedPlaces) : Type 0 where
  pub count_is : p.count ≡ length section.items
  pub places_are : AreLaidIn section p.places

-- encoded items have the bytes, the offsets and the end that they have in this section, an offset for each
pub record AreItemsIn (section : Placed) (p : EncodedItems) : Type 0 where
  pub bytes_are : p.bytes ≡ section_bytes section
  pub places_are : AreLaidSo (offsets section) (end section) p.places

-- the type lists
abbrev pub AreTypeLists : Mentions → List NumberedClass → SharedPlaces → Type 0
AreTypeLists m cs = AreSharedAt (type_list_section (ordered_of m cs))

-- the annotations of the sets that are written
abbrev pub AreAnnotations : Mentions → List NumberedClass → EncodedItems → Type 0
AreAnnotations m cs = AreItemsIn (annotation_section (ordered_of m cs))

-- the debug programs
abbrev pub AreDebugs : Mentions → List NumberedClass → EncodedSharedItems → Type 0
AreDebugs m cs = AreSharedItemsOf (debug_section (ordered_of m cs))

-- the sets
pub record AreSets (m : Mentions) (cs : List NumberedClass) (p : SetPlaces) : Type 0 where
  pub own_are : p.own ≡ map (λ s. s.own) (set_offsets (ordered_of m cs))
  pub fields_are : p.fields ≡ flat_map (λ s. s.fields) (set_offsets (ordered_of m cs))
  pub methods_are : p.methods ≡ flat_map (λ s. map (λ os. slice_index os 0) s.methods) (set_offsets (ordered_of m cs))
  pub parameters_are : p.parameters ≡ flat_map (λ s. flat_map (drop 1) s.methods) (set_offsets (ordered_of m cs))
  pub written_are : AreItemsIn (set_section (ordered_of m cs)) p.written

-- the arrays of static values
abbrev pub AreStaticValues : Mentions → List NumberedClass → EncodedItems → Type 0
AreStaticValues m cs = AreEncodedIn (array_section (ordered_of m cs))

-- the code
abbrev pub AreCodes : Mentions → List NumberedClass → KeptItems → Type 0
AreCodes m cs = AreKeptIn (code_section (ordered_of m cs))

-- the class data
abbrev pub AreClassData : Mentions → List NumberedClass → EncodedItems → Type 0
AreClassData m cs = AreEncodedIn (class_data_section (ordered_of m cs))

-- the lists of sets of parameters
abbrev pub AreRefLists : Mentions → List NumberedClass → ItemPlaces → Type 0
AreRefLists m cs = AreLaidIn (ref_list_section (ordered_of m cs))

-- the directories
abbrev pub AreDirectories : Mentions → List NumberedClass → EncodedItems → Type 0
AreDirectories m cs = AreEncodedIn (directory_section (ordered_of m cs))

-- the map, which is aligned, has its offset, and ends where the file does
pub record IsMap (m : Mentions) (cs : List NumberedClass) (p : EncodedItems) : Type 0 where
  pub bytes_are : p.bytes ≡ padding 4 (end (directory_section (ordered_of m cs))) ++ map_list (ordered_of m cs)
  pub places_are : AreLaidSo (map_start (ordered_of m cs) ∷ []) (file_end (ordered_of m cs)) p.places

-- ---- the whole

-- the layout is that of the file of these classes
pub record IsLaid (m : Mentions) (cs : List NumberedClass) (p : Places) : Type 0 where
  pub head_states : StatesLayout p.head (ordered_of m cs)
  pub signature_length : length p.head.signature ≡ 20
  pub type_lists_are : AreTypeLists m cs p.type_lists
  pub annotations_are : AreAnnotations m cs p.annotations
  pub static_values_are : AreStaticValues m cs p.static_values
  pub strings_are : AreLaidSo (offsets (string_section (ordered_of m cs))) (end (string_section (ordered_of m cs)))
      p.strings
  pub debugs_are : AreDebugs m cs p.debugs
  pub codes_are : AreCodes m cs p.codes
  pub class_data_are : AreClassData m cs p.class_data
  pub sets_are : AreSets m cs p.sets
  pub ref_lists_are : AreRefLists m cs p.ref_lists
  pub directories_are : AreDirectories m cs p.directories
  pub map_is : IsMap m cs p.map

-- the layout is that of the collection's file
abbrev pub IsLayoutOf : Collection → Places → Type 0
IsLayoutOf K p = (cs : List NumberedClass) → AreClassesOf K cs → IsLaid (mentions (definitions K)) cs p

-- the collection's classes can be written, and are laid out as its file has them
abbrev pub IsWritable : Collection → Type 0
IsWritable K =
    (cs : List NumberedClass) → AreClassesOf K cs
    → AreWritable (mentions (definitions K)) cs × (ordered_of (mentions (definitions K)) cs ≡ ordered (definitions K))

-- ---- before the offsets are known

-- uses that share equal items: what is written, and for each use the number of its item
pub record AreShared {X Y : Type 0} (meant : X → Y) (items : Items Y) (written : List X) (numbers : List (Option ℕ)) :
    Type 0 where
  pub written_are : map meant written ≡ items.written
  pub numbers_are : numbers ≡ items.numbers
