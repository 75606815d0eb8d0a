-- The statements of the laws of sizes: upper bounds on the bytes of each item, each section and the whole file.
use Rattle.std.specs.Prelude.{◌≡◌, ℕ, ◌+◌, ◌-◌, ◌*◌, ◌≤◌, List, ◌++◌, length, IfSome, sum_by}
use Rattle.std.specs.List.{flat_map}
use Rattle.dexspec.specs.Bytes.{ushort, uint}
use Rattle.dexspec.specs.Numbers.{uleb128}
use Rattle.dexspec.specs.Texts.{Text}
use Rattle.dexspec.specs.Code.{Code, Handler, handlers_weight}
use Rattle.dexspec.specs.Values.{Value, Values, ThenValue, Elements}
use Rattle.dexspec.specs.Annotations.{Annotation}
use Rattle.dexspec.specs.Classes.{Definition, declared_fields, declared_methods}
use Rattle.dexspec.specs.Mentions.{Mentions, mentions}
use Rattle.dexspec.specs.Weight.{weight, code_weight, value_weight, values_weight, elements_weight, annotation_weight}
use Rattle.dexspec.specs.Weight.{static_values_weight, mentions_weight, body_weight}
use Rattle.dexspec.specs.Depth.{in_class_order}
use Rattle.dexspec.specs.Spellings.{type_index, handler_off, handler_list_bytes, code_bytes, value_bytes, values_bytes}
use Rattle.dexspec.specs.Spellings.{elements_bytes, encoded_array_bytes, annotation_bytes, class_data_bytes}
use Rattle.dexspec.specs.Placing.{EachForItself, SetOffsets, end_from, bytes_from, section_bytes, directory_bytes}
use Rattle.dexspec.specs.Placing.{Ordered}
use Rattle.dexspec.specs.Canonical.{data_sections, table_bytes, ordered, canonical}
use Rattle.dexspec.specs.Files.{Collection, definitions}
use Rattle.dexspec.specs.Merging.{Caps, Fits}
use Rattle.dexlaws.specs.Frame.{signed_file}

-- Definitions of different names in class order, with what they mention, as in the canonical file; but each use of a
-- type list, a debug program or a set has its own item.
abbrev pub unshared : List Definition → Ordered
unshared D = record { classes = in_class_order D; pools = mentions D; sharing = EachForItself }

-- the canonical file of the definitions
abbrev pub ordered_file : List Definition → List ℕ
ordered_file D = signed_file (ordered D)

-- the file of the same definitions in which each use has its own item
abbrev pub unshared_file : List Definition → List ℕ
unshared_file D = signed_file (unshared D)

-- types whose indices have at most three bytes as a uleb128
abbrev pub HasFewTypes : Mentions → Type 0
HasFewTypes m = length m.types ≤ 65536

-- values, one by one and together, and their items
pub record ValuesAreWithin (m : Mentions) : Type 0 where
  pub value : (v : Value) → length (value_bytes m v) ≤ value_weight v
  pub values : (vs : Values) → length (values_bytes m vs) ≤ values_weight vs
  pub elements : (es : Elements) → length (elements_bytes m es) ≤ elements_weight es
  pub annotation : (a : Annotation) → length (annotation_bytes m a) ≤ annotation_weight a
  pub static_values : (v : Value) (vs : Values)
      → length (encoded_array_bytes m (ThenValue v vs)) ≤ static_values_weight (ThenValue v vs)

-- a code item with the bytes of its alignment
abbrev pub CodeIsWithin : Mentions → Type 0
CodeIsWithin m = (debug_off : ℕ) (c : Code) → length (code_bytes m debug_off c) + 3 ≤ code_weight c

-- a list of handlers, in which each begins no later than the list ends
pub record HandlersAreWithin (m : Mentions) : Type 0 where
  pub list : (hs : List Handler) → length (handler_list_bytes m hs) ≤ handlers_weight hs
  pub places : (hs : List Handler) (h : Handler)
      → handler_off m (length (uleb128 (length hs))) hs h ≤ length (handler_list_bytes m hs)

-- five bytes for each of four counts, and for each number of a member
abbrev pub ClassDataIsWithin : Mentions → Type 0
ClassDataIsWithin m =
    (d : Definition) (code_offs : List ℕ)
    → length (class_data_bytes m d code_offs)
    ≤ 20 + 10 * length (declared_fields d.1) + 15 * length (declared_methods d.1)

-- at most a pair for each field, and two for each method
abbrev pub DirectoryIsWithin : Mentions → Type 0
DirectoryIsWithin m =
    (d : Definition) (sets : SetOffsets) (ref_lists : List ℕ)
    → IfSome (directory_bytes m d sets ref_lists)
    (λ bytes. length bytes ≤ 16 + 8 * length (declared_fields d.1) + 16 * length (declared_methods d.1))

-- a type_list
abbrev pub TypeListHas : Mentions → List Text → Type 0
TypeListHas m ts = length (uint (length ts) ++ flat_map (λ t. ushort (type_index m t)) ts) ≡ 4 + 2 * length ts

-- a section ends no later than its items reach, each with the bytes of its alignment
abbrev pub EndsWithin : ℕ → ℕ → List (List ℕ) → Type 0
EndsWithin align from items = end_from align from items ≤ from + sum_by (λ item. length item + (align - 1)) items

-- the section's bytes extend from its start to its end
abbrev pub ExtendsToEnd : ℕ → ℕ → List (List ℕ) → Type 0
ExtendsToEnd align from items = from + length (bytes_from align from items) ≡ end_from align from items

-- a sum over the definitions is the same in class order
abbrev pub KeepsSum : (Definition → ℕ) → List Definition → Type 0
KeepsSum f D = sum_by f (in_class_order D) ≡ sum_by f D

-- the canonical file has at most as many bytes as the definitions weigh
abbrev pub IsWithinWeight : Collection → Type 0
IsWithinWeight K = length (canonical K) ≤ weight (definitions K)

-- definitions that fit the caps have a canonical file of at most as many bytes as the cap on weight
abbrev pub IsWithinCap : Caps → List Definition → Type 0
IsWithinCap caps D = Fits caps D → length (ordered_file D) ≤ caps.weight

-- the rows and the sections together
abbrev pub PartsAreWithin : Ordered → Type 0
PartsAreWithin K =
    length (table_bytes K) + length (flat_map section_bytes (data_sections K))
    ≤ mentions_weight K.pools + sum_by (λ d. body_weight d.1) K.classes
