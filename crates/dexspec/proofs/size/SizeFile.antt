-- The canonical file has at most as many bytes as its class definitions weigh.
use Rattle.dexspec.proofs.Common.{AllZip, ℕ, ◌+◌, ◌-◌, ◌*◌, ◌%◌, ◌≤◌, Bool, true, false, List, [], ◌∷◌, map, length, arith, sum_by, flat_map, if◌then◌else◌, ◌==◌, length-append, slice_index, Ordering, Less, Equal, Greater, length-replicate, sum_by-cons, length-flat_map}
use Rattle.std.specs.FinMap.Entries.{put, by_order}
use Rattle.dexspec.specs.{round_up, padding, Text, AreDistinct, HasSize, Table, Section, TableOf, Body, Definition, declared_methods, Caps, AreCaps, Fits, Collection, definitions, mentions, place_cmp, put_all, depth, in_class_order, mentions_weight, static_values_weight, body_weight, weight, same_types, same_debug, same_set, Placed, offsets, end, section_bytes, Ordered, class_sets, type_list_section, annotation_section, annotation_offsets, array_section, string_section, debug_section, code_section, class_data_section, set_section, set_offsets, ref_list_section, directory_section, data_sections, placed_tables, map_of, table_bytes, unsigned_file, with_sums, ordered, canonical}
use Rattle.dexspec.proofs.layout.Tables.{length-table_bytes, length-header_bytes}
use Rattle.dexspec.proofs.layout.MapEntries.{length-map_bytes}
use Rattle.dexspec.proofs.size.SizeSums.{sum_by-map, sum_by-at_most, padding-at_most}
use Rattle.dexspec.proofs.size.SizeSections.{list_part, items_part, set_part, refs_part, debug_part, code_part, data_part, directory_part, type_lists-size, annotations-size, sets-size, arrays-size, strings-size, debugs-size, codes-size, class_data-size, refs-size, directories-size}
use Rattle.dexspec.proofs.normal.ClassOrder.{definitions-different}
use Rattle.dexspec.proofs.size.SizeClasses.{mentions-cover, classes-cover}
use Rattle.dexspec.proofs.layout.Sums.{length-with_sums}

-- ---- sections

-- each section has at most that many bytes
abbrev AreWithinSizes : List Placed → List ℕ → Type 0
AreWithinSizes = AllZip (λ p n. length (section_bytes p) ≤ n)

sections-size : (ps : List Placed) (ns : List ℕ) → AreWithinSizes ps ns → length (flat_map section_bytes ps) ≤ sum_by (λ n. n) ns
sections-size [] [] h = omega arith
sections-size (p ∷ ps) (n ∷ ns) h = omega (arith, length-append (section_bytes p) (flat_map section_bytes ps), sum_by-cons (λ n. n) n ns, h.0, sections-size ps ns h.1)
sections-size _ _ h = absurd h

-- an upper bound for each of the ten sections
abbrev section_sizes : Ordered → List ℕ
section_sizes K =
    (sum_by (λ p. list_part p.parameters) K.pools.protos + sum_by (λ d. list_part d.1.interfaces) K.classes) ∷ sum_by (λ d. sum_by items_part (class_sets d)) K.classes
    ∷ sum_by (λ d. static_values_weight d.1.static_values) K.classes ∷ sum_by (λ s. 6 + 3 * length s) K.pools.texts ∷ sum_by (λ d. sum_by debug_part (declared_methods d.1)) K.classes
    ∷ sum_by (λ d. sum_by code_part (declared_methods d.1)) K.classes ∷ sum_by data_part K.classes ∷ sum_by (λ d. sum_by set_part (class_sets d)) K.classes
    ∷ sum_by (λ d. sum_by (λ x. refs_part x.parameter_annotations) (declared_methods d.1)) K.classes ∷ sum_by directory_part K.classes ∷ []

-- each section is within its bound
sections-within : (K : Ordered) → length K.pools.types ≤ 65536 → AreWithinSizes (data_sections K) (section_sizes K)
unfolding type_list_section annotation_section annotation_offsets array_section string_section debug_section code_section class_data_section set_section set_offsets ref_list_section directory_section
sections-within K few = (
  type_lists-size K K.sharing same_types _,
  (
    annotations-size K K.sharing same_set _,
    (
      arrays-size K _,
      (
        strings-size K.pools _,
        (
          debugs-size K K.sharing same_debug _,
          (codes-size K few _ _, (class_data-size K _ _, (sets-size K K.sharing same_set _ _, (refs-size K _ _, (directories-size K _ _ _, tt))))),
        ),
      ),
    ),
  ),
)

-- ---- the map

one-at_most : {X : Type 0} (b : Bool) (x : X) → length (if b then [] else x ∷ []) ≤ 1
one-at_most true x = omega arith
one-at_most false x = omega arith

-- a header, six tables, ten sections and the map itself
map_of-size : (K : Ordered) (map_off : ℕ) → length (map_of K map_off) ≤ 18
map_of-size K map_off =
    let table : Table × ℕ × ℕ → List (Section × ℕ × ℕ) = λ t. if t.1 == 0 then [] else (TableOf t.0, t.1, t.2) ∷ [] in
    let section : Placed → List (Section × ℕ × ℕ) = λ p. if length p.items == 0 then [] else (p.kind, length p.items, slice_index (offsets p) 0) ∷ [] in
    let tables = sum_by-at_most (λ t. length (table t)) 1 (placed_tables K) (λ t. one-at_most {X = Section × ℕ × ℕ} (t.1 == 0) (TableOf t.0, t.1, t.2)) in
    let sections = sum_by-at_most (λ p. length (section p)) 1 (data_sections K) (λ p. one-at_most {X = Section × ℕ × ℕ} (length p.items == 0) (p.kind, length p.items, slice_index (offsets p) 0)) in
    omega (arith, length-append {A = Section × ℕ × ℕ}, length-flat_map table (placed_tables K), length-flat_map section (data_sections K), tables, sections)

-- ---- the whole

padding-size : (at : ℕ) → length (padding 4 at) ≤ 3
padding-size at = omega (arith, length-replicate {A = ℕ} ((4 - at % 4) % 4) 0, padding-at_most 3 at)

-- rows and sections have at most as many bytes as their contents weigh
pub parts-size : (K : Ordered) → length K.pools.types ≤ 65536 → length (table_bytes K) + length (flat_map section_bytes (data_sections K)) ≤ mentions_weight K.pools + sum_by (λ d. body_weight d.1) K.classes
parts-size K few =
    omega (arith, length-table_bytes K, sections-size (data_sections K) (section_sizes K) (sections-within K few), mentions-cover K.pools, classes-cover K.classes)

pub file-size : (K : Ordered) → length K.pools.types ≤ 65536 → length (with_sums (unsigned_file K)) ≤ 1024 + mentions_weight K.pools + sum_by (λ d. body_weight d.1) K.classes
unfolding unsigned_file
file-size K few =
    let data_end = end (directory_section K) in
    let map_off = round_up 4 data_end in
    omega (arith, length-with_sums (unsigned_file K), length-append {A = ℕ}, length-header_bytes K, parts-size K few, padding-size data_end, length-map_bytes (map_of K map_off), map_of-size K map_off)

-- the file is at least as long as its header
pub file-least : (K : Ordered) → 112 ≤ length (with_sums (unsigned_file K))
unfolding unsigned_file
file-least K = omega (arith, length-with_sums (unsigned_file K), length-append {A = ℕ}, length-header_bytes K)

-- ---- classes in order

put-sum : (g : Body → ℕ) (k : ℕ × Text) (v : Body) (es : List ((ℕ × Text) × Body)) → sum_by (λ e. g e.1) (put place_cmp k v es) ≤ g v + sum_by (λ e. g e.1) es
put-sum g k v [] = omega arith
put-sum g k v (e ∷ es) = by (place_cmp k e.0) (put-sum g k v es)
  where
    f : (ℕ × Text) × Body → ℕ
    f = λ x. g x.1

    by : (o : Ordering) → sum_by (λ x. g x.1) (put place_cmp k v es) ≤ g v + sum_by (λ x. g x.1) es → sum_by (λ x. g x.1) (by_order o ((k, v) ∷ e ∷ es) ((e.0, v) ∷ es) (e ∷ put place_cmp k v es)) ≤ g v + sum_by (λ x. g x.1) (e ∷ es)
    by Less again = omega (arith, sum_by-cons (λ (x : (ℕ × Text) × Body). g x.1) (k, v) (e ∷ es))
    by Equal again = omega (arith, sum_by-cons (λ (x : (ℕ × Text) × Body). g x.1) (e.0, v) es, sum_by-cons (λ (x : (ℕ × Text) × Body). g x.1) e es)
    by Greater again = omega (arith, again, sum_by-cons (λ (x : (ℕ × Text) × Body). g x.1) e (put place_cmp k v es), sum_by-cons (λ (x : (ℕ × Text) × Body). g x.1) e es)

put_all-sum : (g : Body → ℕ) (es : List ((ℕ × Text) × Body)) → sum_by (λ e. g e.1) (put_all es) ≤ sum_by (λ e. g e.1) es
put_all-sum g [] = omega arith
put_all-sum g (e ∷ es) = omega (arith, put-sum g e.0 e.1 (put_all es), sum_by-cons (λ (x : (ℕ × Text) × Body). g x.1) e es, put_all-sum g es)

-- the classes of a file count at most as much as the given ones
in_class_order-sum : (g : Body → ℕ) (D : List Definition) → sum_by (λ d. g d.1) (in_class_order D) ≤ sum_by (λ d. g d.1) D
unfolding in_class_order
in_class_order-sum g D =
    let place : Definition → (ℕ × Text) × Body = λ d. ((depth D d.0, d.0), d.1) in
    let back : (ℕ × Text) × Body → Definition = λ e. (e.0.1, e.1) in
    omega (arith, sum_by-map (λ (d : Definition). g d.1) back (put_all (map place D)), put_all-sum g (map place D), sum_by-map (λ (e : (ℕ × Text) × Body). g e.1) place D)

-- ---- the law

pub ordered-size : (D : List Definition) → length (mentions D).types ≤ 65536 → length (with_sums (unsigned_file (ordered D))) ≤ weight D
unfolding weight
ordered-size D few = omega (arith, file-size (ordered D) few, in_class_order-sum body_weight D)

pub canonical-size : (K : Collection) → length (mentions (definitions K)).types ≤ 65536 → length (canonical K) ≤ weight (definitions K)
unfolding canonical
canonical-size K few = ordered-size (definitions K) few

pub canonical-least : (K : Collection) → 112 ≤ length (canonical K)
unfolding canonical
canonical-least K = file-least (ordered (definitions K))

-- ---- under caps

-- the file of definitions that fit is at most as long as the cap on the weight
pub fitting-size : (caps : Caps) (D : List Definition) → AreCaps caps → AreDistinct D → Fits caps D → length (with_sums (unsigned_file (ordered D))) ≤ caps.weight
fitting-size caps D are distinct fits = omega (arith, ordered-size D (omega (arith, are.types, fits.types)), fits.weight D distinct (λ d c. c))

-- so the file of a collection meets the condition on size
pub canonical-has_size : (caps : Caps) (K : Collection) → AreCaps caps → Fits caps (definitions K) → HasSize (canonical K)
canonical-has_size caps K are fits = record {
  least = canonical-least K;
  most = omega (arith, canonical-size K (omega (arith, are.types, fits.types)), fits.weight (definitions K) (definitions-different K) (λ d c. c), are.weight);
}
