-- Upper bounds on the bytes of each section of items, as sums over protos, texts and classes.
use Rattle.dexspec.proofs.Common.{◌≡◌, ℕ, zero, suc, ◌+◌, ◌*◌, ◌≤◌, Bool, true, false, List, [], ◌∷◌, ◌++◌, map, length, drop, Option, Some, None, refl, arith, sum_by, flat_map, option_to_list, if◌then◌else◌, zip, option_map_or, sum_by-append, sum_by-le-sum_by, Code, Debug, Values, Mentions, length-append}
use Rattle.dexspec.specs.{chunks, present, ushort, uint, Text, string_data, Proto, NoValues, ThenValue, count_values, Annotation, AnnotationSet, MethodDef, Definition, declared_fields, declared_methods, debug_weight, code_weight, values_weight, annotation_weight, static_values_weight, type_index, code_bytes, debug_bytes, values_bytes, encoded_array_bytes, annotation_bytes, offsets_bytes, class_data_bytes, unless_empty, values_unless_empty, bytes_from, Sharing, items_by, Ordered, all_methods, type_list_uses, method_sets, class_sets, set_uses, debug_uses, code_uses, static_values_uses, by_class, is_empty_class, class_data_uses, SetOffsets, set_offsets_of, set_offsets_by_class, ref_list_uses, directory_uses, directory_bytes, uleb128}
use Rattle.dexspec.proofs.size.SizeSums.{sum_by-map, sum_by-flat_map, sum_by-zip_with, sum_by-present, sum_by-chunks, or_zero, bytes_from-at_most}
use Rattle.dexspec.proofs.sharing.Sharing.{sum_by-items}
use Rattle.dexspec.proofs.size.SizeItems.{uleb128-size, string_data-size, debug_bytes-size, values_bytes-size, annotation_bytes-size, offsets_bytes-size, type_list-size}
use Rattle.dexspec.proofs.size.SizeCode.{code_bytes-size}
use Rattle.dexspec.proofs.size.SizeClass.{class_data_bytes-size, directory_bytes-size}

-- a list of types, and the bytes of its alignment
abbrev pub list_part : List Text → ℕ
list_part ts = 7 + 2 * length ts

-- a set's annotation items, and its own item
abbrev pub items_part : AnnotationSet → ℕ
items_part s = sum_by annotation_weight s

abbrev pub set_part : AnnotationSet → ℕ
set_part [] = 0
set_part (x ∷ xs) = 7 + 4 * length (x ∷ xs)

-- a list of sets
abbrev pub refs_part : List AnnotationSet → ℕ
refs_part [] = 0
refs_part (s ∷ ss) = 7 + 4 * length (s ∷ ss)

-- a method's debug program, and its code
abbrev pub debug_part : MethodDef → ℕ
debug_part x = sum_by (λ c. sum_by debug_weight (option_to_list c.debug)) (option_to_list x.code)

abbrev pub code_part : MethodDef → ℕ
code_part x = sum_by code_weight (option_to_list x.code)

-- class data, and a directory
abbrev pub data_part : Definition → ℕ
data_part d = 20 + 10 * length (declared_fields d.1) + 15 * length (declared_methods d.1)

abbrev pub directory_part : Definition → ℕ
directory_part d = 19 + 8 * length (declared_fields d.1) + 16 * length (declared_methods d.1)

module _ {X : Type 0} where
  -- a section of the uses that are present
  section-size : (k from : ℕ) (g : X → List ℕ) (h : X → ℕ) (os : List (Option X)) → ((x : X) → length (g x) + k ≤ h x) → length (bytes_from (suc k) from (map g (present os))) ≤ sum_by (or_zero h) os
  section-size k from g h os le =
      let each = sum_by-le-sum_by (λ x. length (g x) + k) h (present os) le in
      omega (arith, bytes_from-at_most k from (map g (present os)), sum_by-map (λ (b : List ℕ). length b + k) g (present os), each, sum_by-present h os)

  -- a section of the items of uses that may share
  shared-size : (how : Sharing) (same : X → X → Bool) (k from : ℕ) (g : X → List ℕ) (h : X → ℕ) (os : List (Option X)) → ((x : X) → length (g x) + k ≤ h x)
      → length (bytes_from (suc k) from (map g (items_by how same os).written)) ≤ sum_by (or_zero h) os
  shared-size how same k from g h os le =
      let xs = (items_by how same os).written in
      let each = sum_by-le-sum_by (λ x. length (g x) + k) h xs le in
      omega (arith, bytes_from-at_most k from (map g xs), sum_by-map (λ (b : List ℕ). length b + k) g xs, each, sum_by-items how same h os, sum_by-present h os)

  or_zero-is : (f : X → ℕ) (o : Option X) → or_zero f o ≡ sum_by f (option_to_list o)
  or_zero-is f None = refl
  or_zero-is f (Some x) = omega arith

  either-part : (f : X → ℕ) (b : Bool) (x : X) → or_zero f (if b then None else Some x) ≤ f x
  either-part f true x = omega arith
  either-part f false x = omega arith

-- ---- type lists

list_use : (f : List Text → ℕ) (ts : List Text) → or_zero f (unless_empty ts) ≤ f ts
list_use f [] = omega arith
list_use f (t ∷ ts) = omega arith

pub type_lists-size : (K : Ordered) (how : Sharing) (same : List Text → List Text → Bool) (from : ℕ) → length (bytes_from 4 from (map (λ ts. uint (length ts) ++ flat_map (λ t. ushort (type_index K.pools t)) ts) ((items_by how same (type_list_uses K)).written))) ≤ sum_by (λ p. list_part p.parameters) K.pools.protos + sum_by (λ d. list_part d.1.interfaces) K.classes
type_lists-size K how same from =
    let all = shared-size how same 3 from (λ ts. uint (length ts) ++ flat_map (λ t. ushort (type_index K.pools t)) ts) list_part (type_list_uses K) (λ ts. omega (arith, type_list-size K.pools ts)) in
    let protos = map (λ (p : Proto). unless_empty p.parameters) K.pools.protos in
    let classes = map (λ (d : Definition). unless_empty d.1.interfaces) K.classes in
    omega (
      arith,
      all,
      sum_by-append (or_zero list_part) protos classes,
      sum_by-map (or_zero list_part) (λ (p : Proto). unless_empty p.parameters) K.pools.protos,
      sum_by-map (or_zero list_part) (λ (d : Definition). unless_empty d.1.interfaces) K.classes,
      sum_by-le-sum_by (λ (p : Proto). or_zero list_part (unless_empty p.parameters)) (λ p. list_part p.parameters) K.pools.protos (λ p. list_use list_part p.parameters),
      sum_by-le-sum_by (λ (d : Definition). or_zero list_part (unless_empty d.1.interfaces)) (λ d. list_part d.1.interfaces) K.classes (λ d. list_use list_part d.1.interfaces),
    )

-- ---- annotation items and sets

set_uses-size : (K : Ordered) (how : Sharing) (same : AnnotationSet → AnnotationSet → Bool) (f h : AnnotationSet → ℕ) → ((s : AnnotationSet) → or_zero f (unless_empty s) ≤ h s) → sum_by f ((items_by how same (set_uses K)).written) ≤ sum_by (λ d. sum_by h (class_sets d)) K.classes
set_uses-size K how same f h le =
    let sets = flat_map class_sets K.classes in
    omega (arith, sum_by-items how same f (set_uses K), sum_by-present f (set_uses K), sum_by-map (or_zero f) unless_empty sets, sum_by-le-sum_by (λ s. or_zero f (unless_empty s)) h sets le, sum_by-flat_map h class_sets K.classes)

items_use : (m : Mentions) (s : AnnotationSet) → or_zero (λ (set : AnnotationSet). sum_by (λ a. length (annotation_bytes m a) + 0) set) (unless_empty s) ≤ items_part s
items_use m [] = omega arith
items_use m (x ∷ xs) = sum_by-le-sum_by (λ a. length (annotation_bytes m a) + 0) annotation_weight (x ∷ xs) (λ a. omega (arith, annotation_bytes-size m a))

pub annotations-size : (K : Ordered) (how : Sharing) (same : AnnotationSet → AnnotationSet → Bool) (from : ℕ) → length (bytes_from 1 from (map (annotation_bytes K.pools) (flat_map (λ set. set) ((items_by how same (set_uses K)).written)))) ≤ sum_by (λ d. sum_by items_part (class_sets d)) K.classes
annotations-size K how same from =
    let m = K.pools in
    let written = (items_by how same (set_uses K)).written in
    let items = flat_map (λ (set : AnnotationSet). set) written in
    omega (
      arith,
      bytes_from-at_most 0 from (map (annotation_bytes m) items),
      sum_by-map (λ (b : List ℕ). length b + 0) (annotation_bytes m) items,
      sum_by-flat_map (λ (a : Annotation). length (annotation_bytes m a) + 0) (λ (set : AnnotationSet). set) written,
      set_uses-size K how same (λ (set : AnnotationSet). sum_by (λ a. length (annotation_bytes m a) + 0) set) items_part (items_use m),
    )

set_use : (s : AnnotationSet) → or_zero (λ (set : AnnotationSet). 7 + 4 * length set) (unless_empty s) ≤ set_part s
set_use [] = omega arith
set_use (x ∷ xs) = omega arith

pub sets-size : (K : Ordered) (how : Sharing) (same : AnnotationSet → AnnotationSet → Bool) (from : ℕ) (offs : List ℕ) → length (bytes_from 4 from (map offsets_bytes (chunks (map (λ set. length set) ((items_by how same (set_uses K)).written)) offs))) ≤ sum_by (λ d. sum_by set_part (class_sets d)) K.classes
sets-size K how same from offs =
    let written = (items_by how same (set_uses K)).written in
    let counts = map (λ (set : AnnotationSet). length set) written in
    omega (
      arith,
      bytes_from-at_most 3 from (map offsets_bytes (chunks counts offs)),
      sum_by-map (λ (b : List ℕ). length b + 3) offsets_bytes (chunks counts offs),
      sum_by-chunks (λ (ys : List ℕ). length (offsets_bytes ys) + 3) (λ n. 7 + 4 * n) counts offs (λ n ys le. omega (arith, offsets_bytes-size ys, le)),
      sum_by-map (λ n. 7 + 4 * n) (λ (set : AnnotationSet). length set) written,
      set_uses-size K how same (λ set. 7 + 4 * length set) set_part set_use,
    )

-- ---- static values and texts

array_use : (vs : Values) → or_zero (λ us. 6 + values_weight us) (values_unless_empty vs) ≤ static_values_weight vs
array_use NoValues = omega arith
array_use (ThenValue v vs) = omega arith

pub arrays-size : (K : Ordered) (from : ℕ) → length (bytes_from 1 from (map (encoded_array_bytes K.pools) (present (static_values_uses K)))) ≤ sum_by (λ d. static_values_weight d.1.static_values) K.classes
arrays-size K from =
    let m = K.pools in
    let all = section-size 0 from (encoded_array_bytes m) (λ vs. 6 + values_weight vs) (static_values_uses K)
    (λ vs. omega (arith, length-append (uleb128 (count_values vs)) (values_bytes m vs), uleb128-size (count_values vs), values_bytes-size m vs)) in
    omega (
      arith,
      all,
      sum_by-map (or_zero (λ us. 6 + values_weight us)) (λ (d : Definition). values_unless_empty d.1.static_values) K.classes,
      sum_by-le-sum_by (λ (d : Definition). or_zero (λ us. 6 + values_weight us) (values_unless_empty d.1.static_values)) (λ d. static_values_weight d.1.static_values) K.classes (λ d. array_use d.1.static_values),
    )

pub strings-size : (m : Mentions) (from : ℕ) → length (bytes_from 1 from (map string_data m.texts)) ≤ sum_by (λ s. 6 + 3 * length s) m.texts
strings-size m from =
    let each = sum_by-le-sum_by (λ s. length (string_data s) + 0) (λ s. 6 + 3 * length s) m.texts (λ s. omega (arith, string_data-size s)) in
    omega (arith, bytes_from-at_most 0 from (map string_data m.texts), sum_by-map (λ (b : List ℕ). length b + 0) string_data m.texts, each)

-- ---- debug programs and code

debug_use : (o : Option Code) → or_zero debug_weight (option_map_or (λ c. c.debug) o None) ≤ sum_by (λ c. sum_by debug_weight (option_to_list c.debug)) (option_to_list o)
debug_use None = omega arith
debug_use (Some c) = omega (arith, or_zero-is debug_weight c.debug)

pub debugs-size : (K : Ordered) (how : Sharing) (same : Debug → Debug → Bool) (from : ℕ) → length (bytes_from 1 from (map (debug_bytes K.pools) ((items_by how same (debug_uses K)).written))) ≤ sum_by (λ d. sum_by debug_part (declared_methods d.1)) K.classes
debugs-size K how same from =
    let m = K.pools in
    let methods = all_methods K.classes in
    let use_of = λ (x : MethodDef). option_map_or (λ (c : Code). c.debug) x.code None in
    let all = shared-size how same 0 from (debug_bytes m) debug_weight (debug_uses K) (λ d. omega (arith, debug_bytes-size m d)) in
    omega (
      arith,
      all,
      sum_by-map (or_zero debug_weight) use_of methods,
      sum_by-le-sum_by (λ x. or_zero debug_weight (use_of x)) debug_part methods (λ x. debug_use x.code),
      sum_by-flat_map debug_part (λ (d : Definition). declared_methods d.1) K.classes,
    )

code_use : (off : ℕ) (o : Option Code) → or_zero (λ (p : Code × ℕ). code_weight p.0) (option_map_or (λ c. Some (c, off)) o None) ≤ sum_by code_weight (option_to_list o)
code_use off None = omega arith
code_use off (Some c) = omega arith

pub codes-size : (K : Ordered) → length K.pools.types ≤ 65536 → (from : ℕ) (offs : List ℕ) → length (bytes_from 4 from (map (λ p. code_bytes K.pools p.1 p.0) (present (code_uses K offs)))) ≤ sum_by (λ d. sum_by code_part (declared_methods d.1)) K.classes
codes-size K few from offs =
    let m = K.pools in
    let methods = all_methods K.classes in
    let weigh = λ (p : Code × ℕ). code_weight p.0 in
    let all = section-size 3 from (λ (p : Code × ℕ). code_bytes m p.1 p.0) weigh (code_uses K offs) (λ p. code_bytes-size m few p.1 p.0) in
    omega (
      arith,
      all,
      sum_by-zip_with (or_zero weigh) code_part (λ (x : MethodDef) (o : ℕ). option_map_or (λ (c : Code). Some (c, o)) x.code None) methods offs (λ x o. code_use o x.code),
      sum_by-flat_map code_part (λ (d : Definition). declared_methods d.1) K.classes,
    )

-- ---- class data

pub class_data-size : (K : Ordered) (from : ℕ) (offs : List ℕ) → length (bytes_from 1 from (map (λ p. class_data_bytes K.pools p.0 p.1) (present (class_data_uses K offs)))) ≤ sum_by data_part K.classes
class_data-size K from offs =
    let m = K.pools in
    let weigh = λ (p : Definition × List ℕ). data_part p.0 in
    let all = section-size 0 from (λ (p : Definition × List ℕ). class_data_bytes m p.0 p.1) weigh (class_data_uses K offs) (λ p. omega (arith, class_data_bytes-size m p.0 p.1)) in
    omega (arith, all, sum_by-zip_with (or_zero weigh) data_part (λ (d : Definition) (os : List ℕ). if is_empty_class d.1 then None else Some (d, os)) K.classes (by_class K offs) (λ d os. either-part weigh (is_empty_class d.1) (d, os)))

-- ---- ref lists

-- of that many offsets the first is the method's own
abbrev refs_count : ℕ → ℕ
refs_count zero = 0
refs_count (suc zero) = 0
refs_count (suc (suc n)) = 7 + 4 * (n + 1)

abbrev ref_size : List ℕ → ℕ
ref_size ys = or_zero (λ (offs : List ℕ). 7 + 4 * length offs) (unless_empty (drop 1 ys))

refs_counted : (n : ℕ) (ys : List ℕ) → length ys ≤ n → ref_size ys ≤ refs_count n
refs_counted n [] le = omega arith
refs_counted n (y ∷ []) le = omega arith
refs_counted zero (y ∷ z ∷ zs) le = absurd (omega arith)
refs_counted (suc zero) (y ∷ z ∷ zs) le = absurd (omega arith)
refs_counted (suc (suc n)) (y ∷ z ∷ zs) le = omega arith

refs_use : (s : AnnotationSet) (ss : List AnnotationSet) → refs_count (length (s ∷ ss)) ≤ refs_part ss
refs_use s [] = omega arith
refs_use s (t ∷ ts) = omega arith

method_refs-size : (xs : List MethodDef) (offs : List ℕ) → sum_by ref_size (chunks (map (λ x. length (method_sets x)) xs) offs) ≤ sum_by (λ x. refs_part x.parameter_annotations) xs
method_refs-size xs offs =
    let counts = map (λ (x : MethodDef). length (method_sets x)) xs in
    omega (
      arith,
      sum_by-chunks ref_size refs_count counts offs refs_counted,
      sum_by-map refs_count (λ (x : MethodDef). length (method_sets x)) xs,
      sum_by-le-sum_by (λ (x : MethodDef). refs_count (length (method_sets x))) (λ x. refs_part x.parameter_annotations) xs (λ x. refs_use x.annotations x.parameter_annotations),
    )

class_refs-size : (d : Definition) (offs : List ℕ) → sum_by (or_zero (λ (os : List ℕ). 7 + 4 * length os)) (map (λ os. unless_empty (drop 1 os)) (set_offsets_of d offs).methods) ≤ sum_by (λ x. refs_part x.parameter_annotations) (declared_methods d.1)
class_refs-size d offs =
    let methods = (set_offsets_of d offs).methods in
    omega (arith, sum_by-map (or_zero (λ (os : List ℕ). 7 + 4 * length os)) (λ (os : List ℕ). unless_empty (drop 1 os)) methods, method_refs-size (declared_methods d.1) (drop (1 + length (declared_fields d.1)) offs))

pub refs-size : (K : Ordered) (from : ℕ) (offs : List ℕ) → length (bytes_from 4 from (map offsets_bytes (present (ref_list_uses K (set_offsets_by_class K offs))))) ≤ sum_by (λ d. sum_by (λ x. refs_part x.parameter_annotations) (declared_methods d.1)) K.classes
refs-size K from offs =
    let sets = set_offsets_by_class K offs in
    let weigh = λ (os : List ℕ). 7 + 4 * length os in
    let use_of = λ (s : SetOffsets). map (λ (os : List ℕ). unless_empty (drop 1 os)) s.methods in
    let all = section-size 3 from offsets_bytes weigh (ref_list_uses K sets) (λ os. omega (arith, offsets_bytes-size os)) in
    omega (
      arith,
      all,
      sum_by-flat_map (or_zero weigh) use_of sets,
      sum_by-zip_with (λ (s : SetOffsets). sum_by (or_zero weigh) (use_of s)) (λ d. sum_by (λ x. refs_part x.parameter_annotations) (declared_methods d.1)) set_offsets_of K.classes (chunks (map (λ d. length (class_sets d)) K.classes) offs) class_refs-size,
    )

-- ---- directories

aligned-part : (o : Option (List ℕ)) (n : ℕ) → or_zero (λ (b : List ℕ). length b) o ≤ n → or_zero (λ (b : List ℕ). length b + 3) o ≤ 3 + n
aligned-part None n h = omega arith
aligned-part (Some b) n h = omega (arith, h)

directory-use : (m : Mentions) (d : Definition) (p : SetOffsets × List ℕ) → or_zero (λ (b : List ℕ). length b + 3) (directory_bytes m d p.0 p.1) ≤ directory_part d
directory-use m d p =
    let h = aligned-part (directory_bytes m d p.0 p.1) (16 + 8 * length (declared_fields d.1) + 16 * length (declared_methods d.1)) (directory_bytes-size m d p.0 p.1) in
    omega (arith, h)

pub directories-size : (K : Ordered) (from : ℕ) (sets : List SetOffsets) (refs : List ℕ) → length (bytes_from 4 from (map (λ b. b) (present (directory_uses K sets refs)))) ≤ sum_by directory_part K.classes
directories-size K from sets refs =
    let all = section-size 3 from (λ (b : List ℕ). b) (λ b. length b + 3) (directory_uses K sets refs) (λ b. omega arith) in
    omega (
      arith,
      all,
      sum_by-zip_with (or_zero (λ (b : List ℕ). length b + 3)) directory_part (λ (d : Definition) (p : SetOffsets × List ℕ). directory_bytes K.pools d p.0 p.1) K.classes (zip sets (by_class K refs)) (directory-use K.pools),
    )
