-- The ten sections of the data: they follow one another after the tables, each item has bytes, and each row has its
-- offsets.
use Rattle.dexspec.proofs.Common.{◌≡◌, ℕ, zero, suc, ◌+◌, ◌<◌, List, [], ◌∷◌, ◌++◌, length, get_or, map, drop, refl, sym, ap, subst, ◌∙◌, arith, inl, inr, Option, Some, None, IfSome, Bool, true, false, if◌then◌else◌, slice_index, option_map_or, flat_map, All, zip, length-append, length-map, length-drop, map-id, All-from_recursion, All-nil, All-cons, All-head, All-tail, All-map, Code, Debug, Mentions}
use Rattle.dexspec.specs.{chunks, zip_with, present, ushort, uint, uleb128, string_data, Definition, count_values, same_types, code_bytes, debug_bytes, encoded_array_bytes, annotation_bytes, offsets_bytes, class_data_bytes, type_list_bytes, unless_empty, own_numbers, own_items, shared_items, Sharing, EqualOnce, EachForItself, items_by, Placed, offsets, uses_offsets, Ordered, by_class, SetOffsets, type_list_uses, code_uses, static_values_uses, class_data_uses, ref_list_uses, directory_uses, directory_bytes, end, data_start, class_offsets, type_list_items, type_list_section, set_items, annotation_section, annotation_offsets, array_section, string_section, debug_items, debug_section, code_section, class_data_section, set_section, set_offsets, ref_list_section, directory_section, data_sections}
use Rattle.dexspec.proofs.numbers.{length-uint, length-ushort, uleb128_bounds}
use Rattle.dexspec.proofs.layout.Places.{IsAlign, length-offsets_from, FollowFrom}

-- each section begins where the one before it ends
pub sections_follow : (K : Ordered) → FollowFrom (data_start K) (data_sections K) (end (directory_section K))
unfolding type_list_section annotation_section array_section string_section debug_section code_section class_data_section set_section ref_list_section directory_section
sections_follow K = (refl, (refl, (refl, (refl, (refl, (refl, (refl, (refl, (refl, (refl, refl))))))))))

-- ---- each item has bytes

-- a list that begins with bytes has bytes
append_some : (x y : List ℕ) → 0 < length x → 0 < length (x ++ y)
append_some x y some = omega (arith, length-append x y)

-- a uint has bytes
uint_some : (n : ℕ) → 0 < length (uint n)
uint_some n = omega (arith, length-uint n)

-- a ushort has bytes
ushort_some : (n : ℕ) → 0 < length (ushort n)
ushort_some n = omega (arith, length-ushort n)

-- a list that begins with a uleb128 has bytes
uleb128_some : (n : ℕ) (y : List ℕ) → 0 < length (uleb128 n ++ y)
uleb128_some n y = append_some (uleb128 n) y (uleb128_bounds n).0

-- a debug program has bytes
debug_some : (m : Mentions) (d : Debug) → 0 < length (debug_bytes m d)
unfolding debug_bytes
debug_some m d = uleb128_some d.line_start _

-- a code item has bytes
code_some : (m : Mentions) (off : ℕ) (c : Code) → 0 < length (code_bytes m off c)
unfolding code_bytes
code_some m off c = append_some (ushort c.registers) _ (ushort_some c.registers)

-- class data has bytes
class_data_some : (m : Mentions) (d : Definition) (offs : List ℕ) → 0 < length (class_data_bytes m d offs)
unfolding class_data_bytes
class_data_some m d offs = uleb128_some (length d.1.static_fields) _

-- each of the mapped items has bytes
map_some : {X : Type 0} (f : X → List ℕ) → ((x : X) → 0 < length (f x)) → (xs : List X) → All (λ x. 0 < length x) (map f xs)
map_some f each xs = All-map (λ x. 0 < length x) f xs (λ k d lt. each (get_or xs k d))

-- an item, if present, has bytes
abbrev IsSomeBytes : Option (List ℕ) → Type 0
IsSomeBytes o = IfSome o (λ x. 0 < length x)

-- all present items have bytes
present_some : (os : List (Option (List ℕ))) → All IsSomeBytes os → All (λ x. 0 < length x) (present os)
present_some [] h = All-nil (λ x. 0 < length x)
present_some (None ∷ os) h = present_some os (All-tail IsSomeBytes None os h)
present_some (Some x ∷ os) h = All-cons (λ x. 0 < length x) x (present os) (All-head IsSomeBytes (Some x) os h) (present_some os (All-tail IsSomeBytes (Some x) os h))

-- a property of the elements of two lists that are combined
zip_with_all : {X Y Z : Type 0} (P : Z → Type 0) (f : X → Y → Z) → ((x : X) (y : Y) → P (f x y)) → (xs : List X) (ys : List Y) → All P (zip_with f xs ys)
zip_with_all P f each [] ys = All-nil P
zip_with_all P f each (x ∷ xs) [] = All-nil P
zip_with_all P f each (x ∷ xs) (y ∷ ys) = All-cons P (f x y) (zip_with f xs ys) (each x y) (zip_with_all P f each xs ys)

-- a directory, if present, begins with a number
unless_none : (b : Bool) (n : ℕ) (y : List ℕ) → IsSomeBytes (if b then None else Some (uint n ++ y))
unless_none true n y = tt
unless_none false n y = append_some (uint n) y (uint_some n)

-- a directory has bytes
directory_some : (m : Mentions) (d : Definition) (sets : SetOffsets) (refs : List ℕ) → IsSomeBytes (directory_bytes m d sets refs)
directory_some m d sets refs = unless_none _ sets.own _

-- all directories have bytes
directories_some : (K : Ordered) → All (λ x. 0 < length x) (directory_section K).items
unfolding directory_section
directories_some K =
    subst (All (λ x. 0 < length x)) (sym (map-id (present (directory_uses K (set_offsets K) (uses_offsets (ref_list_section K))))))
    (present_some (directory_uses K (set_offsets K) (uses_offsets (ref_list_section K)))
    (zip_with_all IsSomeBytes (λ d p. directory_bytes K.pools d p.0 p.1) (λ d p. directory_some K.pools d p.0 p.1) K.classes (zip (set_offsets K) (by_class K (uses_offsets (ref_list_section K))))))

-- a section's items have bytes
abbrev pub HasBytes : Placed → Type 0
HasBytes p = All (λ x. 0 < length x) p.items

-- the items of all sections have bytes
pub sections_have_bytes : (K : Ordered) → All HasBytes (data_sections K)
unfolding type_list_section annotation_section array_section string_section debug_section code_section class_data_section set_section ref_list_section
sections_have_bytes K = All-from_recursion HasBytes (data_sections K) (
  map_some (type_list_bytes K.pools) (λ ts. append_some (uint (length ts)) _ (uint_some (length ts))) (type_list_items K).written,
  (
    map_some (annotation_bytes K.pools) (λ a. omega arith) (flat_map (λ set. set) (set_items K).written),
    (
      map_some (encoded_array_bytes K.pools) (λ vs. uleb128_some (count_values vs) _) (own_items (static_values_uses K)).written,
      (
        map_some string_data (λ s. uleb128_some (length s) _) K.pools.texts,
        (
          map_some (debug_bytes K.pools) (debug_some K.pools) (debug_items K).written,
          (
            map_some (λ (p : Code × ℕ). code_bytes K.pools p.1 p.0) (λ p. code_some K.pools p.1 p.0) (own_items (code_uses K (uses_offsets (debug_section K)))).written,
            (
              map_some (λ (p : Definition × List ℕ). class_data_bytes K.pools p.0 p.1) (λ p. class_data_some K.pools p.0 p.1) (own_items (class_data_uses K (uses_offsets (code_section K)))).written,
              (
                map_some offsets_bytes (λ offs. append_some (uint (length offs)) _ (uint_some (length offs))) (annotation_offsets K),
                (
                  map_some offsets_bytes (λ offs. append_some (uint (length offs)) _ (uint_some (length offs))) (own_items (ref_list_uses K (set_offsets K))).written,
                  (
                    directories_some K,
                    tt,
                  ),
                ),
              ),
            ),
          ),
        ),
      ),
    ),
  ),
)

-- the sections are aligned to 4 bytes or not at all
pub sections_aligned : (K : Ordered) → All (λ p. IsAlign p.align) (data_sections K)
unfolding type_list_section annotation_section array_section string_section debug_section code_section class_data_section set_section ref_list_section directory_section
sections_aligned K = All-from_recursion (λ p. IsAlign p.align) (data_sections K)
    (inl refl, (inr refl, (inr refl, (inr refl, (inr refl, (inl refl, (inr refl, (inl refl, (inl refl, (inl refl, tt))))))))))

-- ---- the number of offsets

-- a number or none for each use
pub length-own_numbers : {X : Type 0} (n : ℕ) (uses : List (Option X)) → length (own_numbers n uses) ≡ length uses
length-own_numbers n [] = refl
length-own_numbers n (None ∷ uses) = ap suc (length-own_numbers n uses)
length-own_numbers n (Some x ∷ uses) = ap suc (length-own_numbers (n + 1) uses)

-- the offset of the item of each number, or 0 if there is none
abbrev pub numbers_offsets : List (Option ℕ) → List ℕ → List ℕ
numbers_offsets numbers offs = map (λ n. option_map_or (slice_index offs) n 0) numbers

-- an offset for each use
pub length-uses_offsets : {X : Type 0} (uses : List (Option X)) (offs : List ℕ) → length (numbers_offsets (own_items uses).numbers offs) ≡ length uses
length-uses_offsets uses offs = length-map (own_numbers 0 uses) _ ∙ length-own_numbers 0 uses

-- the same for shared items
pub length-shared_offsets : {X : Type 0} (same : X → X → Bool) (uses : List (Option X)) (offs : List ℕ) → length (numbers_offsets (shared_items same uses).numbers offs) ≡ length uses
length-shared_offsets same uses offs = length-map (shared_items same uses).numbers _ ∙ length-map uses _

-- the same for both kinds of sharing
pub length-items_offsets : {X : Type 0} (how : Sharing) (same : X → X → Bool) (uses : List (Option X)) (offs : List ℕ) → length (numbers_offsets (items_by how same uses).numbers offs) ≡ length uses
length-items_offsets EqualOnce same uses offs = length-shared_offsets same uses offs
length-items_offsets EachForItself same uses offs = length-uses_offsets uses offs

-- a part for each length
pub length-chunks : {X : Type 0} (ns : List ℕ) (xs : List X) → length (chunks ns xs) ≡ length ns
length-chunks [] xs = refl
length-chunks (n ∷ ns) xs = ap suc (length-chunks ns (drop n xs))

-- two lists of one length are combined to a list of that length
pub length-zip_with : {X Y Z : Type 0} (f : X → Y → Z) (xs : List X) (ys : List Y) (n : ℕ) → length xs ≡ n → length ys ≡ n → length (zip_with f xs ys) ≡ n
length-zip_with f [] ys n e g = e
length-zip_with f (x ∷ xs) [] n e g = absurd (omega (arith, e, g))
length-zip_with f (x ∷ xs) (y ∷ ys) zero e g = absurd (omega (arith, e))
length-zip_with f (x ∷ xs) (y ∷ ys) (suc n) e g = ap suc (length-zip_with f xs ys n (omega (arith, e)) (omega (arith, g)))

-- the same for pairs
pub length-zip : {X Y : Type 0} (xs : List X) (ys : List Y) (n : ℕ) → length xs ≡ n → length ys ≡ n → length (zip xs ys) ≡ n
length-zip [] ys n e g = e
length-zip (x ∷ xs) [] n e g = absurd (omega (arith, e, g))
length-zip (x ∷ xs) (y ∷ ys) zero e g = absurd (omega (arith, e))
length-zip (x ∷ xs) (y ∷ ys) (suc n) e g = ap suc (length-zip xs ys n (omega (arith, e)) (omega (arith, g)))

-- a part for each class
pub length-by_class : {X : Type 0} (K : Ordered) (xs : List X) → length (by_class K xs) ≡ length K.classes
length-by_class K xs = length-chunks (map _ K.classes) xs ∙ length-map K.classes _

-- for each proto and each class
pub length-type_list_offsets : (K : Ordered) → length (uses_offsets (type_list_section K)) ≡ length K.pools.protos + length K.classes
unfolding type_list_section
length-type_list_offsets K =
    length-items_offsets K.sharing same_types (type_list_uses K) _ ∙ length-append (map _ K.pools.protos) (map _ K.classes)
    ∙ omega (arith, length-map K.pools.protos (λ p. unless_empty p.parameters), length-map K.classes (λ d. unless_empty d.1.interfaces))

-- an offset of static values for each class
pub length-array_offsets : (K : Ordered) → length (uses_offsets (array_section K)) ≡ length K.classes
unfolding array_section
length-array_offsets K = length-uses_offsets (static_values_uses K) _ ∙ length-map K.classes _

-- an offset of class data for each class
pub length-class_data_offsets : (K : Ordered) → length (uses_offsets (class_data_section K)) ≡ length K.classes
unfolding class_data_section
length-class_data_offsets K = length-uses_offsets (class_data_uses K (uses_offsets (code_section K))) _ ∙ length-zip_with _ K.classes (by_class K (uses_offsets (code_section K))) (length K.classes) refl (length-by_class K (uses_offsets (code_section K)))

-- offsets of sets for each class
pub length-set_offsets : (K : Ordered) → length (set_offsets K) ≡ length K.classes
unfolding set_offsets
length-set_offsets K = length-zip_with _ K.classes _ (length K.classes) refl (length-chunks (map _ K.classes) _ ∙ length-map K.classes _)

-- an offset of a directory for each class
pub length-directory_offsets : (K : Ordered) → length (uses_offsets (directory_section K)) ≡ length K.classes
unfolding directory_section
length-directory_offsets K =
    length-uses_offsets (directory_uses K (set_offsets K) (uses_offsets (ref_list_section K))) _
    ∙ length-zip_with _ K.classes (zip (set_offsets K) (by_class K (uses_offsets (ref_list_section K)))) (length K.classes) refl
    (length-zip (set_offsets K) (by_class K (uses_offsets (ref_list_section K))) (length K.classes) (length-set_offsets K) (length-by_class K (uses_offsets (ref_list_section K))))

-- an offset for each text
pub length-string_offsets : (K : Ordered) → length (offsets (string_section K)) ≡ length K.pools.texts
unfolding string_section
length-string_offsets K = length-offsets_from 1 (end (array_section K)) (map string_data K.pools.texts) ∙ length-map K.pools.texts string_data

-- offsets for each class row
pub length-class_offsets : (K : Ordered) → length (class_offsets K) ≡ length K.classes
length-class_offsets K =
    let n = length K.pools.protos in
    let interfaces : length (drop n (uses_offsets (type_list_section K))) ≡ length K.classes = length-drop n (uses_offsets (type_list_section K)) ∙ omega (arith, length-type_list_offsets K) in
    length-zip_with _ (zip (drop n (uses_offsets (type_list_section K))) (uses_offsets (directory_section K))) (zip (uses_offsets (class_data_section K)) (uses_offsets (array_section K))) (length K.classes)
    (length-zip (drop n (uses_offsets (type_list_section K))) (uses_offsets (directory_section K)) (length K.classes) interfaces (length-directory_offsets K))
    (length-zip (uses_offsets (class_data_section K)) (uses_offsets (array_section K)) (length K.classes) (length-class_data_offsets K) (length-array_offsets K))
