-- How many items each section of the data has, and how long the longest of several is.
use Rattle.dexlayout.proofs.Common.{◌≡◌, ℕ, ◌+◌, ◌<◌, ◌≤◌, ◌^◌, Bool, true, false, cond, List, [], ◌∷◌, ◌++◌, length, map, Option, None, Some, refl, sym, ap, ◌∙◌, arith, ◌==◌, not, ne_eqb, length-map, present, round_up, Code, Definition, Mentions, string_data, code_bytes, encoded_array_bytes, class_data_bytes, offsets_bytes, own_items, uses_offsets, offsets_from, end_from, offsets, Ordered, static_values_uses, code_uses, class_data_uses, ref_list_uses, directory_uses, end, Placed, data_start, type_list_section, annotation_section, array_section, string_section, debug_section, code_section, class_data_section, set_section, set_offsets, ref_list_section, directory_section, length-padding, items_few, length-offsets_from, sections_have_bytes, numbers_offsets, HasBytes, NumberedClass, ItemPlaces, AreLaidSo, ordered_of, none_from, pass, put_at, place_uses, AreData, AreWritable}
use Rattle.dexlayout.specs.{count_placed}
use Rattle.std.proofs.lemmas.List.Sums.{sum_by-append}
use Rattle.dexlayout.specs.declared.data.Data.{Data}
use Rattle.dexlayout.proofs.Ends.{EndInFile, chained, end_in_file}
use Rattle.dexlayout.proofs.EncodedUses.{sizes, own_encoded}

-- ---- offsets of items

-- nothing before
plus_zero : (n : ℕ) → 0 + n ≡ n
plus_zero n = omega arith

-- an offset more
count_more : (offs : List ℕ) (o : ℕ) (b : Bool) → not (o == 0) ≡ b → count_placed (offs ++ o ∷ []) ≡ count_placed offs + cond b 1 0
count_more offs o b e = sum_by-append (λ (k : ℕ). cond (not (k == 0)) 1 0) offs (o ∷ []) ∙ ap (λ n. count_placed offs + n) (plus_zero (cond (not (o == 0)) 1 0)) ∙ ap (λ c. count_placed offs + cond c 1 0) e

-- that of an item
count_item : (offs : List ℕ) (o : ℕ) → 0 < o → count_placed (offs ++ o ∷ []) ≡ count_placed offs + 1
count_item offs o some = count_more offs o true (ap not (ne_eqb o 0 (λ e. omega (arith, some, e))))

-- that of none
count_none : (offs : List ℕ) → count_placed (offs ++ 0 ∷ []) ≡ count_placed offs
count_none offs = count_more offs 0 false refl ∙ omega arith

module _ {X : Type 0} (f : X → List ℕ) (align : ℕ) where
  count_go : (us : List (Option X)) (p : ItemPlaces) → 0 < p.end → count_placed (place_uses align p (sizes f us)).offsets ≡ count_placed p.offsets + length (present us)
  count_go [] p some = omega arith
  count_go (None ∷ us) p some = count_go us (pass p) some ∙ ap (λ n. n + length (present us)) (count_none p.offsets)
  count_go (Some x ∷ us) p some =
      let o = round_up align p.end in
      let here : 0 < o = omega (arith, some, length-padding align p.end) in
      count_go us (put_at p o (length (f x))) (omega (arith, here)) ∙ ap (λ n. n + length (present us)) (count_item p.offsets o here) ∙ omega arith

  -- as many as items
  pub own_count : (from : ℕ) (us : List (Option X)) → 0 < from → count_placed (numbers_offsets (own_items us).numbers (offsets_from align from (map f (own_items us).written))) ≡ length (map f (own_items us).written)
  own_count from us some = ap count_placed (sym (own_encoded f align from us).offsets_are) ∙ count_go us (none_from from) some ∙ plus_zero (length (present us)) ∙ sym (length-map (present us) f)

-- ---- those of each section

-- the data begins after the header
pub starts : (K : Ordered) → 0 < data_start K
starts K = omega arith

array_count : (K : Ordered) → count_placed (uses_offsets (array_section K)) ≡ length (array_section K).items
unfolding array_section
array_count K = own_count (encoded_array_bytes K.pools) 1 (end (annotation_section K)) (static_values_uses K) (omega (arith, starts K, chained K))

code_count : (K : Ordered) → count_placed (uses_offsets (code_section K)) ≡ length (code_section K).items
unfolding code_section
code_count K = own_count (λ (p : Code × ℕ). code_bytes K.pools p.1 p.0) 4 (end (debug_section K)) (code_uses K (uses_offsets (debug_section K))) (omega (arith, starts K, chained K))

class_data_count : (K : Ordered) → count_placed (uses_offsets (class_data_section K)) ≡ length (class_data_section K).items
unfolding class_data_section
class_data_count K = own_count (λ (p : Definition × List ℕ). class_data_bytes K.pools p.0 p.1) 1 (end (code_section K)) (class_data_uses K (uses_offsets (code_section K))) (omega (arith, starts K, chained K))

ref_list_count : (K : Ordered) → count_placed (uses_offsets (ref_list_section K)) ≡ length (ref_list_section K).items
unfolding ref_list_section
ref_list_count K = own_count offsets_bytes 4 (end (set_section K)) (ref_list_uses K (set_offsets K)) (omega (arith, starts K, chained K))

directory_count : (K : Ordered) → count_placed (uses_offsets (directory_section K)) ≡ length (directory_section K).items
unfolding directory_section
directory_count K = own_count (λ (x : List ℕ). x) 4 (end (ref_list_section K)) (directory_uses K (set_offsets K) (uses_offsets (ref_list_section K))) (omega (arith, starts K, chained K))

-- an offset for each item
length-offsets : (p : Placed) → length (offsets p) ≡ length p.items
length-offsets p = length-offsets_from p.align p.from p.items

-- no more items than where they end
few : (p : Placed) → HasBytes p → end p ≤ 2 ^ 30 → length p.items ≤ 2 ^ 30
few p some le = omega (arith, le, items_few p.align p.from p.items some)

-- as many as a section has, which are no more than the file may have bytes
abbrev AreAsMany : ℕ → Placed → Type 0
AreAsMany n p = (n ≡ length p.items) × (length p.items ≤ 2 ^ 30)

-- the data has as many items of each section as the file
pub record AreCounted (K : Ordered) (d : Data) : Type 0 where
  pub type_lists : AreAsMany d.first_sections.type_lists.count (type_list_section K)
  pub annotations : AreAsMany (length d.first_sections.annotations.places.offsets) (annotation_section K)
  pub arrays : AreAsMany (count_placed d.first_sections.static_values.places.offsets) (array_section K)
  pub strings : AreAsMany (length K.pools.texts) (string_section K)
  pub debugs : AreAsMany d.bodies.debugs.count (debug_section K)
  pub codes : AreAsMany (count_placed d.bodies.codes.places.offsets) (code_section K)
  pub class_data : AreAsMany (count_placed d.bodies.class_data.places.offsets) (class_data_section K)
  pub sets : AreAsMany (length d.back.sets.written.places.offsets) (set_section K)
  pub ref_lists : AreAsMany (count_placed d.back.ref_lists.offsets) (ref_list_section K)
  pub directories : AreAsMany (count_placed d.back.directories.places.offsets) (directory_section K)

pub counted : {m : Mentions} {cs : List NumberedClass} {d : Data} → AreWritable m cs → AreData m cs d → AreCounted (ordered_of m cs) d
unfolding string_section
counted {m} {cs} {d} w h =
    let K = ordered_of m cs in
    let ends = end_in_file K w.fits in
    let b = sections_have_bytes K in
    let t = type_list_section K in
    record {
      type_lists = (h.first_sections_are.type_lists_are.count_is, few (type_list_section K) (b 0 t (omega arith)) ends.type_lists);
      annotations = (ap (λ (os : List ℕ). length os) h.first_sections_are.annotations_are.places_are.offsets_are ∙ length-offsets (annotation_section K), few (annotation_section K) (b 1 t (omega arith)) ends.annotations);
      arrays = (ap count_placed h.first_sections_are.static_values_are.places_are.offsets_are ∙ array_count K, few (array_section K) (b 2 t (omega arith)) ends.arrays);
      strings = (sym (length-map m.texts string_data), few (string_section K) (b 3 t (omega arith)) ends.strings);
      debugs = (h.bodies_are.debugs_are.count_is, few (debug_section K) (b 4 t (omega arith)) ends.debugs);
      codes = (ap count_placed h.bodies_are.codes_are.places_are.offsets_are ∙ code_count K, few (code_section K) (b 5 t (omega arith)) ends.codes);
      class_data = (ap count_placed h.bodies_are.class_data_are.places_are.offsets_are ∙ class_data_count K, few (class_data_section K) (b 6 t (omega arith)) ends.class_data);
      sets = (ap (λ (os : List ℕ). length os) h.back_are.sets_are.written_are.places_are.offsets_are ∙ length-offsets (set_section K), few (set_section K) (b 7 t (omega arith)) ends.sets);
      ref_lists = (ap count_placed h.back_are.ref_lists_are.offsets_are ∙ ref_list_count K, few (ref_list_section K) (b 8 t (omega arith)) ends.ref_lists);
      directories = (ap count_placed h.back_are.directories_are.places_are.offsets_are ∙ directory_count K, few (directory_section K) (b 9 t (omega arith)) ends.directories);
    }

-- ---- texts

-- the texts are after the static values
pub strings_at_ranks : (K : Ordered) (from : ℕ) {p : ItemPlaces} → from ≡ end (array_section K) → AreLaidSo (offsets_from 1 from (map string_data K.pools.texts)) (end_from 1 from (map string_data K.pools.texts)) p → AreLaidSo (offsets (string_section K)) (end (string_section K)) p
unfolding string_section
strings_at_ranks K from {p} e h = record { offsets_are = h.offsets_are ∙ ap (λ n. offsets_from 1 n (map string_data K.pools.texts)) e; end_is = h.end_is ∙ ap (λ n. end_from 1 n (map string_data K.pools.texts)) e }

-- and fit the file
pub strings_fit : (K : Ordered) (from : ℕ) → from ≡ end (array_section K) → EndInFile K → end_from 1 from (map string_data K.pools.texts) ≤ 2 ^ 30
unfolding string_section
strings_fit K from e ends = omega (arith, ap (λ n. end_from 1 n (map string_data K.pools.texts)) e, ends.strings)
