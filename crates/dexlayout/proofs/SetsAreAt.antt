-- The annotations of the sets of a file, and the sets that are written, at the offset of each use.
use Rattle.dexlayout.proofs.Common.{◌≡◌, ℕ, ◌<◌, ◌≤◌, ◌^◌, List, [], ◌∷◌, ◌++◌, Option, Some, length, get_or, map, refl, sym, ap, subst, ◌∙◌, arith, flat_map, length-map, map-append, get_or-map, map-map, AnnotationSet, Mentions, end, AnnotationItems, set_items, type_list_section, annotation_section, annotation_bytes, NumberedAnnotation, NumberedSet, annotation_in, set_in, IsKnownAnnotation, IsKnownSet, NumberedClass, drop, slice_index, Ordered, SetOffsets, offsets, set_section, set_offsets, annotation_offsets, class_data_section, AnnotationSets, offsets_bytes, length-chunks, length-offsets_from, ordered_of, file_end, AreAnnotations, annotation_items, encode_uses, no_items_from, EncodedItems, SetPlaces, AreItemsIn, AreSets, parts_of_classes, collect_classes, offset_lists, set_item, total, no_sets}
use Rattle.dexspec.specs.Annotations.{Annotation}
use Rattle.dexlayout.proofs.EncodedUses.{all_in}
use Rattle.dexlayout.proofs.Ends.{end_in_file}
use Rattle.dexlayout.proofs.RefLists.{total_lengths}
use Rattle.dexlayout.proofs.SetsCollected.{parts, set_use_offsets, set_offsets_are, collected_classes, classes_parts}

-- one of the mapped annotations is known
pub known_at : {X : Type 0} (m : Mentions) (g : X → NumberedAnnotation) (xs : List X) (i : ℕ) (x : X) → i < length xs → get_or xs i x ≡ x → IsKnownSet m (map g xs) → IsKnownAnnotation m (g x)
known_at m g xs i x lt is known = subst (IsKnownAnnotation m) (get_or-map g xs i x (g x) lt ∙ ap g is) (known i (g x) (omega (arith, lt, length-map xs g)))

-- the item of an annotation
abbrev item_of : Mentions → Annotation → Option (List ℕ)
item_of m a = Some (annotation_bytes m a)

-- the annotations of sets
abbrev all_of : List AnnotationSet → List Annotation
all_of ss = flat_map (λ (s : AnnotationSet). s) ss

-- their items, by numbers and by symbols
items_are : {X : Type 0} (m : Mentions) (g : X → NumberedSet) (xs : List X) → flat_map (λ x. annotation_items m (g x)) xs ≡ map (item_of m) (all_of (map (λ x. set_in m (g x)) xs))
items_are m g [] = refl
items_are m g (x ∷ xs) = (λ i. sym (map-map (item_of m) (annotation_in m) (g x)) i ++ items_are m g xs i) ∙ sym (map-append (item_of m) (set_in m (g x)) (all_of (map (λ y. set_in m (g y)) xs)))

-- encoded after the type lists they are those of the file
module _ {X : Type 0} (m : Mentions) (cs : List NumberedClass) (g : X → NumberedSet) (xs : List X) (are : map (λ x. set_in m (g x)) xs ≡ (set_items (ordered_of m cs)).written) (from : ℕ) (is : from ≡ end (type_list_section (ordered_of m cs))) where
  pub annotations_laid : AreAnnotations m cs (encode_uses 1 (no_items_from from) (flat_map (λ x. annotation_items m (g x)) xs))
  unfolding annotation_section
  annotations_laid = all_in 1 (annotation_bytes m) AnnotationItems (record { numbers = []; written = all_of (set_items (ordered_of m cs)).written }) is (items_are m g xs ∙ ap (λ ss. map (item_of m) (all_of ss)) are)

  -- and end within it
  pub annotations_fit : file_end (ordered_of m cs) ≤ 2 ^ 30 → (encode_uses 1 (no_items_from from) (flat_map (λ x. annotation_items m (g x)) xs)).places.end ≤ 2 ^ 30
  annotations_fit fits = omega (arith, annotations_laid.places_are.end_is, (end_in_file (ordered_of m cs) fits).annotations)

-- ---- the sets that are written

-- as many offsets as annotations
annotations_count : (K : Ordered) → length (offsets (annotation_section K)) ≡ length (flat_map (λ (s : AnnotationSet). s) (set_items K).written)
unfolding annotation_section
annotations_count K =
    let all = flat_map (λ (s : AnnotationSet). s) (set_items K).written in
    length-offsets_from 1 (annotation_section K).from (map (annotation_bytes K.pools) all) ∙ length-map all (annotation_bytes K.pools)

-- a list of offsets for each set
length-annotation_offsets : (K : Ordered) → length (annotation_offsets K) ≡ length (set_items K).written
unfolding annotation_offsets
length-annotation_offsets K = length-chunks (map (λ (s : AnnotationSet). length s) (set_items K).written) (offsets (annotation_section K)) ∙ length-map (set_items K).written (λ s. length s)

-- an offset for each set
pub length-set_offsets : (K : Ordered) → length (offsets (set_section K)) ≡ length (set_items K).written
unfolding set_section
length-set_offsets K = length-offsets_from 4 (end (class_data_section K)) (map offsets_bytes (annotation_offsets K)) ∙ length-map (annotation_offsets K) offsets_bytes ∙ length-annotation_offsets K

-- as many annotations as by numbers
annotation_counts_are : {X : Type 0} (m : Mentions) (g : X → NumberedSet) (xs : List X) → map (λ x. length (g x)) xs ≡ map (λ (s : AnnotationSet). length s) (map (λ x. set_in m (g x)) xs)
annotation_counts_are m g [] = refl
annotation_counts_are m g (x ∷ xs) = λ i. sym (length-map (g x) (annotation_in m)) i ∷ annotation_counts_are m g xs i

-- the sets that are written, from the offsets of the annotations
module _ {X : Type 0} (m : Mentions) (cs : List NumberedClass) (g : X → NumberedSet) (xs : List X) (are : map (λ x. set_in m (g x)) xs ≡ (set_items (ordered_of m cs)).written) (offs : List ℕ) (offsets_are : offs ≡ offsets (annotation_section (ordered_of m cs))) where
  counts : map (λ x. length (g x)) xs ≡ map (λ (s : AnnotationSet). length s) (set_items (ordered_of m cs)).written
  counts = annotation_counts_are m g xs ∙ ap (map (λ (s : AnnotationSet). length s)) are

  -- there are enough offsets
  pub annotations_enough : total (map (λ x. length (g x)) xs) ≤ length offs
  annotations_enough = omega (arith, ap total counts, total_lengths (set_items (ordered_of m cs)).written, annotations_count (ordered_of m cs), ap (λ (os : List ℕ). length os) offsets_are)

  -- encoded they are those of the file
  pub sets_laid : (from : ℕ) → from ≡ end (class_data_section (ordered_of m cs)) → AreItemsIn (set_section (ordered_of m cs)) (encode_uses 4 (no_items_from from) (offset_lists set_item (map (λ x. length (g x)) xs) offs))
  unfolding annotation_offsets set_section
  sets_laid from is = all_in 4 offsets_bytes AnnotationSets (record { numbers = (set_items (ordered_of m cs)).numbers; written = annotation_offsets (ordered_of m cs) }) is (λ i. offset_lists set_item (counts i) (offsets_are i))

-- ---- all sets

-- the offsets that were collected are those of the sets
pub sets_are : (m : Mentions) (cs : List NumberedClass) (offs : List ℕ) (written : EncodedItems) (p : SetPlaces) → p ≡ collect_classes (no_sets written) (parts_of_classes cs offs) → offs ≡ set_use_offsets (ordered_of m cs) → AreItemsIn (set_section (ordered_of m cs)) written → AreSets m cs p
sets_are m cs offs written p collected are laid =
    let K = ordered_of m cs in
    let ss : parts_of_classes cs offs ≡ set_offsets K = sym (classes_parts m cs offs) ∙ ap (parts K.classes) are ∙ sym (set_offsets_are K) in
    let all = collected ∙ collected_classes (no_sets written) (parts_of_classes cs offs) in
    record {
      own_are = ap (λ (q : SetPlaces). q.own) all ∙ ap (map (λ (s : SetOffsets). s.own)) ss;
      fields_are = ap (λ (q : SetPlaces). q.fields) all ∙ ap (flat_map (λ (s : SetOffsets). s.fields)) ss;
      methods_are = ap (λ (q : SetPlaces). q.methods) all ∙ ap (flat_map (λ (s : SetOffsets). map (λ os. slice_index os 0) s.methods)) ss;
      parameters_are = ap (λ (q : SetPlaces). q.parameters) all ∙ ap (flat_map (λ (s : SetOffsets). flat_map (drop 1) s.methods)) ss;
      written_are = subst (AreItemsIn (set_section K)) (sym (ap (λ (q : SetPlaces). q.written) all)) laid;
    }
