-- The file in which equal items are written once is at most as long as the one in which each use has its own: section
-- by section, the items of the first are covered by those of the second.
use Rattle.std.proofs.lemmas.List.Elements.{length_all_zip}
use Rattle.dexspec.proofs.Common.{AllZip, ◌≡◌, ℕ, zero, suc, ◌+◌, ◌*◌, ◌<◌, ◌≤◌, Bool, true, false, if◌then◌else◌, ◌==◌, List, [], ◌∷◌, ◌++◌, length, map, take, drop, zip, flat_map, get_or, refl, sym, ap, subst, ◌∙◌, arith, inl, inr, slice_index, Option, Some, None, concat, option_map_or, length-append, length-map, length-take, length-drop, Code, Mentions}
use Rattle.dexspec.specs.{present, chunks, zip_with, uint, round_up, Section, TableOf, Annotation, AnnotationSet, MethodDef, Definition, declared_fields, declared_methods, Collection, definitions, in_class_order, mentions, field_of, method_of, same_types, same_debug, same_set, type_list_bytes, annotation_bytes, debug_bytes, code_bytes, differences, encoded_method_bytes, class_data_bytes, offsets_bytes, field_index, method_index, EqualOnce, EachForItself, Items, Placed, offsets, offsets_from, uses_offsets, Ordered, is_empty_class, method_sets, class_sets, all_methods, type_list_uses, set_uses, debug_uses, code_uses, class_data_uses, by_class, SetOffsets, set_offsets_of, ref_list_uses, directory_uses, directory_bytes, unless_empty, own_numbers, pairs, pairs_bytes, end, data_start, type_list_section, set_items, annotation_section, annotation_offsets, array_section, string_section, debug_section, code_section, class_data_section, set_section, set_offsets, ref_list_section, directory_section, data_sections, placed_tables, map_of, unsigned_file, with_sums, ordered, canonical}
use Rattle.dexspec.proofs.numbers.ByteNumbers.{length-uint}
use Rattle.dexspec.proofs.layout.Places.{length-padding, length-offsets_from, length-sections, sections_between}
use Rattle.dexspec.proofs.layout.Placements.{numbers_offsets, sections_follow, length-chunks, length-items_offsets}
use Rattle.dexspec.proofs.layout.Tables.{length-table_bytes, length-header_bytes}
use Rattle.dexspec.proofs.layout.MapEntries.{length-map_bytes}
use Rattle.dexspec.proofs.sharing.Sameness.{set_decides}
use Rattle.dexspec.proofs.layout.Uses.{IsNumber, AreNumbered, items_numbered, number_offset, length-debug_offsets}
use Rattle.dexspec.proofs.sharing.Shorter.{IsCovered, covered_itself, covered_then, covered_few, covered_items, covered_lists, end_covered, AreBelow, uses_below, zip_take, zip_drop, zip_chunks, zip_from, zip_map, zip_combine, zip_pairs, uleb128_most, AreEquivalent, AllEquivalent, ListsEquivalent, not_zero, zero_equivalent, equivalent_first, firsts_equivalent, offsets_equivalent, uses_equivalent, IsCoveredUse, AreCoveredUses, covered_present, covered_numbers, covered_count, offsets_below, pairs_equivalent}
use Rattle.dexspec.proofs.layout.Sums.{length-with_sums}
use Rattle.dexspec.proofs.written.DirectoriesWritten.{pairs_size}
use Rattle.dexspec.proofs.size.SizeItems.{offsets_bytes-size}

-- ---- code

code_same : (m : Mentions) (c : Code) (o p : ℕ) → length (code_bytes m o c) ≤ length (code_bytes m p c)
unfolding code_bytes
code_same m c o p = omega (arith, length-append {A = ℕ}, length-uint)

-- code with the offset of its debug program
abbrev code_item : Mentions → Code × ℕ → List ℕ
code_item m p = code_bytes m p.1 p.0

code_use : (m : Mentions) (c : Option Code) (o p : ℕ) → IsCoveredUse (code_item m) (code_item m) (option_map_or (λ c. Some (c, o)) c None) (option_map_or (λ c. Some (c, p)) c None)
code_use m None o p = tt
code_use m (Some c) o p = code_same m c o p

codes_covered : (m : Mentions) (xs : List MethodDef) (os ps : List ℕ) → length os ≡ length ps
    → AreCoveredUses (code_item m) (code_item m) (zip_with (λ x o. option_map_or (λ c. Some (c, o)) x.code None) xs os) (zip_with (λ x o. option_map_or (λ c. Some (c, o)) x.code None) xs ps)
codes_covered m xs os ps e = zip_combine (λ (o p : ℕ). Unit {0}) (IsCoveredUse (code_item m) (code_item m)) _ _ (λ x o p h. code_use m x.code o p) xs os ps (zip_from (λ (o p : ℕ). Unit {0}) 0 0 os ps e (λ k lt. tt))

-- ---- class data

methods_most : (xs : List MethodDef) (ds os ps : List ℕ) → AreBelow os ps → length (concat (zip_with encoded_method_bytes xs (zip ds os))) ≤ length (concat (zip_with encoded_method_bytes xs (zip ds ps)))
methods_most (x ∷ xs) (d ∷ ds) [] (p ∷ ps) h = absurd h
methods_most (x ∷ xs) (d ∷ ds) (o ∷ os) [] h = absurd h
methods_most (x ∷ xs) (d ∷ ds) (o ∷ os) (p ∷ ps) h = omega (arith, length-append {A = ℕ}, uleb128_most o p h.0, methods_most xs ds os ps h.1)
methods_most _ _ _ _ h = omega arith

class_data_most : (m : Mentions) (d : Definition) (os ps : List ℕ) → AreBelow os ps → length (class_data_bytes m d os) ≤ length (class_data_bytes m d ps)
unfolding class_data_bytes
class_data_most m (name, c) os ps h =
    let n = length c.direct_methods in
    let direct = differences 0 (map (λ x. method_index m (method_of name x)) c.direct_methods) in
    let virtual = differences 0 (map (λ x. method_index m (method_of name x)) c.virtual_methods) in
    omega (arith, length-append {A = ℕ}, methods_most c.direct_methods direct (take n os) (take n ps) (zip_take ◌≤◌ n os ps h), methods_most c.virtual_methods virtual (drop n os) (drop n ps) (zip_drop ◌≤◌ n os ps h))

-- a class with the offsets of its code
abbrev data_item : Mentions → Definition × List ℕ → List ℕ
data_item m p = class_data_bytes m p.0 p.1

data_use : (m : Mentions) (d : Definition) (os ps : List ℕ) → AreBelow os ps → (b : Bool) → IsCoveredUse (data_item m) (data_item m) (if b then None else Some (d, os)) (if b then None else Some (d, ps))
data_use m d os ps h true = tt
data_use m d os ps h false = class_data_most m d os ps h

-- ---- sets

abbrev nowhere : Annotation → ℕ
nowhere a = 0

-- the offsets of the annotations of a set, each zero
abbrev blank : AnnotationSet → List ℕ
blank set = offsets_bytes (map nowhere set)

length-blank : (set : AnnotationSet) → length (blank set) ≡ 4 + 4 * length set
length-blank set = offsets_bytes-size (map nowhere set) ∙ omega (arith, length-map set nowhere)

sets_under : (sets : List AnnotationSet) (os : List ℕ) → IsCovered (map offsets_bytes (chunks (map (λ set. length set) sets) os)) (map blank sets)
sets_under [] os = tt
sets_under (s ∷ sets) os = inl (omega (arith, offsets_bytes-size (take (length s) os), length-blank s, length-take (length s) os), sets_under sets (drop (length s) os))

sets_over : (sets : List AnnotationSet) (os : List ℕ) → length (flat_map (λ set. set) sets) ≤ length os → IsCovered (map blank sets) (map offsets_bytes (chunks (map (λ set. length set) sets) os))
sets_over [] os le = tt
sets_over (s ∷ sets) os le =
    inl (
      omega (arith, offsets_bytes-size (take (length s) os), length-blank s, length-take (length s) os, length-append s (flat_map (λ (set : AnnotationSet). set) sets), le),
      sets_over sets (drop (length s) os) (omega (arith, length-drop (length s) os, length-append s (flat_map (λ (set : AnnotationSet). set) sets), le)),
    )

-- ---- the offsets of sets

-- a use that is present begins after 0, and another use is at 0
abbrev IsMarked : {X : Type 0} → Option X → ℕ → Type 0
IsMarked None o = o ≡ 0
IsMarked (Some x) o = 0 < o

marked_by : {X : Type 0} (written : List X) (offs : List ℕ) → ((i : ℕ) → i < length written → 0 < slice_index offs i) → (u : Option X) (n : Option ℕ) → IsNumber u n written → IsMarked u (option_map_or (slice_index offs) n 0)
marked_by written offs some None n is = ap (λ k. option_map_or (slice_index offs) k 0) is
marked_by written offs some (Some x) n is = subst (λ k. 0 < option_map_or (slice_index offs) k 0) (sym is.2) (some is.0 is.1)

marked : {X : Type 0} (uses : List (Option X)) (its : Items X) (offs : List ℕ) → AreNumbered uses its → ((i : ℕ) → i < length its.written → 0 < slice_index offs i) → (k : ℕ) → k < length uses
    → IsMarked (get_or uses k None) (slice_index (numbers_offsets its.numbers offs) k)
marked uses its offs are some k lt =
    subst (IsMarked (get_or uses k None)) (sym (number_offset its.numbers offs k (omega (arith, are.count, lt))))
    (marked_by its.written offs some (get_or uses k None) (get_or its.numbers k None) (are.each k lt))

marks_equivalent : {X : Type 0} (u : Option X) (o p : ℕ) → IsMarked u o → IsMarked u p → AreEquivalent o p
marks_equivalent None o p h k = inl (h, k)
marks_equivalent (Some x) o p h k = inr (h, k)

-- items after 0 begin after 0
offset_some : (align from : ℕ) (xs : List (List ℕ)) → 0 < from → (i : ℕ) → i < length xs → 0 < slice_index (offsets_from align from xs) i
offset_some align from [] some i lt = absurd (omega (arith, lt))
offset_some align from (x ∷ xs) some zero lt = omega (arith, some, length-padding align from)
offset_some align from (x ∷ xs) some (suc i) lt = offset_some align (round_up align from + length x) xs (omega (arith, some, length-padding align from)) i (omega (arith, lt))

-- the sets of one class
record AreSetsEquivalent (s t : SetOffsets) : Type 0 where
  own : AreEquivalent s.own t.own
  fields : AllEquivalent s.fields t.fields
  methods : ListsEquivalent s.methods t.methods

sets_of_equivalent : (d : Definition) (os ps : List ℕ) → AllEquivalent os ps → AreSetsEquivalent (set_offsets_of d os) (set_offsets_of d ps)
sets_of_equivalent d os ps h =
    let n = length (declared_fields d.1) in
    record {
      own = equivalent_first os ps h;
      fields = zip_take AreEquivalent n (drop 1 os) (drop 1 ps) (zip_drop AreEquivalent 1 os ps h);
      methods = zip_chunks AreEquivalent (map (λ x. length (method_sets x)) (declared_methods d.1)) (drop (1 + n) os) (drop (1 + n) ps) (zip_drop AreEquivalent (1 + n) os ps h);
    }

-- ---- ref lists

ref_use : (os ps : List ℕ) → length os ≡ length ps → IsCoveredUse offsets_bytes offsets_bytes (unless_empty os) (unless_empty ps)
ref_use [] [] e = tt
ref_use (o ∷ os) (p ∷ ps) e = omega (arith, e, offsets_bytes-size (o ∷ os), offsets_bytes-size (p ∷ ps))
ref_use _ _ e = absurd (omega (arith, e))

uses_append : {X Y : Type 0} (g : X → List ℕ) (h : Y → List ℕ) (us us' : List (Option X)) (vs vs' : List (Option Y)) → AreCoveredUses g h us vs → AreCoveredUses g h us' vs' → AreCoveredUses g h (us ++ us') (vs ++ vs')
uses_append g h [] us' [] vs' c d = d
uses_append g h (u ∷ us) us' (v ∷ vs) vs' c d = (c.0, uses_append g h us us' vs vs' c.1 d)
uses_append g h _ us' _ vs' c d = absurd c

refs_covered : (ss ts : List SetOffsets) → AllZip AreSetsEquivalent ss ts
    → AreCoveredUses offsets_bytes offsets_bytes (flat_map (λ s. map (λ offs. unless_empty (drop 1 offs)) s.methods) ss) (flat_map (λ s. map (λ offs. unless_empty (drop 1 offs)) s.methods) ts)
refs_covered [] [] h = tt
refs_covered [] (t ∷ ts) h = absurd h
refs_covered (s ∷ ss) [] h = absurd h
refs_covered (s ∷ ss) (t ∷ ts) h =
    uses_append offsets_bytes offsets_bytes (map (λ offs. unless_empty (drop 1 offs)) s.methods) (flat_map (λ (s : SetOffsets). map (λ offs. unless_empty (drop 1 offs)) s.methods) ss)
    (map (λ offs. unless_empty (drop 1 offs)) t.methods) (flat_map (λ (s : SetOffsets). map (λ offs. unless_empty (drop 1 offs)) s.methods) ts)
    (zip_map AllEquivalent (IsCoveredUse offsets_bytes offsets_bytes) _ _ (λ os ps h. ref_use (drop 1 os) (drop 1 ps) (length_all_zip AreEquivalent (drop 1 os) (drop 1 ps) (zip_drop AreEquivalent 1 os ps h))) s.methods t.methods h.0.methods) (refs_covered ss ts h.1)

-- ---- directories

-- the bytes themselves
abbrev bytes : List ℕ → List ℕ
bytes x = x

unless_by : (b c : Bool) (x y : List ℕ) → b ≡ c → length x ≤ length y → IsCoveredUse bytes bytes (if b then None else Some x) (if c then None else Some y)
unless_by true true x y e le = tt
unless_by false false x y e le = le
unless_by _ _ x y e le = absurd cc

sum_equivalent : (o p n k : ℕ) → AreEquivalent o p → n ≡ k → (o + n == 0) ≡ (p + k == 0)
sum_equivalent o p n k (inl h) e = zero_equivalent (o + n) (p + k) (by n k e h)
  where
    by : (n k : ℕ) → n ≡ k → (o ≡ 0) × (p ≡ 0) → AreEquivalent (o + n) (p + k)
    by zero zero e h = inl (omega (arith, h.0), omega (arith, h.1))
    by (suc n) (suc k) e h = inr (omega arith, omega arith)
    by _ _ e h = absurd (omega (arith, e))
sum_equivalent o p n k (inr h) e = zero_equivalent (o + n) (p + k) (inr (omega (arith, h.0), omega (arith, h.1)))

directory_parts : (own : ℕ) (x y z : List (ℕ × ℕ)) → length (uint own ++ (uint (length x) ++ (uint (length y) ++ (uint (length z) ++ (pairs_bytes x ++ (pairs_bytes y ++ pairs_bytes z)))))) ≡ 16 + (8 * length x + (8 * length y + 8 * length z))
directory_parts own x y z = omega (arith, length-append {A = ℕ}, length-uint, pairs_size)

directory_use : (m : Mentions) (d : Definition) (s t : SetOffsets) (os ps : List ℕ) → AreSetsEquivalent s t → AllEquivalent os ps → IsCoveredUse bytes bytes (directory_bytes m d s os) (directory_bytes m d t ps)
directory_use m (name, c) s t os ps h k =
    let fields = map (λ f. field_index m (field_of name f)) (declared_fields c) in
    let methods = map (λ x. method_index m (method_of name x)) (declared_methods c) in
    let sm = map (λ (offs : List ℕ). slice_index offs 0) s.methods in
    let tm = map (λ (offs : List ℕ). slice_index offs 0) t.methods in
    let one : length (pairs fields s.fields) ≡ length (pairs fields t.fields) = pairs_equivalent fields s.fields t.fields h.fields in
    let two : length (pairs methods sm) ≡ length (pairs methods tm) = pairs_equivalent methods sm tm (firsts_equivalent s.methods t.methods h.methods) in
    let three : length (pairs methods os) ≡ length (pairs methods ps) = pairs_equivalent methods os ps k in
    let all : length (pairs fields s.fields) + (length (pairs methods sm) + length (pairs methods os)) ≡ length (pairs fields t.fields) + (length (pairs methods tm) + length (pairs methods ps)) = omega (arith, one, two, three) in
    unless_by _ _ _ _ (sum_equivalent s.own t.own _ _ h.own all)
    (omega (arith, directory_parts s.own (pairs fields s.fields) (pairs methods sm) (pairs methods os), directory_parts t.own (pairs fields t.fields) (pairs methods tm) (pairs methods ps), one, two, three))

-- ---- the length of a file

-- the entry of a section, if it has items
abbrev section_entry : Placed → List (Section × ℕ × ℕ)
section_entry p = if length p.items == 0 then [] else (p.kind, length p.items, slice_index (offsets p) 0) ∷ []

-- each section has at most as many items as the other at its place
abbrev AreFew : List Placed → List Placed → Type 0
AreFew = AllZip (λ p q. length p.items ≤ length q.items)

entry_most : (n k : ℕ) (e f : Section × ℕ × ℕ) → n ≤ k → length (if n == 0 then [] else e ∷ []) ≤ length (if k == 0 then [] else f ∷ [])
entry_most zero k e f le = omega arith
entry_most (suc n) zero e f le = absurd (omega (arith, le))
entry_most (suc n) (suc k) e f le = one (suc n == 0) (suc k == 0) (not_zero (suc k) (omega arith))
  where
    one : (b c : Bool) → c ≡ false → length (if b then [] else e ∷ []) ≤ length (if c then [] else f ∷ [])
    one b true is = absurd cc
    one true false is = omega arith
    one false false is = omega arith

sections_most : (ps qs : List Placed) → AreFew ps qs → length (flat_map section_entry ps) ≤ length (flat_map section_entry qs)
sections_most [] [] h = omega arith
sections_most [] (q ∷ qs) h = absurd h
sections_most (p ∷ ps) [] h = absurd h
sections_most (p ∷ ps) (q ∷ qs) h =
    let one = entry_most (length p.items) (length q.items) (p.kind, length p.items, slice_index (offsets p) 0) (q.kind, length q.items, slice_index (offsets q) 0) h.0 in
    omega (arith, length-append {A = Section × ℕ × ℕ}, one, sections_most ps qs h.1)

-- the entries of tables
abbrev table_entries : Ordered → List (Section × ℕ × ℕ)
table_entries K = flat_map (λ t. if t.1 == 0 then [] else (TableOf t.0, t.1, t.2) ∷ []) (placed_tables K)

round_up_least : (at last : ℕ) → at ≤ last → round_up 4 at ≤ round_up 4 last
round_up_least at last le = omega (arith, le)

-- the length of the file after its sums
file_length : (K : Ordered) → 32 + length (unsigned_file K) ≡ round_up 4 (end (directory_section K)) + (4 + 12 * (2 + (length (table_entries K) + length (flat_map section_entry (data_sections K)))))
unfolding unsigned_file
file_length K =
    let data_end = end (directory_section K) in
    let last = length-sections (data_start K) (data_sections K) data_end (sections_follow K) in
    omega (arith, length-append {A = ℕ}, length-append {A = Section × ℕ × ℕ}, length-header_bytes K, length-table_bytes K, last, length-padding 4 data_end, length-map_bytes (map_of K (round_up 4 data_end)))

-- ---- the sections of both forms

module _ (cs : List Definition) (m : Mentions) where
  -- equal items written once, and each use with its own item
  abbrev K : Ordered
  K = record { classes = cs; pools = m; sharing = EqualOnce }

  abbrev L : Ordered
  L = record { classes = cs; pools = m; sharing = EachForItself }

  type_lists_covered : IsCovered (type_list_section K).items (type_list_section L).items
  unfolding type_list_section
  type_lists_covered = covered_items (type_list_bytes m) same_types (present (type_list_uses K))

  type_list_end_most : end (type_list_section K) ≤ end (type_list_section L)
  unfolding type_list_section
  type_list_end_most = end_covered 4 (inl refl) (data_start K) (data_start L) (type_list_section K).items (type_list_section L).items type_lists_covered (omega arith)

  annotations_covered : IsCovered (annotation_section K).items (annotation_section L).items
  unfolding annotation_section
  annotations_covered = covered_lists (annotation_bytes m) same_set (present (set_uses K))

  annotation_end_most : end (annotation_section K) ≤ end (annotation_section L)
  unfolding annotation_section
  annotation_end_most = end_covered 1 (inr refl) (end (type_list_section K)) (end (type_list_section L)) (annotation_section K).items (annotation_section L).items annotations_covered type_list_end_most

  array_end_most : end (array_section K) ≤ end (array_section L)
  unfolding array_section
  array_end_most = end_covered 1 (inr refl) (end (annotation_section K)) (end (annotation_section L)) (array_section K).items (array_section L).items (covered_itself (array_section K).items) annotation_end_most

  string_end_most : end (string_section K) ≤ end (string_section L)
  unfolding string_section
  string_end_most = end_covered 1 (inr refl) (end (array_section K)) (end (array_section L)) (string_section K).items (string_section L).items (covered_itself (string_section K).items) array_end_most

  debugs_covered : IsCovered (debug_section K).items (debug_section L).items
  unfolding debug_section
  debugs_covered = covered_items (debug_bytes m) same_debug (present (debug_uses K))

  debug_end_most : end (debug_section K) ≤ end (debug_section L)
  unfolding debug_section
  debug_end_most = end_covered 1 (inr refl) (end (string_section K)) (end (string_section L)) (debug_section K).items (debug_section L).items debugs_covered string_end_most

  code_uses_covered : AreCoveredUses (code_item m) (code_item m) (code_uses K (uses_offsets (debug_section K))) (code_uses L (uses_offsets (debug_section L)))
  code_uses_covered = codes_covered m (all_methods cs) (uses_offsets (debug_section K)) (uses_offsets (debug_section L)) (length-debug_offsets K ∙ sym (length-debug_offsets L))

  codes_are_covered : IsCovered (code_section K).items (code_section L).items
  unfolding code_section
  codes_are_covered = covered_present (code_item m) (code_item m) (code_uses K (uses_offsets (debug_section K))) (code_uses L (uses_offsets (debug_section L))) code_uses_covered

  code_end_most : end (code_section K) ≤ end (code_section L)
  unfolding code_section
  code_end_most = end_covered 4 (inl refl) (end (debug_section K)) (end (debug_section L)) (code_section K).items (code_section L).items codes_are_covered debug_end_most

  code_offsets_below : AreBelow (uses_offsets (code_section K)) (uses_offsets (code_section L))
  unfolding code_section
  code_offsets_below =
      let us = code_uses K (uses_offsets (debug_section K)) in
      let vs = code_uses L (uses_offsets (debug_section L)) in
      subst (λ ns. AreBelow (numbers_offsets (own_numbers 0 us) (offsets (code_section K))) (numbers_offsets ns (offsets (code_section L)))) (covered_numbers (code_item m) (code_item m) 0 us vs code_uses_covered)
      (uses_below (offsets (code_section K)) (offsets (code_section L)) (offsets_below (code_item m) (code_item m) 4 (end (debug_section K)) (end (debug_section L)) (inl refl) us vs code_uses_covered debug_end_most) (own_numbers 0 us))

  data_uses_covered : AreCoveredUses (data_item m) (data_item m) (class_data_uses K (uses_offsets (code_section K))) (class_data_uses L (uses_offsets (code_section L)))
  data_uses_covered =
      zip_combine AreBelow (IsCoveredUse (data_item m) (data_item m)) _ _ (λ d os ps h. data_use m d os ps h (is_empty_class d.1)) cs (by_class K (uses_offsets (code_section K))) (by_class L (uses_offsets (code_section L)))
      (zip_chunks ◌≤◌ (map (λ d. length (declared_methods d.1)) cs) (uses_offsets (code_section K)) (uses_offsets (code_section L)) code_offsets_below)

  class_data_covered : IsCovered (class_data_section K).items (class_data_section L).items
  unfolding class_data_section
  class_data_covered = covered_present (data_item m) (data_item m) (class_data_uses K (uses_offsets (code_section K))) (class_data_uses L (uses_offsets (code_section L))) data_uses_covered

  class_data_end_most : end (class_data_section K) ≤ end (class_data_section L)
  unfolding class_data_section
  class_data_end_most = end_covered 1 (inr refl) (end (code_section K)) (end (code_section L)) (class_data_section K).items (class_data_section L).items class_data_covered code_end_most

  sets_covered : IsCovered (set_section K).items (set_section L).items
  unfolding annotation_offsets set_section annotation_section
  sets_covered =
      let once = (set_items K).written in
      let each = (set_items L).written in
      let all : length (flat_map (λ (set : AnnotationSet). set) each) ≤ length (offsets (annotation_section L)) =
      omega (arith, length-offsets_from 1 (end (type_list_section L)) (annotation_section L).items, length-map (flat_map (λ (set : AnnotationSet). set) each) (annotation_bytes m)) in
      covered_then (map offsets_bytes (chunks (map (λ set. length set) once) (offsets (annotation_section K)))) (map blank once) (map offsets_bytes (chunks (map (λ set. length set) each) (offsets (annotation_section L))))
      (sets_under once (offsets (annotation_section K)))
      (covered_then (map blank once) (map blank each) (map offsets_bytes (chunks (map (λ set. length set) each) (offsets (annotation_section L)))) (covered_items blank same_set (present (set_uses K))) (sets_over each (offsets (annotation_section L)) all))

  set_end_most : end (set_section K) ≤ end (set_section L)
  unfolding set_section
  set_end_most = end_covered 4 (inl refl) (end (class_data_section K)) (end (class_data_section L)) (set_section K).items (set_section L).items sets_covered class_data_end_most

  -- ---- items that hold offsets of sets

  -- a section of the data begins after the header
  set_from_some : (J : Ordered) → 0 < end (class_data_section J)
  unfolding set_section
  set_from_some J = let h = sections_between (data_start J) (data_sections J) (end (directory_section J)) 7 (set_section J) (sections_follow J) (omega arith) in omega (arith, h.0)

  ref_from_some : (J : Ordered) → 0 < end (set_section J)
  unfolding ref_list_section
  ref_from_some J = let h = sections_between (data_start J) (data_sections J) (end (directory_section J)) 8 (set_section J) (sections_follow J) (omega arith) in omega (arith, h.0)

  set_count : (J : Ordered) → length (set_section J).items ≡ length (set_items J).written
  unfolding annotation_offsets set_section
  set_count J =
      length-map (chunks (map (λ set. length set) (set_items J).written) (offsets (annotation_section J))) offsets_bytes
      ∙ length-chunks (map (λ set. length set) (set_items J).written) (offsets (annotation_section J)) ∙ length-map (set_items J).written (λ set. length set)

  -- the offset of each use's set
  abbrev set_places : Ordered → List ℕ
  set_places J = uses_offsets (set_section J)

  set_marked : (J : Ordered) (k : ℕ) → k < length (set_uses J) → IsMarked (get_or (set_uses J) k None) (slice_index (set_places J) k)
  unfolding set_section
  set_marked J k lt =
      marked (set_uses J) (set_items J) (offsets (set_section J)) (items_numbered J.sharing same_set set_decides (set_uses J))
      (λ i less. offset_some 4 (end (class_data_section J)) (set_section J).items (set_from_some J) i (omega (arith, less, set_count J))) k lt

  length-set_places : (J : Ordered) → length (set_places J) ≡ length (set_uses J)
  unfolding set_section
  length-set_places J = length-items_offsets J.sharing same_set (set_uses J) (offsets (set_section J))

  set_places_equivalent : AllEquivalent (set_places K) (set_places L)
  set_places_equivalent =
      zip_from AreEquivalent 0 0 (set_places K) (set_places L) (length-set_places K ∙ sym (length-set_places L))
      (λ k lt.
      let less : k < length (set_uses K) = omega (arith, lt, length-set_places K) in
      marks_equivalent (get_or (set_uses K) k None) (slice_index (set_places K) k) (slice_index (set_places L) k) (set_marked K k less) (set_marked L k less))

  sets_equivalent : AllZip AreSetsEquivalent (set_offsets K) (set_offsets L)
  unfolding set_offsets
  sets_equivalent =
      let counts = map (λ d. length (class_sets d)) cs in
      zip_combine AllEquivalent AreSetsEquivalent set_offsets_of set_offsets_of sets_of_equivalent cs (chunks counts (set_places K)) (chunks counts (set_places L)) (zip_chunks AreEquivalent counts (set_places K) (set_places L) set_places_equivalent)

  ref_uses_covered : AreCoveredUses offsets_bytes offsets_bytes (ref_list_uses K (set_offsets K)) (ref_list_uses L (set_offsets L))
  ref_uses_covered = refs_covered (set_offsets K) (set_offsets L) sets_equivalent

  ref_lists_covered : IsCovered (ref_list_section K).items (ref_list_section L).items
  unfolding ref_list_section
  ref_lists_covered = covered_present offsets_bytes offsets_bytes (ref_list_uses K (set_offsets K)) (ref_list_uses L (set_offsets L)) ref_uses_covered

  ref_list_end_most : end (ref_list_section K) ≤ end (ref_list_section L)
  unfolding ref_list_section
  ref_list_end_most = end_covered 4 (inl refl) (end (set_section K)) (end (set_section L)) (ref_list_section K).items (ref_list_section L).items ref_lists_covered set_end_most

  ref_places_equivalent : AllEquivalent (uses_offsets (ref_list_section K)) (uses_offsets (ref_list_section L))
  unfolding ref_list_section
  ref_places_equivalent =
      let us = ref_list_uses K (set_offsets K) in
      let vs = ref_list_uses L (set_offsets L) in
      subst (λ ns. AllEquivalent (numbers_offsets (own_numbers 0 us) (offsets (ref_list_section K))) (numbers_offsets ns (offsets (ref_list_section L)))) (covered_numbers offsets_bytes offsets_bytes 0 us vs ref_uses_covered)
      (uses_equivalent (offsets (ref_list_section K)) (offsets (ref_list_section L))
      (offsets_equivalent 4 (end (set_section K)) (end (set_section L)) (ref_list_section K).items (ref_list_section L).items (covered_count offsets_bytes offsets_bytes us vs ref_uses_covered) (ref_from_some K) (ref_from_some L)) (own_numbers 0 us))

  directory_uses_covered : AreCoveredUses bytes bytes (directory_uses K (set_offsets K) (uses_offsets (ref_list_section K))) (directory_uses L (set_offsets L) (uses_offsets (ref_list_section L)))
  directory_uses_covered =
      zip_combine (λ p q. AreSetsEquivalent p.0 q.0 × AllEquivalent p.1 q.1) (IsCoveredUse bytes bytes) _ _ (λ d p q h. directory_use m d p.0 q.0 p.1 q.1 h.0 h.1) cs _ _
      (zip_pairs AreSetsEquivalent AllEquivalent (set_offsets K) (set_offsets L) (by_class K (uses_offsets (ref_list_section K))) (by_class L (uses_offsets (ref_list_section L))) sets_equivalent
      (zip_chunks AreEquivalent (map (λ d. length (declared_methods d.1)) cs) (uses_offsets (ref_list_section K)) (uses_offsets (ref_list_section L)) ref_places_equivalent))

  directories_are_covered : IsCovered (directory_section K).items (directory_section L).items
  unfolding directory_section
  directories_are_covered =
      covered_present bytes bytes (directory_uses K (set_offsets K) (uses_offsets (ref_list_section K))) (directory_uses L (set_offsets L) (uses_offsets (ref_list_section L))) directory_uses_covered

  directory_end_most : end (directory_section K) ≤ end (directory_section L)
  unfolding directory_section
  directory_end_most = end_covered 4 (inl refl) (end (ref_list_section K)) (end (ref_list_section L)) (directory_section K).items (directory_section L).items directories_are_covered ref_list_end_most

  -- ---- the map

  entries_most : length (flat_map section_entry (data_sections K)) ≤ length (flat_map section_entry (data_sections L))
  unfolding array_section string_section
  entries_most =
      sections_most (data_sections K) (data_sections L) (
        covered_few (type_list_section K).items (type_list_section L).items type_lists_covered,
        (
          covered_few (annotation_section K).items (annotation_section L).items annotations_covered,
          (
            omega arith,
            (
              omega arith,
              (
                covered_few (debug_section K).items (debug_section L).items debugs_covered,
                (
                  covered_few (code_section K).items (code_section L).items codes_are_covered,
                  (
                    covered_few (class_data_section K).items (class_data_section L).items class_data_covered,
                    (
                      covered_few (set_section K).items (set_section L).items sets_covered,
                      (covered_few (ref_list_section K).items (ref_list_section L).items ref_lists_covered, (covered_few (directory_section K).items (directory_section L).items directories_are_covered, tt)),
                    ),
                  ),
                ),
              ),
            ),
          ),
        ),
      )

  -- ---- the file

  pub shared_no_longer : length (unsigned_file K) ≤ length (unsigned_file L)
  shared_no_longer = omega (arith, file_length K, file_length L, entries_most, round_up_least (end (directory_section K)) (end (directory_section L)) directory_end_most)

-- definitions in order, each use with an item of its own
abbrev each_for_itself : List Definition → Ordered
each_for_itself D = record { classes = in_class_order D; pools = mentions D; sharing = EachForItself }

-- the whole file is no longer
pub ordered_no_longer : (D : List Definition) → length (with_sums (unsigned_file (ordered D))) ≤ length (with_sums (unsigned_file (each_for_itself D)))
ordered_no_longer D = omega (arith, length-with_sums (unsigned_file (ordered D)), length-with_sums (unsigned_file (each_for_itself D)), shared_no_longer (in_class_order D) (mentions D))

-- the file of a collection is no longer
pub canonical_no_longer : (K : Collection) → length (canonical K) ≤ length (with_sums (unsigned_file (each_for_itself (definitions K))))
unfolding canonical
canonical_no_longer K = ordered_no_longer (definitions K)
