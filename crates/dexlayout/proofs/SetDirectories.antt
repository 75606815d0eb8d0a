-- The directories of classes: by numbers, they are the items of the file.
use Rattle.dexlayout.proofs.Common.{◌≡◌, ℕ, ◌+◌, ◌*◌, ◌<◌, ◌≤◌, Ordering, ◌⊎◌, inl, inr, List, [], ◌∷◌, length, get_or, map, take, drop, refl, sym, ap, ◌∙◌, arith, Some, None, All, slice_index, ◌==◌, flat_map, zip, option_map, cases_eq, ne_eqb, eq-eqb, length-append, length-map, length-take, length-drop, drop-drop, get_or-drop, All-head, All-tail, chunks, zip_with, in_order, add_in_order, MethodDef, declared_fields, declared_methods, Mentions, field_of, method_of, SetOffsets, pair_cmp, pairs, directory_bytes, directory_uses, end, uses_offsets, AnnotationsDirectories, field_index, method_index, set_offsets, ref_list_section, directory_section, length-chunks, length-set_offsets, RanksAreNumbers, NumberedMembers, fields_of, methods_of, method_in, count_placed, numbered_directory_bytes, NumberedClass, definition_of, IsKnownClass, take_at, drop_at, EncodedItems, SetPlaces, ordered_of, AreDirectories, AreSets, AreWritable, encode_use, encode_uses, no_items_from, directory_item, directory_items, sets_of_method, sets_of_class, parts_of_class, parts_of_classes, if◌then◌else◌}
use Rattle.std.specs.FinMap.Entries.{by_order}
use Rattle.std.specs.declared.cmp.Ordering.TheVariants.{Less, Equal, Greater}
use Rattle.dexspec.proofs.layout.Uses as uses
use Rattle.dexmembers.proofs.PairsMerged.{kept, placed_count}
use Rattle.dexmembers.proofs.DirectorySpelled as spelled
use Rattle.dexpool.specs.NumberedSymbols.{type_at}
use Rattle.dexlayout.proofs.CodeItems.{count_methods, methods_in_all}
use Rattle.dexlayout.proofs.EncodedUses.{own_in, own_same, use_encoded, use_fits, drop_next}
use Rattle.dexlayout.proofs.SetsCollected.{set_use_offsets, length-set_use_offsets, set_offsets_are, class_sets_count, classes_are_long, classes_parts, fields_count, methods_are}

-- ---- pairs

-- one of three lists that all have members
some_of : (r : Ordering) (xs ys zs : List (ℕ × ℕ)) → 0 < length xs → 0 < length ys → 0 < length zs → 0 < length (by_order r xs ys zs)
some_of Less xs ys zs h k l = h
some_of Equal xs ys zs h k l = k
some_of Greater xs ys zs h k l = l

-- what has been added to has members
added_some : (p : ℕ × ℕ) (ps : List (ℕ × ℕ)) → 0 < length (add_in_order pair_cmp p ps)
added_some p [] = omega arith
added_some p (q ∷ qs) = some_of (pair_cmp p q) (p ∷ q ∷ qs) (q ∷ qs) (q ∷ add_in_order pair_cmp p qs) (omega arith) (omega arith) (omega arith)

-- there are no pairs in order if and only if there are none
order_none : (ps : List (ℕ × ℕ)) → length (in_order pair_cmp ps) ≡ 0 → length ps ≡ 0
order_none [] e = refl
order_none (p ∷ ps) e = absurd (omega (arith, e, added_some p (in_order pair_cmp ps)))

none_order : (ps : List (ℕ × ℕ)) → length ps ≡ 0 → length (in_order pair_cmp ps) ≡ 0
none_order [] e = refl
none_order (p ∷ ps) e = absurd (omega (arith, e))

-- there are no pairs if and only if no offset is placed
module _ (is offs : List ℕ) (many : length offs ≡ length is) where
  no_pairs : length (pairs is offs) ≡ 0 → count_placed offs ≡ 0
  no_pairs e = sym (placed_count is offs many) ∙ order_none (kept (zip is offs)) e

  none_placed : count_placed offs ≡ 0 → length (pairs is offs) ≡ 0
  none_placed e = none_order (kept (zip is offs)) (placed_count is offs many ∙ e)

-- ---- one directory

-- by numbers and by symbols a class has no directory in one case, and else the same
same_item : (own f g h a b c : ℕ) (by_numbers bytes : List ℕ) → (f ≡ 0 → a ≡ 0) → (g ≡ 0 → b ≡ 0) → (h ≡ 0 → c ≡ 0) → (a ≡ 0 → f ≡ 0) → (b ≡ 0 → g ≡ 0) → (c ≡ 0 → h ≡ 0) → ((if own + (f + (g + h)) == 0 then None else Some bytes) ≡ Some bytes → by_numbers ≡ bytes)
    → (if own + (a + b + c) == 0 then None else Some by_numbers) ≡ (if own + (f + (g + h)) == 0 then None else Some bytes)
same_item own f g h a b c by_numbers bytes fa gb hc af bg ch are = elim (cases_eq (own + (f + (g + h))) 0) [
  | inl zero_all ↦ rw (eq-eqb (own + (f + (g + h))) 0 zero_all, eq-eqb (own + (a + b + c)) 0 (omega (arith, zero_all, fa (omega (arith, zero_all)), gb (omega (arith, zero_all)), hc (omega (arith, zero_all))))) refl
  | inr some ↦
      let is = ne_eqb (own + (f + (g + h))) 0 some in
      rw (is, ne_eqb (own + (a + b + c)) 0 (λ n. some (omega (arith, n, af (omega (arith, n)), bg (omega (arith, n)), ch (omega (arith, n)))))) (ap Some (are (rw is refl)))
]

-- a class without one is skipped
pub no_directory : (own n len : ℕ) (item : List ℕ) → len ≡ 16 + 8 * n → own ≡ 0 → len ≡ 16 → (if own + n == 0 then None else Some item) ≡ None
no_directory own n len item size o e = rw (eq-eqb (own + n) 0 (omega (arith, size, o, e))) refl

-- else its directory is put
directory_there : (own n len : ℕ) → len ≡ 16 + 8 * n → ((own ≡ 0) × (len ≡ 16 → ⊥)) ⊎ (own ≡ 0 → ⊥) → own + n ≡ 0 → ⊥
directory_there own n len size (inl h) none = h.1 (omega (arith, size, none))
directory_there own n len size (inr h) none = h (omega (arith, none))

pub some_directory : (own n len : ℕ) (item : List ℕ) → len ≡ 16 + 8 * n → ((own ≡ 0) × (len ≡ 16 → ⊥)) ⊎ (own ≡ 0 → ⊥) → (if own + n == 0 then None else Some item) ≡ Some item
some_directory own n len item size h = rw (ne_eqb (own + n) 0 (directory_there own n len size h)) refl

-- ---- the next directory

module _ (cs : List NumberedClass) (i : ℕ) (c : NumberedClass) (lt : i < length cs) (is : get_or cs i c ≡ c) where
  -- how many members are left
  next_fields : length (flat_map (λ c. fields_of c.members) (drop i cs)) ≡ length (fields_of c.members) + length (flat_map (λ c. fields_of c.members) (drop (i + 1) cs))
  next_fields = ap (λ l. length (flat_map (λ (c : NumberedClass). fields_of c.members) l)) (drop_next cs i c lt is) ∙ length-append (fields_of c.members) (flat_map (λ c. fields_of c.members) (drop (i + 1) cs))

  next_methods : length (flat_map (λ c. methods_of c.members) (drop i cs)) ≡ length (methods_of c.members) + length (flat_map (λ c. methods_of c.members) (drop (i + 1) cs))
  next_methods = ap (λ l. length (flat_map (λ (c : NumberedClass). methods_of c.members) l)) (drop_next cs i c lt is) ∙ length-append (methods_of c.members) (flat_map (λ c. methods_of c.members) (drop (i + 1) cs))

-- encoding the directories of the classes that are left, with the offsets that are left, gives all
pub record DirectoriesLeft (items : EncodedItems) (cs : List NumberedClass) (own fs ms ls : List ℕ) (all : EncodedItems) : Type 0 where
  pub enough_fields : length (flat_map (λ c. fields_of c.members) cs) ≤ length fs
  pub enough_methods : length (flat_map (λ c. methods_of c.members) cs) ≤ length ms
  pub enough_lists : length (flat_map (λ c. methods_of c.members) cs) ≤ length ls
  pub encoded : encode_uses 4 items (directory_items cs own fs ms ls) ≡ all

module _ {items all : EncodedItems} {fs ms ls : List ℕ} {ffs fms fls ofs oms ols : List ℕ} (cs : List NumberedClass) (own : List ℕ) (i : ℕ) (c : NumberedClass) (x : NumberedMembers) (n k : ℕ)
    (h : DirectoriesLeft items (drop i cs) (drop i own) fs ms ls all) (lt : i < length cs) (is : get_or cs i c ≡ c) (members : x ≡ c.members) (many_fields : n ≡ length (fields_of x)) (many_methods : k ≡ length (methods_of x))
    (front_fields : ffs ≡ take n fs) (front_methods : fms ≡ take k ms) (front_lists : fls ≡ take k ls) (back_fields : ofs ≡ drop n fs) (back_methods : oms ≡ drop k ms) (back_lists : ols ≡ drop k ls) where
  fields_are : n ≡ length (fields_of c.members)
  fields_are = many_fields ∙ ap (λ (y : NumberedMembers). length (fields_of y)) members

  methods_same : k ≡ length (methods_of c.members)
  methods_same = many_methods ∙ ap (λ (y : NumberedMembers). length (methods_of y)) members

  -- the directory is the next
  next_directory : directory_items (drop i cs) (drop i own) fs ms ls ≡ directory_item x (slice_index own i) ffs fms fls ∷ directory_items (drop (i + 1) cs) (drop (i + 1) own) ofs oms ols
  next_directory =
      let there : slice_index (drop i own) 0 ≡ slice_index own i = get_or-drop i own 0 0 ∙ ap (slice_index own) (omega arith) in
      rw (drop_next cs i c lt is, front_fields, front_methods, front_lists, back_fields, back_methods, back_lists, many_fields, many_methods, members, there, drop-drop 1 i own) refl

  -- it fits
  pub directories_fit : (encode_use 4 items (directory_item x (slice_index own i) ffs fms fls)).places.end ≤ all.places.end
  directories_fit = use_fits 4 items next_directory h.encoded

  -- it was encoded
  pub directories_more : {more : EncodedItems} → more ≡ encode_use 4 items (directory_item x (slice_index own i) ffs fms fls) → DirectoriesLeft more (drop (i + 1) cs) (drop (i + 1) own) ofs oms ols all
  directories_more here = record {
    enough_fields = omega (arith, h.enough_fields, next_fields cs i c lt is, fields_are, ap (λ (os : List ℕ). length os) back_fields, length-drop n fs);
    enough_methods = omega (arith, h.enough_methods, next_methods cs i c lt is, methods_same, ap (λ (os : List ℕ). length os) back_methods, length-drop k ms);
    enough_lists = omega (arith, h.enough_lists, next_methods cs i c lt is, methods_same, ap (λ (os : List ℕ). length os) back_lists, length-drop k ls);
    encoded = use_encoded 4 items next_directory h.encoded here;
  }

-- ---- the offsets of classes

-- the offsets of the first sets of methods
abbrev pub firsts : SetOffsets → List ℕ
firsts s = map (λ os. slice_index os 0) s.methods

-- as many as members
module _ (c : NumberedClass) (offs : List ℕ) where
  part_fields : length (sets_of_class c) ≤ length offs → length (parts_of_class c offs).fields ≡ length (fields_of c.members)
  part_fields le = omega (arith, length-take (length (fields_of c.members)) (drop 1 offs), length-drop 1 offs, class_sets_count c, le)

  part_methods : length (parts_of_class c offs).methods ≡ length (methods_of c.members)
  part_methods = length-chunks (map (λ x. length (sets_of_method x)) (methods_of c.members)) (drop (length (fields_of c.members)) (drop 1 offs)) ∙ length-map (methods_of c.members) (λ x. length (sets_of_method x))

  part_firsts : length (firsts (parts_of_class c offs)) ≡ length (methods_of c.members)
  part_firsts = length-map (parts_of_class c offs).methods (λ os. slice_index os 0) ∙ part_methods

-- as many as members of all classes
pub all_fields : (cs : List NumberedClass) (offs : List ℕ) → length (flat_map sets_of_class cs) ≤ length offs → length (flat_map (λ s. s.fields) (parts_of_classes cs offs)) ≡ length (flat_map (λ c. fields_of c.members) cs)
all_fields [] offs le = refl
all_fields (c ∷ cs) offs le =
    let n = length (sets_of_class c) in
    let count = length-append (sets_of_class c) (flat_map sets_of_class cs) in
    omega (
      arith,
      length-append (parts_of_class c offs).fields (flat_map (λ s. s.fields) (parts_of_classes cs (drop n offs))),
      length-append (fields_of c.members) (flat_map (λ c. fields_of c.members) cs),
      part_fields c offs (omega (arith, le, count)),
      all_fields cs (drop n offs) (omega (arith, le, count, length-drop n offs)),
    )

pub all_firsts : (cs : List NumberedClass) (offs : List ℕ) → length (flat_map firsts (parts_of_classes cs offs)) ≡ length (flat_map (λ c. methods_of c.members) cs)
all_firsts [] offs = refl
all_firsts (c ∷ cs) offs =
    let n = length (sets_of_class c) in
    omega (arith, length-append (firsts (parts_of_class c offs)) (flat_map firsts (parts_of_classes cs (drop n offs))), length-append (methods_of c.members) (flat_map (λ c. methods_of c.members) cs), part_firsts c offs, all_firsts cs (drop n offs))

-- ---- all directories

module _ (m : Mentions) (ranks : RanksAreNumbers m) where
  -- the directory of a class
  one_directory : (c : NumberedClass) → IsKnownClass m c → (s : SetOffsets) (lists : List ℕ) → length s.fields ≡ length (fields_of c.members) → length s.methods ≡ length (methods_of c.members) → length lists ≡ length (methods_of c.members)
      → directory_item c.members s.own s.fields (map (λ os. slice_index os 0) s.methods) lists ≡ directory_bytes m (definition_of m c) s lists
  one_directory c known s lists many_fields many_methods many_lists =
      let d = definition_of m c in
      let name = type_at m c.name in
      let firsts = map (λ os. slice_index os 0) s.methods in
      let fis = map (λ f. field_index m (field_of name f)) (declared_fields d.1) in
      let mis = map (λ x. method_index m (method_of name x)) (declared_methods d.1) in
      let fl : length s.fields ≡ length fis = omega (arith, many_fields, fields_count m c, length-map (declared_fields d.1) (λ f. field_index m (field_of name f))) in
      let mc : length (declared_methods d.1) ≡ length (methods_of c.members) = ap (λ (l : List MethodDef). length l) (methods_are m c) ∙ length-map (methods_of c.members) (method_in m) in
      let first_count : length firsts ≡ length (methods_of c.members) = length-map s.methods (λ os. slice_index os 0) ∙ many_methods in
      let ml : length firsts ≡ length mis = omega (arith, first_count, mc, length-map (declared_methods d.1) (λ x. method_index m (method_of name x))) in
      let ll : length lists ≡ length mis = omega (arith, many_lists, mc, length-map (declared_methods d.1) (λ x. method_index m (method_of name x))) in
      same_item s.own (length (pairs fis s.fields)) (length (pairs mis firsts)) (length (pairs mis lists)) (count_placed s.fields) (count_placed firsts) (count_placed lists) (numbered_directory_bytes c.members s.own s.fields firsts lists) _
      (no_pairs fis s.fields fl) (no_pairs mis firsts ml) (no_pairs mis lists ll) (none_placed fis s.fields fl) (none_placed mis firsts ml) (none_placed mis lists ll)
      (λ there. spelled.directory_spelled m ranks name d.1 c.members s.own s.fields firsts lists s _ known.members_known known.members_ordered known.members_own refl many_fields first_count many_lists refl refl refl there)

  -- the directories of all classes
  all_directories : (cs : List NumberedClass) → All (IsKnownClass m) cs → (offs lists : List ℕ) → length (flat_map sets_of_class cs) ≤ length offs → length (flat_map (λ c. methods_of c.members) cs) ≤ length lists
      → directory_items cs (map (λ s. s.own) (parts_of_classes cs offs)) (flat_map (λ s. s.fields) (parts_of_classes cs offs)) (flat_map firsts (parts_of_classes cs offs)) lists
      ≡ zip_with (λ d p. directory_bytes m d p.0 p.1) (map (definition_of m) cs) (zip (parts_of_classes cs offs) (chunks (map (λ d. length (declared_methods d.1)) (map (definition_of m) cs)) lists))
  all_directories [] known offs lists enough many = refl
  all_directories (c ∷ cs) known offs lists enough many =
      let s = parts_of_class c offs in
      let n = length (sets_of_class c) in
      let nf = length (fields_of c.members) in
      let nm = length (methods_of c.members) in
      let ss = parts_of_classes cs (drop n offs) in
      let fs = flat_map (λ (s : SetOffsets). s.fields) ss in
      let ms = flat_map firsts ss in
      let sets_count = length-append (sets_of_class c) (flat_map sets_of_class cs) in
      let methods_count = length-append (methods_of c.members) (flat_map (λ (c : NumberedClass). methods_of c.members) cs) in
      let lf = part_fields c offs (omega (arith, enough, sets_count)) in
      let lm = part_firsts c offs in
      rw (take_at s.fields fs nf lf, take_at (firsts s) ms nm lm, drop_at s.fields fs nf lf, drop_at (firsts s) ms nm lm, ap (λ (l : List MethodDef). length l) (methods_are m c) ∙ length-map (methods_of c.members) (method_in m))
      (λ i. one_directory c (All-head (IsKnownClass m) c cs known) s (take nm lists) lf (part_methods c offs) (omega (arith, length-take nm lists, methods_count, many)) i
      ∷ all_directories cs (All-tail (IsKnownClass m) c cs known) (drop n offs) (drop nm lists) (omega (arith, enough, sets_count, length-drop n offs)) (omega (arith, many, methods_count, length-drop nm lists)) i)

-- ---- they are those of the file

-- an offset of a list for each method
pub length-ref_list_offsets : (m : Mentions) (cs : List NumberedClass) → length (uses_offsets (ref_list_section (ordered_of m cs))) ≡ length (methods_in_all cs)
length-ref_list_offsets m cs = uses.length-ref_list_offsets (ordered_of m cs) ∙ count_methods m cs

module _ (m : Mentions) (cs : List NumberedClass) (sets : SetPlaces) (are : AreSets m cs sets) where
  -- the offsets of the sets, class by class
  set_parts : set_offsets (ordered_of m cs) ≡ parts_of_classes cs (set_use_offsets (ordered_of m cs))
  set_parts = set_offsets_are (ordered_of m cs) ∙ classes_parts m cs (set_use_offsets (ordered_of m cs))

  sets_enough : length (flat_map sets_of_class cs) ≡ length (set_use_offsets (ordered_of m cs))
  sets_enough = sym (length-set_use_offsets (ordered_of m cs) ∙ classes_are_long m cs)

  -- as many as members
  pub own_count : length sets.own ≡ length cs
  own_count = ap (λ (l : List ℕ). length l) are.own_are ∙ length-map (set_offsets (ordered_of m cs)) (λ (s : SetOffsets). s.own) ∙ length-set_offsets (ordered_of m cs) ∙ length-map cs (definition_of m)

  pub field_count : length sets.fields ≡ length (flat_map (λ c. fields_of c.members) cs)
  field_count = ap (λ (l : List ℕ). length l) are.fields_are ∙ ap (λ (ss : List SetOffsets). length (flat_map (λ s. s.fields) ss)) set_parts ∙ all_fields cs (set_use_offsets (ordered_of m cs)) (omega (arith, sets_enough))

  pub method_count : length sets.methods ≡ length (flat_map (λ c. methods_of c.members) cs)
  method_count = ap (λ (l : List ℕ). length l) are.methods_are ∙ ap (λ (ss : List SetOffsets). length (flat_map firsts ss)) set_parts ∙ all_firsts cs (set_use_offsets (ordered_of m cs))

  module _ (w : AreWritable m cs) (ranks : RanksAreNumbers m) (own fs ms ls : List ℕ) (eo : own ≡ sets.own) (ef : fs ≡ sets.fields) (em : ms ≡ sets.methods) (el : ls ≡ uses_offsets (ref_list_section (ordered_of m cs))) where
    items_are : directory_items cs own fs ms ls ≡ map (option_map (λ (x : List ℕ). x)) (directory_uses (ordered_of m cs) (set_offsets (ordered_of m cs)) (uses_offsets (ref_list_section (ordered_of m cs))))
    items_are =
        let K = ordered_of m cs in
        let lists = uses_offsets (ref_list_section K) in
        (λ i. directory_items cs ((eo ∙ are.own_are) i) ((ef ∙ are.fields_are) i) ((em ∙ are.methods_are) i) (el i))
        ∙ ap (λ (ss : List SetOffsets). directory_items cs (map (λ s. s.own) ss) (flat_map (λ s. s.fields) ss) (flat_map firsts ss) lists) set_parts
        ∙ all_directories m ranks cs w.known (set_use_offsets K) lists (omega (arith, sets_enough)) (omega (arith, length-ref_list_offsets m cs))
        ∙ ap (λ (ss : List SetOffsets). directory_uses K ss lists) (sym set_parts)
        ∙ sym (own_same (directory_uses K (set_offsets K) lists))

    -- encoded after the lists of sets they are those of the file
    pub directories_laid : (from : ℕ) → from ≡ end (ref_list_section (ordered_of m cs)) → AreDirectories m cs (encode_uses 4 (no_items_from from) (directory_items cs own fs ms ls))
    unfolding directory_section
    directories_laid from is =
        let K = ordered_of m cs in
        own_in 4 (λ bytes. bytes) AnnotationsDirectories (directory_uses K (set_offsets K) (uses_offsets (ref_list_section K))) is items_are
