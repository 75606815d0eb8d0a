-- Lists of offsets that are encoded one after the other, and the offsets that are left.
use Rattle.dexlayout.proofs.Common.{◌≡◌, ℕ, ◌+◌, ◌<◌, ◌≤◌, List, [], ◌∷◌, ◌++◌, length, get_or, map, take, drop, Option, None, Some, refl, sym, ap, subst, ◌∙◌, arith, flat_map, length-append, length-drop, chunks, offsets_bytes, methods_of, NumberedClass, take_at, drop_at, option_map, length-map, length-take, map-append, flat_map-append, map-map, Definition, MethodDef, declared_fields, declared_methods, Mentions, SetOffsets, set_offsets_of, class_sets, method_sets, ref_list_uses, unless_empty, set_offsets, ref_list_section, AnnotationSetRefLists, set_in, NumberedMethod, method_in, definition_of, offset_lists, total, list_item, parameter_counts, class_parameter_counts, SetPlaces, ordered_of, AreEncodedIn, EncodedItems, AreSets, encode_use, encode_uses, no_items_from}
use Rattle.std.proofs.lemmas.List.Folds.{flat_map-map}
use Rattle.dexlayout.proofs.EncodedUses.{all_encoded_by, drop_next, own_in, use_encoded, use_ends, use_fits}
use Rattle.dexlayout.proofs.SetsCollected.{parts, class_count, set_use_offsets, length-set_use_offsets, set_offsets_are}

-- ---- one list

-- an empty list has no item
pub no_list : (offs : List ℕ) → length offs ≡ 0 → list_item offs ≡ None
no_list [] e = refl
no_list (o ∷ offs) e = absurd (omega (arith, e))

-- any other has one
pub some_list : (offs : List ℕ) → (length offs ≡ 0 → ⊥) → list_item offs ≡ Some (offsets_bytes offs)
some_list [] some = absurd (some refl)
some_list (o ∷ offs) some = refl

-- ---- lists that are cut out of what is joined

-- they are cut out again by their lengths
pub cut_again : (ls : List (List ℕ)) → chunks (map (λ l. length l) ls) (flat_map (λ l. l) ls) ≡ ls
cut_again [] = refl
cut_again (l ∷ ls) =
    let rest = flat_map (λ (l : List ℕ). l) ls in
    λ i. take_at l rest (length l) refl i ∷ (ap (chunks (map (λ (l : List ℕ). length l) ls)) (drop_at l rest (length l) refl) ∙ cut_again ls) i

-- which are those of all
pub total_lengths : {X : Type 0} (ls : List (List X)) → total (map (λ l. length l) ls) ≡ length (flat_map (λ l. l) ls)
total_lengths [] = refl
total_lengths {X} (l ∷ ls) = omega (arith, total_lengths ls, length-append l (flat_map (λ (l : List X). l) ls))

-- ---- numbers of offsets

-- those of the next of several, and of those after it
pub next_counts : {X : Type 0} (count : X → ℕ) (xs : List X) (i : ℕ) (x : X) (n : ℕ) → i < length xs → get_or xs i x ≡ x → n ≡ count x → map count (drop i xs) ≡ n ∷ map count (drop (i + 1) xs)
next_counts count xs i x n lt is e = ap (map count) (drop_next xs i x lt is) ∙ ap (λ k. k ∷ map count (drop (i + 1) xs)) (sym e)

-- those of the next class, and of those after it
pub class_counts : (cs : List NumberedClass) (i : ℕ) (c : NumberedClass) → i < length cs → get_or cs i c ≡ c → class_parameter_counts (drop i cs) ≡ parameter_counts (methods_of c.members) ++ class_parameter_counts (drop (i + 1) cs)
class_counts cs i c lt is = ap class_parameter_counts (drop_next cs i c lt is)

-- ---- the next list, of this number of offsets

pub list_enough : {n : ℕ} {ns left : List ℕ} (rest : List ℕ) → left ≡ n ∷ ns → total left ≤ length rest → n ≤ length rest
list_enough rest e enough = omega (arith, enough, ap total e)

module _ {n : ℕ} {ns left others : List ℕ} (rest : List ℕ) (e : left ≡ n ∷ ns) (back : others ≡ drop n rest) where
  pub enough_left : total left ≤ length rest → total ns ≤ length others
  enough_left enough = omega (arith, enough, ap total e, ap (λ (os : List ℕ). length os) back, length-drop n rest)

  pub next_list : {list : List ℕ} (item_of : List ℕ → Option (List ℕ)) → list ≡ take n rest → offset_lists item_of left rest ≡ item_of list ∷ offset_lists item_of ns others
  next_list item_of front = ap (λ ms. offset_lists item_of ms rest) e ∙ (λ i. item_of (sym front i) ∷ offset_lists item_of ns (sym back i))

-- ---- the lists by the offsets of all sets

-- for each method the offsets of the sets of its parameters
abbrev pub lists_of : List SetOffsets → List (List ℕ)
lists_of ss = flat_map (λ s. map (drop 1) s.methods) ss

-- one after the other
lists_joined : (ss : List SetOffsets) → flat_map (λ s. flat_map (drop 1) s.methods) ss ≡ flat_map (λ l. l) (lists_of ss)
lists_joined [] = refl
lists_joined (s ∷ ss) =
    ap (λ l. l ++ flat_map (λ s. flat_map (drop 1) s.methods) ss) (sym (flat_map-map (λ l. l) (drop 1) s.methods))
    ∙ ap (λ l. flat_map (λ l. l) (map (drop 1) s.methods) ++ l) (lists_joined ss) ∙ sym (flat_map-append (λ l. l) (map (drop 1) s.methods) (lists_of ss))

-- as uses
pub lists_used : (ss : List SetOffsets) → map unless_empty (lists_of ss) ≡ flat_map (λ s. map (λ offs. unless_empty (drop 1 offs)) s.methods) ss
lists_used [] = refl
lists_used (s ∷ ss) =
    map-append unless_empty (map (drop 1) s.methods) (lists_of ss)
    ∙ (let here = map-map unless_empty (drop 1) s.methods in let rest = lists_used ss in λ i. here i ++ rest i)

-- ---- their lengths

-- of methods
method_lengths : (xs : List MethodDef) (offs : List ℕ) → length offs ≡ length (flat_map method_sets xs) → map (λ l. length l) (map (drop 1) (chunks (map (λ x. length (method_sets x)) xs) offs)) ≡ map (λ x. length x.parameter_annotations) xs
method_lengths [] offs e = refl
method_lengths (x ∷ xs) offs e =
    let n = length (method_sets x) in
    let all = length-append (method_sets x) (flat_map method_sets xs) in
    let here : length (drop 1 (take n offs)) ≡ length x.parameter_annotations = omega (arith, length-drop 1 (take n offs), length-take n offs, all, e) in
    λ i. here i ∷ method_lengths xs (drop n offs) (omega (arith, length-drop n offs, all, e)) i

-- of classes
class_lengths : (ds : List Definition) (offs : List ℕ) → length offs ≡ length (flat_map class_sets ds) → map (λ l. length l) (lists_of (parts ds offs)) ≡ flat_map (λ d. map (λ x. length x.parameter_annotations) (declared_methods d.1)) ds
class_lengths [] offs e = refl
class_lengths (d ∷ ds) offs e =
    let n = length (class_sets d) in
    let k = 1 + length (declared_fields d.1) in
    let all = length-append (class_sets d) (flat_map class_sets ds) in
    let mine = drop k (take n offs) in
    let rest = class_lengths ds (drop n offs) (omega (arith, length-drop n offs, all, e)) in
    map-append (λ (l : List ℕ). length l) (map (drop 1) (set_offsets_of d (take n offs)).methods) (lists_of (parts ds (drop n offs))) ∙ (λ i. method_lengths (declared_methods d.1) mine (omega (arith, length-drop k (take n offs), length-take n offs, all, e, class_count d)) i ++ rest i)

-- by numbers
counts_of : (m : Mentions) (xs : List NumberedMethod) → map (λ x. length x.parameter_annotations) (map (method_in m) xs) ≡ parameter_counts xs
counts_of m [] = refl
counts_of m (x ∷ xs) = let here = length-map x.parameter_annotations (set_in m) in let rest = counts_of m xs in λ i. here i ∷ rest i

counts_are : (m : Mentions) (cs : List NumberedClass) → flat_map (λ d. map (λ x. length x.parameter_annotations) (declared_methods d.1)) (map (definition_of m) cs) ≡ class_parameter_counts cs
counts_are m [] = refl
counts_are m (c ∷ cs) =
    let here : map (λ (x : MethodDef). length x.parameter_annotations) (declared_methods (definition_of m c).1) ≡ parameter_counts (methods_of c.members) =
    ap (map (λ (x : MethodDef). length x.parameter_annotations)) (sym (map-append (method_in m) c.members.direct_methods c.members.virtual_methods)) ∙ counts_of m (methods_of c.members) in
    λ i. here i ++ counts_are m cs i

-- of a file
pub counts_lengths : (m : Mentions) (cs : List NumberedClass) → class_parameter_counts cs ≡ map (λ l. length l) (lists_of (set_offsets (ordered_of m cs)))
counts_lengths m cs =
    let K = ordered_of m cs in
    sym (ap (λ ss. map (λ (l : List ℕ). length l) (lists_of ss)) (set_offsets_are K) ∙ class_lengths K.classes (set_use_offsets K) (length-set_use_offsets K) ∙ counts_are m cs)

-- ---- the lists of a file

module _ (m : Mentions) (cs : List NumberedClass) {sets : SetPlaces} (are : AreSets m cs sets) where
  -- the offsets of all lists
  parameters_are : sets.parameters ≡ flat_map (λ l. l) (lists_of (set_offsets (ordered_of m cs)))
  parameters_are = are.parameters_are ∙ lists_joined (set_offsets (ordered_of m cs))

  -- there are enough offsets
  pub parameters_enough : total (class_parameter_counts cs) ≤ length sets.parameters
  parameters_enough = omega (arith, ap total (counts_lengths m cs), total_lengths (lists_of (set_offsets (ordered_of m cs))), ap (λ (os : List ℕ). length os) parameters_are)

  -- the items of the lists
  lists_are : offset_lists list_item (class_parameter_counts cs) sets.parameters ≡ map (option_map offsets_bytes) (ref_list_uses (ordered_of m cs) (set_offsets (ordered_of m cs)))
  lists_are =
      let ss = set_offsets (ordered_of m cs) in
      (λ i. offset_lists list_item (counts_lengths m cs i) (parameters_are i)) ∙ ap (map list_item) (cut_again (lists_of ss))
      ∙ sym (map-map (option_map offsets_bytes) unless_empty (lists_of ss)) ∙ ap (map (option_map offsets_bytes)) (lists_used ss)

  -- encoded after the sets they are those of the file
  pub ref_lists_laid : AreEncodedIn (ref_list_section (ordered_of m cs)) (encode_uses 4 (no_items_from sets.written.places.end) (offset_lists list_item (class_parameter_counts cs) sets.parameters))
  unfolding ref_list_section
  ref_lists_laid = own_in 4 offsets_bytes AnnotationSetRefLists (ref_list_uses (ordered_of m cs) (set_offsets (ordered_of m cs))) are.written_are.places_are.end_is lists_are

-- ---- list by list

-- encoding the lists that are left, of these numbers of offsets, gives all, where what is kept of the items is this
pub record ListsLeft (Keeps : EncodedItems → Type 0) (ns rest : List ℕ) (all : EncodedItems) : Type 0 where
  pub items : EncodedItems
  pub keeps : Keeps items
  pub encoded : encode_uses 4 items (offset_lists list_item ns rest) ≡ all
  pub enough : total ns ≤ length rest

-- other numbers that are equal
pub lists_same : {Keeps : EncodedItems → Type 0} {ns ks rest : List ℕ} {all : EncodedItems} → ns ≡ ks → ListsLeft Keeps ns rest all → ListsLeft Keeps ks rest all
lists_same {Keeps} {rest = rest} {all} e h = subst (λ ns. ListsLeft Keeps ns rest all) e h

-- one is the next
module _ {Keeps : EncodedItems → Type 0} {all : EncodedItems} {n : ℕ} {ns left others list : List ℕ} (rest : List ℕ) (e : left ≡ n ∷ ns) (back : others ≡ drop n rest) (front : list ≡ take n rest) (h : ListsLeft Keeps left rest all) where
  pub list_fits : (p : EncodedItems) → ((items : EncodedItems) → Keeps items → items.places.end ≡ p.places.end) → (encode_use 4 p (list_item list)).places.end ≤ all.places.end
  list_fits p ends = omega (arith, use_ends 4 h.items p (list_item list) (ends h.items h.keeps), use_fits 4 h.items (next_list rest e back list_item front) h.encoded)

  pub lists_more : {New : EncodedItems → Type 0} → ((items : EncodedItems) → Keeps items → New (encode_use 4 items (list_item list))) → ListsLeft New ns others all
  lists_more step = record {
    items = encode_use 4 h.items (list_item list);
    keeps = step h.items h.keeps;
    encoded = use_encoded 4 h.items (next_list rest e back list_item front) h.encoded refl;
    enough = enough_left rest e back h.enough;
  }

-- none is left
pub no_lists : {Keeps : EncodedItems → Type 0} {ns rest : List ℕ} {all : EncodedItems} → ns ≡ [] → ListsLeft Keeps ns rest all → Keeps all
no_lists {Keeps} {rest = rest} none h = subst Keeps (all_encoded_by 4 (ap (λ ks. offset_lists list_item ks rest) none) h.encoded) h.keeps
