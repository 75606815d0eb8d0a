-- The kinds of item that uses share: their offsets, their bytes, and what they denote.
use Rattle.dexlayout.proofs.Common.{◌≡◌, ℕ, ◌<◌, List, length, get_or, Some, sym, ap, subst, ◌∙◌, arith, All, IfSome, None, Option, get_or_default, Items, Placed, offsets_from, length-offsets_from, numbers_offsets, AreNumbered, IsNumber, ◌+◌, ◌*◌, [], ◌∷◌, ◌++◌, map, refl, flat_map, length-append, length-map, All-head, All-tail, ushort, uint, Mentions, type_index, type_list_bytes, RanksAreNumbers, type_at, Bool, rank, text_cmp, same_types, same_set, IsEquality, types_decide, set_decides, AreRising, ranks_are_numbers, NumberedSet, set_in, IsKnownSet, ◌^◌, ◌≤◌, append_assoc, Bor, option_map, option_map_or, flat_map-append, map-append, map-map, AnnotationSet, data_start, type_list_items, type_list_section, set_items, string_section, debug_items, debug_section, FieldDef, MethodDef, Debug, unless_empty, method_sets, class_sets, type_list_uses, set_uses, debug_uses, shared_items, end, same_debug, TypeLists, DebugInfoItems, debug_bytes, shared_numbered, text_decides, debug_decides, code_in, IsKnownCode, NumberedItem, set_of, NumberedField, NumberedMethod, IsKnownMethod, field_in, method_in, methods_of, NumberedClass, definition_of, ItemPlaces, EncodedItems, AreItemsIn, AreLaidSo, AreSharedItemsOf, shared_at, shared_by, list_bytes, AreTypes, same_numbers, same_numbers_decides, AreShared, AreTypeLists, AreDebugs, AreWritable, ordered_of, same_bytes, debug_encoding, debug_encodings, all_debug_encodings, encoded_lists, encoded_debugs, HaveItems, SharesLists, SharesSets, interfaces_use, set_use, field_uses, method_uses, methods_uses, members_uses}
use Rattle.dexspec.proofs.numbers.ByteNumbers.{length-uint, length-ushort}
use Rattle.dexspec.proofs.written.PlacedBytes.{length_rows}
use Rattle.std.specs.Bool.{Decides}
use Rattle.std.proofs.lemmas.Bool.Decides.{same_from_decides}
use Rattle.dexdebug.specs.Debug.{NumberedDebug, numbered_debug_bytes}
use Rattle.dexdebug.specs.Meaning.{debug_in, IsKnownDebug}
use Rattle.dexdebug.proofs.DebugMeanings.{bytes_are}
use Rattle.dexval.specs.declared.set.AnnotationSet.{AnnotationSet as CodeSet}
use Rattle.dexval.specs.Equality.{equal_sets, set_decides as equal_decides}
use Rattle.dexval.proofs.Ranked as sets
use Rattle.dexlayout.proofs.CodeItems.{methods_in_all, methods_mean as all_methods_mean, methods_known}
use Rattle.dexlayout.proofs.EncodedUses.{items_agree, all_in}
use Rattle.dexlayout.proofs.Ends.{end_in_file}
use Rattle.dexlayout.proofs.SharedUses.{shared_are, shared_mapped}

-- a number is that of an item
is_within : {X : Type 0} (u : Option X) (n : Option ℕ) (xs : List X) → IsNumber u n xs → IfSome n (λ i. i < length xs)
is_within None n xs h = subst (λ o. IfSome o (λ i. i < length xs)) (sym h) tt
is_within (Some x) n xs h = subst (λ o. IfSome o (λ i. i < length xs)) (sym h.2) h.1

-- each number is that of an item that is written
pub numbers_within : {X : Type 0} {uses : List (Option X)} {its : Items X} (numbers : List (Option ℕ)) (count : ℕ) → AreNumbered uses its → numbers ≡ its.numbers → count ≡ length its.written → All (λ n. IfSome n (λ i. i < count)) numbers
numbers_within {X} {uses} {its} numbers count are en ec =
    let written = its.written in
    let each : All (λ n. IfSome n (λ i. i < length written)) its.numbers = λ k d lt.
    subst (λ o. IfSome o (λ i. i < length written)) (get_or_default its.numbers k None d lt) (is_within (get_or uses k None) (get_or its.numbers k None) written (are.each k (omega (arith, lt, are.count)))) in
    subst (λ k. All (λ n. IfSome n (λ i. i < k)) numbers) (sym ec) (subst (All (λ n. IfSome n (λ i. i < length written))) (sym en) each)

-- as many offsets as items
pub offsets_count : {end : ℕ} (align from : ℕ) (items : List (List ℕ)) {p : ItemPlaces} → AreLaidSo (offsets_from align from items) end p → length p.offsets ≡ length items
offsets_count align from items h = ap (λ (l : List ℕ). length l) h.offsets_are ∙ length-offsets_from align from items

-- items that uses share, from those that are written
pub shared_in : {section : Placed} {p : EncodedItems} (numbers : List (Option ℕ)) → numbers ≡ section.numbers → AreItemsIn section p → AreSharedItemsOf section (shared_by numbers p)
shared_in {section} {p} numbers are h = record {
  bytes_are = h.bytes_are;
  count_is = offsets_count section.align section.from section.items h.places_are;
  places_are = record { offsets_are = λ i. numbers_offsets (are i) (h.places_are.offsets_are i); end_is = h.places_are.end_is };
}

-- ---- the bytes of type lists by numbers of types

pub length_list : (ns : List ℕ) → length (list_bytes ns) ≡ 4 + 2 * length ns
length_list ns = length-append (uint (length ns)) (flat_map ushort ns) ∙ omega (arith, length-uint (length ns), length_rows ushort 2 length-ushort ns)

-- the index of each type is its number
indices : (m : Mentions) (ns : List ℕ) → RanksAreNumbers m → AreTypes m ns → flat_map (λ t. ushort (type_index m t)) (map (type_at m) ns) ≡ flat_map ushort ns
indices m [] ranks known = refl
indices m (n ∷ ns) ranks known =
    ap (λ k. ushort k ++ flat_map (λ t. ushort (type_index m t)) (map (type_at m) ns)) (ranks.types_are n [] (All-head (λ i. i < length m.types) n ns known))
    ∙ ap (λ z. ushort n ++ z) (indices m ns ranks (All-tail (λ i. i < length m.types) n ns known))

-- they are those of the types
pub list_bytes_are : (m : Mentions) (ns : List ℕ) → RanksAreNumbers m → AreTypes m ns → list_bytes ns ≡ type_list_bytes m (map (type_at m) ns)
list_bytes_are m ns ranks known = ap (λ k. uint k ++ flat_map ushort ns) (sym (length-map ns (type_at m))) ∙ ap (λ z. uint (length (map (type_at m) ns)) ++ z) (sym (indices m ns ranks known))

-- ---- tests of what is mapped one to one

-- where numbers are equal if and only if they denote equal things, the tests agree
pub agree : {X Y : Type 0} (f : X → Y) (same : Bool) (equivalent : Y → Y → Bool) → IsEquality equivalent → (x y : X) → Decides same (x ≡ y) → (f x ≡ f y → x ≡ y) → equivalent (f x) (f y) ≡ same
agree f same equivalent exact x y is one = same_from_decides (equivalent (f x) (f y)) same (exact (f x) (f y)) ((λ e. ap f (is.0 e)), (λ e. is.1 (one e)))

module _ (m : Mentions) (rising : AreRising m) where
  -- ---- type lists

  types_back : (ns : List ℕ) → AreTypes m ns → map (λ t. rank text_cmp t m.types) (map (type_at m) ns) ≡ ns
  types_back [] h = refl
  types_back (n ∷ ns) h =
      ap (λ k. k ∷ map (λ t. rank text_cmp t m.types) (map (type_at m) ns)) ((ranks_are_numbers m rising).types_are n [] (All-head (λ i. i < length m.types) n ns h))
      ∙ ap (λ ks. n ∷ ks) (types_back ns (All-tail (λ i. i < length m.types) n ns h))

  pub lists_agree : (xs ys : List ℕ) → AreTypes m xs → AreTypes m ys → same_types (map (type_at m) xs) (map (type_at m) ys) ≡ same_numbers xs ys
  lists_agree xs ys hx hy =
      agree (map (type_at m)) (same_numbers xs ys) same_types types_decide xs ys (same_numbers_decides xs ys)
      (λ e. sym (types_back xs hx) ∙ ap (map (λ t. rank text_cmp t m.types)) e ∙ types_back ys hy)

  -- ---- sets

  pub sets_agree : (same : Bool) (x y : NumberedSet) → Decides same (x ≡ y) → IsKnownSet m x → IsKnownSet m y → same_set (set_in m x) (set_in m y) ≡ same
  sets_agree same x y is hx hy = agree (set_in m) same same_set set_decides x y is (λ e. sets.one_set m rising x y (set_in m x) (record { known = hx; means = refl }) (record { known = hy; means = sym e }))

-- ---- type lists

-- those of protos, and then those of classes
pub list_uses_are : (m : Mentions) (cs : List NumberedClass) → map (λ p. unless_empty p.parameters) m.protos ++ map (interfaces_use m) cs ≡ type_list_uses (ordered_of m cs)
list_uses_are m cs = ap (λ us. map (λ p. unless_empty p.parameters) m.protos ++ us) (sym (map-map (λ d. unless_empty d.1.interfaces) (definition_of m) cs))

pub lists_shared : (m : Mentions) (cs : List NumberedClass) (ks : List (List ℕ)) (ns : List (Option ℕ)) → AreRising m → SharesLists m (type_list_uses (ordered_of m cs)) ks ns → AreShared (map (type_at m)) (type_list_items (ordered_of m cs)) ks ns
lists_shared m cs ks ns rising h = shared_are h same_types (lists_agree m rising)

module _ (m : Mentions) (cs : List NumberedClass) (w : AreWritable m cs) (from : ℕ) (is : from ≡ data_start (ordered_of m cs)) (written : List (List ℕ)) (numbers : List (Option ℕ)) (known : All (AreTypes m) written)
    (h : AreShared (map (type_at m)) (type_list_items (ordered_of m cs)) written numbers) where
  lists_encoded : AreItemsIn (type_list_section (ordered_of m cs)) (encoded_lists from written)
  unfolding type_list_section
  lists_encoded =
      all_in 4 (type_list_bytes m) TypeLists (type_list_items (ordered_of m cs)) is
      (items_agree list_bytes (type_list_bytes m) (map (type_at m)) (AreTypes m) (λ ns k. list_bytes_are m ns (ranks_are_numbers m w.numbering.rising) k) written known ∙ ap (map (λ ts. Some (type_list_bytes m ts))) h.written_are)

  -- they end within the file
  pub lists_fit : (encoded_lists from written).places.end ≤ 2 ^ 30
  lists_fit = omega (arith, lists_encoded.places_are.end_is, (end_in_file (ordered_of m cs) w.fits).type_lists)

  -- each use has the number of one of them
  pub lists_numbered : All (λ n. IfSome n (λ i. i < length (encoded_lists from written).places.offsets)) numbers
  unfolding type_list_section
  lists_numbered =
      let items = type_list_items (ordered_of m cs) in
      numbers_within numbers (length (encoded_lists from written).places.offsets) (shared_numbered same_types types_decide (type_list_uses (ordered_of m cs))) h.numbers_are
      (offsets_count 4 (data_start (ordered_of m cs)) (map (type_list_bytes m) items.written) lists_encoded.places_are ∙ length-map items.written (type_list_bytes m))

  lists_numbers : numbers ≡ (type_list_section (ordered_of m cs)).numbers
  unfolding type_list_section
  lists_numbers = h.numbers_are

  -- the type lists of the file
  pub lists_laid : AreTypeLists m cs (shared_at numbers (encoded_lists from written).places)
  lists_laid = let h = shared_in numbers lists_numbers lists_encoded in record { count_is = h.count_is; places_are = h.places_are }

-- ---- annotation sets

-- those of fields, and those of methods
fields_mean : (m : Mentions) (fs : List NumberedField) → map unless_empty (map (λ (f : FieldDef). f.annotations) (map (field_in m) fs)) ≡ field_uses m fs
fields_mean m fs = map-map unless_empty (λ (f : FieldDef). f.annotations) (map (field_in m) fs) ∙ map-map (λ (f : FieldDef). unless_empty f.annotations) (field_in m) fs

methods_mean : (m : Mentions) (xs : List NumberedMethod) → map unless_empty (flat_map method_sets (map (method_in m) xs)) ≡ methods_uses m xs
methods_mean m [] = refl
methods_mean m (x ∷ xs) =
    let rest = flat_map method_sets (map (method_in m) xs) in
    map-append unless_empty (method_sets (method_in m x)) rest
    ∙ ap (λ us. (set_use m x.annotations ∷ us) ++ map unless_empty rest) (map-map unless_empty (set_in m) x.parameter_annotations)
    ∙ ap (λ us. method_uses m x ++ us) (methods_mean m xs)

-- those of a class
class_means : (m : Mentions) (c : NumberedClass) → map unless_empty (class_sets (definition_of m c)) ≡ members_uses m c.members
class_means m c =
    let x = c.members in
    let set_in_field : FieldDef → AnnotationSet = λ f. f.annotations in
    let sf = map (field_in m) x.static_fields in
    let inf = map (field_in m) x.instance_fields in
    let dm = map (method_in m) x.direct_methods in
    let vm = map (method_in m) x.virtual_methods in
    let fields : map unless_empty (map set_in_field (sf ++ inf)) ≡ field_uses m x.static_fields ++ field_uses m x.instance_fields =
    ap (map unless_empty) (map-append set_in_field sf inf) ∙ map-append unless_empty (map set_in_field sf) (map set_in_field inf)
    ∙ (λ i. fields_mean m x.static_fields i ++ fields_mean m x.instance_fields i) in
    let methods : map unless_empty (flat_map method_sets (dm ++ vm)) ≡ methods_uses m x.direct_methods ++ methods_uses m x.virtual_methods =
    ap (map unless_empty) (flat_map-append method_sets dm vm) ∙ map-append unless_empty (flat_map method_sets dm) (flat_map method_sets vm)
    ∙ (λ i. methods_mean m x.direct_methods i ++ methods_mean m x.virtual_methods i) in
    ap (λ us. set_use m x.annotations ∷ us)
    (map-append unless_empty (map set_in_field (sf ++ inf)) (flat_map method_sets (dm ++ vm)) ∙ (λ i. fields i ++ methods i)
    ∙ append_assoc (field_uses m x.static_fields) (field_uses m x.instance_fields) (methods_uses m x.direct_methods ++ methods_uses m x.virtual_methods))

-- those of classes
pub set_uses_are : (m : Mentions) (cs : List NumberedClass) → flat_map (λ c. members_uses m c.members) cs ≡ set_uses (ordered_of m cs)
set_uses_are m [] = refl
set_uses_are m (c ∷ cs) =
    (λ i. sym (class_means m c) i ++ set_uses_are m cs i)
    ∙ sym (map-append unless_empty (class_sets (definition_of m c)) (flat_map class_sets (map (definition_of m) cs)))

pub sets_shared : (m : Mentions) (cs : List NumberedClass) (ks : List (Bor CodeSet)) (ns : List (Option ℕ)) → AreRising m → SharesSets m (set_uses (ordered_of m cs)) ks ns → AreShared (λ (s : Bor CodeSet). set_in m (set_of s.now)) (set_items (ordered_of m cs)) ks ns
sets_shared m cs ks ns rising h = shared_are h same_set (λ s t. sets_agree m rising (equal_sets s.now t.now) (set_of s.now) (set_of t.now) (equal_decides (set_of s.now) (set_of t.now)))

-- ---- debug programs

-- the debug program of a method's code
abbrev method_debug : MethodDef → Option Debug
method_debug x = option_map_or (λ c. c.debug) x.code None

module _ (m : Mentions) (rising : AreRising m) where
  -- an encoding by numbers is that of the debug program that they denote
  debug_encoded_in : (code : Option NumberedItem) → IfSome code (IsKnownCode m) → option_map (debug_bytes m) (option_map_or (λ c. c.debug) (option_map (code_in m) code) None) ≡ option_map numbered_debug_bytes (option_map_or (λ c. c.debug) code None)
  debug_encoded_in None known = refl
  debug_encoded_in (Some c) known = by c.debug known.debug_known
    where
      by : (debug : Option NumberedDebug) → IfSome debug (IsKnownDebug m) → option_map (debug_bytes m) (option_map (debug_in m) debug) ≡ option_map numbered_debug_bytes debug
      by None known = refl
      by (Some d) known = ap Some (sym (bytes_are m d (debug_in m d) rising (record { known = known; means = refl })))

  debugs_encoded_in : (xs : List NumberedMethod) → All (IsKnownMethod m) xs → map (option_map (debug_bytes m)) (map method_debug (map (method_in m) xs)) ≡ debug_encodings xs
  debugs_encoded_in [] known = refl
  debugs_encoded_in (x ∷ xs) known = λ i. debug_encoded_in x.code (All-head (IsKnownMethod m) x xs known).code_known i ∷ debugs_encoded_in xs (All-tail (IsKnownMethod m) x xs known) i

-- those of all methods
all_encodings : (cs : List NumberedClass) → all_debug_encodings cs ≡ debug_encodings (methods_in_all cs)
all_encodings [] = refl
all_encodings (c ∷ cs) = ap (λ us. debug_encodings (methods_of c.members) ++ us) (all_encodings cs) ∙ sym (map-append debug_encoding (methods_of c.members) (methods_in_all cs))

module _ (m : Mentions) (cs : List NumberedClass) (w : AreWritable m cs) (from : ℕ) (is : from ≡ end (string_section (ordered_of m cs))) (written : List (List ℕ)) (numbers : List (Option ℕ))
    (h : HaveItems same_bytes (all_debug_encodings cs) written numbers) where
  uses_are : map (option_map (debug_bytes m)) (debug_uses (ordered_of m cs)) ≡ all_debug_encodings cs
  uses_are =
      ap (λ xs. map (option_map (debug_bytes m)) (map method_debug xs)) (all_methods_mean m cs) ∙ debugs_encoded_in m w.numbering.rising (methods_in_all cs) (methods_known m cs w.known)
      ∙ sym (all_encodings cs)

  -- debug programs share what their encodings share
  debugs_shared : AreShared (debug_bytes m) (shared_items same_bytes (all_debug_encodings cs)) (debug_items (ordered_of m cs)).written (debug_items (ordered_of m cs)).numbers
  debugs_shared =
      let its = debug_items (ordered_of m cs) in
      subst (λ us. AreShared (debug_bytes m) (shared_items same_bytes us) its.written its.numbers) uses_are
      (shared_mapped (debug_bytes m) same_debug same_bytes (debug_uses (ordered_of m cs)) its.written its.numbers
      (λ x y here there. agree (debug_bytes m) (same_debug x y) same_bytes text_decides x y (debug_decides x y) (w.debugs_apart x y here there))
      (record { written_are = refl; numbers_are = refl }))

  debugs_encoded : AreItemsIn (debug_section (ordered_of m cs)) (encoded_debugs from written)
  unfolding debug_section
  debugs_encoded =
      let its = debug_items (ordered_of m cs) in
      all_in 1 (debug_bytes m) DebugInfoItems its is
      (ap (map Some) (h.written_are ∙ sym debugs_shared.written_are) ∙ map-map Some (debug_bytes m) its.written)

  -- they end within the file
  pub debugs_fit : (encoded_debugs from written).places.end ≤ 2 ^ 30
  debugs_fit = omega (arith, debugs_encoded.places_are.end_is, (end_in_file (ordered_of m cs) w.fits).debugs)

  debugs_numbers : numbers ≡ (debug_section (ordered_of m cs)).numbers
  unfolding debug_section
  debugs_numbers = h.numbers_are ∙ sym debugs_shared.numbers_are

  -- each use has the number of one of them
  pub debugs_numbered : All (λ n. IfSome n (λ i. i < length (encoded_debugs from written).places.offsets)) numbers
  unfolding debug_section
  debugs_numbered =
      let items = debug_items (ordered_of m cs) in
      numbers_within numbers (length (encoded_debugs from written).places.offsets) (shared_numbered same_debug debug_decides (debug_uses (ordered_of m cs))) debugs_numbers
      (offsets_count 1 (end (string_section (ordered_of m cs))) (map (debug_bytes m) items.written) debugs_encoded.places_are ∙ length-map items.written (debug_bytes m))

  -- the debug programs of the file
  pub debugs_laid : AreDebugs m cs (shared_by numbers (encoded_debugs from written))
  debugs_laid = shared_in numbers debugs_numbers debugs_encoded
