-- The data of classes: by numbers, they are the items of the file.
use Rattle.dexlayout.proofs.Common.{◌≡◌, ℕ, ◌+◌, ◌<◌, List, [], ◌∷◌, length, get_or, map, take, drop, Option, None, Some, Bool, true, false, refl, sym, ap, ◌∙◌, arith, ◌==◌, All, option_map, length-append, length-map, length-drop, All-head, All-tail, zip_with, chunks, MethodDef, Definition, declared_fields, declared_methods, Mentions, class_data_bytes, class_data_uses, is_empty_class, end, uses_offsets, ClassDataItems, code_section, class_data_section, AreRising, ranks_are_numbers, NumberedMembers, method_in, methods_of, numbered_class_data_bytes, NumberedClass, definition_of, IsKnownClass, AreWritable, AreClassData, ordered_of, EncodedItems, has_no_members, class_data_item, class_data_items, encode_uses, no_items_from, if◌then◌else◌}
use Rattle.dexmembers.proofs.ClassDataSpelled.{class_data_spelled}
use Rattle.dexpool.specs.NumberedSymbols.{type_at}
use Rattle.dexlayout.proofs.EncodedUses.{own_in, drop_next}
use Rattle.dexlayout.proofs.CodeItems.{methods_in_all}
use Rattle.dexlayout.proofs.SetsCollected.{fields_count, methods_are}

-- ---- the data of one class

module _ (c : NumberedClass) (x : NumberedMembers) (offs : List ℕ) (b : Bool) (members : x ≡ c.members) (tested : b ≡ has_no_members x) where
  pub data_none : b ≡ true → class_data_item c offs ≡ None
  data_none is = rw (← members, ← tested, is) refl

  pub data_some : b ≡ false → class_data_item c offs ≡ Some (numbered_class_data_bytes x offs)
  data_some is = rw (← members, ← tested, is) refl

-- ---- they are those of the definitions

module _ (m : Mentions) (rising : AreRising m) where
  abbrev data_of : Definition × List ℕ → List ℕ
  data_of p = class_data_bytes m p.0 p.1

  abbrev data_use : Definition → List ℕ → Option (Definition × List ℕ)
  data_use d offs = if is_empty_class d.1 then None else Some (d, offs)

  method_count : (c : NumberedClass) → length (declared_methods (definition_of m c).1) ≡ length (methods_of c.members)
  method_count c = ap (λ (xs : List MethodDef). length xs) (methods_are m c) ∙ length-map (methods_of c.members) (method_in m)

  -- by cases on whether there are members
  either_way : (d : Definition) (offs bytes : List ℕ) (b : Bool) → bytes ≡ data_of (d, offs) → if◌then◌else◌ {A = Option (List ℕ)} b None (Some bytes) ≡ option_map data_of (if◌then◌else◌ {A = Option (Definition × List ℕ)} b None (Some (d, offs)))
  either_way d offs bytes true e = refl
  either_way d offs bytes false e = ap Some e

  data_same : (c : NumberedClass) (offs : List ℕ) → IsKnownClass m c → class_data_item c offs ≡ option_map data_of (data_use (definition_of m c) offs)
  data_same c offs known =
      let d = definition_of m c in
      let none : has_no_members c.members ≡ is_empty_class d.1 =
      ap (λ n. n + length (methods_of c.members) == 0) (sym (fields_count m c)) ∙ ap (λ n. length (declared_fields d.1) + n == 0) (sym (method_count c)) in
      ap (λ (b : Bool). if◌then◌else◌ {A = Option (List ℕ)} b None (Some (numbered_class_data_bytes c.members offs))) none
      ∙ either_way d offs (numbered_class_data_bytes c.members offs) (is_empty_class d.1) (class_data_spelled m (ranks_are_numbers m rising) (type_at m c.name) d.1 c.members offs known.members_known known.members_own refl)

  datas_same : (cs : List NumberedClass) (offs : List ℕ) → All (IsKnownClass m) cs → class_data_items cs offs ≡ map (option_map data_of) (zip_with data_use (map (definition_of m) cs) (chunks (map (λ d. length (declared_methods d.1)) (map (definition_of m) cs)) offs))
  datas_same [] offs known = refl
  datas_same (c ∷ cs) offs known =
      let n = length (methods_of c.members) in
      let rest = λ (k : ℕ). map (option_map data_of) (zip_with data_use (map (definition_of m) cs) (chunks (map (λ (d : Definition). length (declared_methods d.1)) (map (definition_of m) cs)) (drop k offs))) in
      ap (λ us. class_data_item c (take n offs) ∷ us) (datas_same cs (drop n offs) (All-tail (IsKnownClass m) c cs known))
      ∙ ap (λ u. u ∷ rest n) (data_same c (take n offs) (All-head (IsKnownClass m) c cs known))
      ∙ ap (λ k. option_map data_of (data_use (definition_of m c) (take k offs)) ∷ rest k) (sym (method_count c))

-- ---- those of a file

module _ (m : Mentions) (cs : List NumberedClass) (w : AreWritable m cs) (offs : List ℕ) (eo : offs ≡ uses_offsets (code_section (ordered_of m cs))) where
  items_are : class_data_items cs offs ≡ map (option_map (data_of m w.numbering.rising)) (class_data_uses (ordered_of m cs) (uses_offsets (code_section (ordered_of m cs))))
  items_are = ap (class_data_items cs) eo ∙ datas_same m w.numbering.rising cs (uses_offsets (code_section (ordered_of m cs))) w.known

  -- encoded after the code they are those of the file
  pub data_laid : (from : ℕ) → from ≡ end (code_section (ordered_of m cs)) → AreClassData m cs (encode_uses 1 (no_items_from from) (class_data_items cs offs))
  unfolding class_data_section
  data_laid from is = own_in 1 (data_of m w.numbering.rising) ClassDataItems (class_data_uses (ordered_of m cs) (uses_offsets (code_section (ordered_of m cs)))) is items_are

-- ---- class by class

-- encoding the data of the classes that are left, with the offsets of code that are left, gives all
pub record DataLeft (items : EncodedItems) (cs : List NumberedClass) (offs : List ℕ) (all : EncodedItems) : Type 0 where
  pub count : length offs ≡ length (methods_in_all cs)
  pub encoded : encode_uses 1 items (class_data_items cs offs) ≡ all

module _ (cs : List NumberedClass) (i : ℕ) (c : NumberedClass) (lt : i < length cs) (is : get_or cs i c ≡ c) (n : ℕ) (count : n ≡ length (methods_of c.members)) where
  -- the data of the next, and of those after it
  pub data_split : (offs own others : List ℕ) → own ≡ take n offs → others ≡ drop n offs → class_data_items (drop i cs) offs ≡ class_data_item c own ∷ class_data_items (drop (i + 1) cs) others
  data_split offs own others front back = rw (drop_next cs i c lt is, front, back, count) refl

  -- as many offsets are left as methods
  pub data_rest : (offs others : List ℕ) → others ≡ drop n offs → length offs ≡ length (methods_in_all (drop i cs)) → length others ≡ length (methods_in_all (drop (i + 1) cs))
  data_rest offs others back same = omega (arith, ap (λ (os : List ℕ). length os) back, length-drop n offs, same, ap (λ ds. length (methods_in_all ds)) (drop_next cs i c lt is), length-append (methods_of c.members) (methods_in_all (drop (i + 1) cs)), count)
