-- Elements that are read one after the other: the numbers of their names rise as the names do, the elements that were
-- read are in the file, and the other elements come after them.
use Rattle.dexval.proofs.Common.{◌≡◌, ℕ, suc, ◌+◌, ◌-◌, ◌<◌, ◌≤◌, max, true, List, [], ◌∷◌, ◌++◌, length, refl, ap, sym, subst, ◌∙◌, arith, is_lt, length-append, rises, Uleb128At, Text, text_cmp, StringRow, TypeRow, Elements, NoElements, ThenElement, ValueAt, ElementsAt, value_depth, elements_depth, names_of, Mentions, and_first, and_second, one_uleb128, one_string, one_value, NumberedValue, NumberedElements, HaveKnown, IsKnown, elements_in, value_in, elements_of_list, text_at, type_at, HasPools, NoElementAt, IsElementReadAt, NoElementsAt, AreElementsReadAt, NoAnnotationAt, IsAnnotationReadAt, ◌≢◌, slice_index, ArePools, NumberedValues, Array, Annotated, NoValueAt, IsReadAt, NoArrayAt, AreReadAt}
use Rattle.dexspec.specs.Values.{Value}
use Rattle.dexval.proofs.Rising.{is_less, is_greater, rises_more}
use Rattle.dexval.proofs.Shapes.{is_at_byte, value_within, array_only, annotation_only}

-- the name of the first element, if there is one, has at least this number
abbrev pub IsAbove : List ℕ → ℕ → Elements → Type 0
IsAbove b least NoElements = Unit {0}
IsAbove b least (ThenElement name v es) = (index : ℕ) → StringRow b index name → least ≤ index

-- `count` elements are at the offset: their names rise from `least` on, and their values nest at most `depth` deep
pub record RestOf (b : List ℕ) (o depth count least : ℕ) : Type 0 where
  pub elements : Elements
  pub size : ℕ
  pub are_encoded : ElementsAt b o elements size
  pub number : length (names_of elements) ≡ count
  pub rise : rises text_cmp (names_of elements) ≡ true
  pub above : IsAbove b least elements
  pub shallow : elements_depth elements ≤ depth

-- the first i of `count` elements were read, and the numbers of their names are below `least`; if `count` elements are
-- in the file, the other elements come after these
pub record HaveReadOf (b : List ℕ) (o : ℕ) (m : Mentions) (depth count i least : ℕ) (es : List (ℕ × NumberedValue)) (k : ℕ) : Type 0 where
  pub number : length es ≡ i
  pub known : HaveKnown m (elements_of_list es)
  pub are_encoded : ElementsAt b o (elements_in m (elements_of_list es)) k
  pub shallow : elements_depth (elements_in m (elements_of_list es)) ≤ depth
  pub rise : rises text_cmp (names_of (elements_in m (elements_of_list es))) ≡ true
  pub below : (index : ℕ) → least ≤ index → index < length m.texts → rises text_cmp (names_of (elements_in m (elements_of_list es)) ++ text_at m index ∷ []) ≡ true
  pub rest : RestOf b o depth count 0 → RestOf b (o + k) depth (count - i) least

module _ (b : List ℕ) (m : Mentions) (file : HasPools b m) where
  -- the text of a row, and the rows that are counted
  row_within : (index : ℕ) (name : Text) → StringRow b index name → index < length m.texts
  row_within index name r = omega (arith, r.row, file.pools.texts_are.count)

  row_encoded : (index : ℕ) → index < length m.texts → StringRow b index (text_at m index)
  row_encoded index lt = file.pools.texts_are.each index [] (omega (arith, lt, file.pools.texts_are.count))

  row_text : (index : ℕ) (name : Text) → StringRow b index name → name ≡ text_at m index
  row_text index name r = one_string b index name (text_at m index) r (row_encoded index (row_within index name r))

  known_more : (es : List (ℕ × NumberedValue)) (e : ℕ × NumberedValue) → HaveKnown m (elements_of_list es) → e.0 < length m.texts → IsKnown m e.1 → HaveKnown m (elements_of_list (es ++ e ∷ []))
  known_more [] e h lt k = (lt, k, tt)
  known_more (f ∷ fs) e h lt k = (h.0, h.1, known_more fs e h.2 lt k)

  depth_more : (es : List (ℕ × NumberedValue)) (e : ℕ × NumberedValue) → elements_depth (elements_in m (elements_of_list (es ++ e ∷ []))) ≡ max (elements_depth (elements_in m (elements_of_list es))) (value_depth (value_in m e.1))
  depth_more [] e = omega arith
  depth_more (f ∷ fs) e = omega (arith, depth_more fs e)

  names_more : (es : List (ℕ × NumberedValue)) (e : ℕ × NumberedValue) → names_of (elements_in m (elements_of_list (es ++ e ∷ []))) ≡ names_of (elements_in m (elements_of_list es)) ++ text_at m e.0 ∷ []
  names_more [] e = refl
  names_more (f ∷ fs) e = ap (λ (l : List Text). text_at m f.0 ∷ l) (names_more fs e)

  number_is : (es : List (ℕ × NumberedValue)) → length (names_of (elements_in m (elements_of_list es))) ≡ length es
  number_is [] = refl
  number_is (e ∷ es) = ap suc (number_is es)

  encoded_more : (o : ℕ) (es : List (ℕ × NumberedValue)) (e : ℕ × NumberedValue) (k head size : ℕ) → ElementsAt b o (elements_in m (elements_of_list es)) k
      → Uleb128At b (o + k) e.0 head → e.0 < length m.texts → ValueAt b (o + k + head) (value_in m e.1) size → ElementsAt b o (elements_in m (elements_of_list (es ++ e ∷ []))) (k + (head + size))
  encoded_more o [] e k head size h u lt v =
      let none : o + k ≡ o = omega (arith, h) in (head, size, 0, e.0, subst (λ (p : ℕ). Uleb128At b p e.0 head) none u, row_encoded e.0 lt, subst (λ (p : ℕ). ValueAt b (p + head) (value_in m e.1) size) none v, refl, omega (arith, h))
  encoded_more o (f ∷ fs) e k head size h u lt v =
      let place : o + k ≡ o + h.0 + h.1 + h.2 = omega (arith, h.8) in (
        h.0,
        h.1,
        h.2 + (head + size),
        h.3,
        h.4,
        h.5,
        h.6,
        encoded_more (o + h.0 + h.1) fs e h.2 head size h.7 (subst (λ (p : ℕ). Uleb128At b p e.0 head) place u) lt (subst (λ (p : ℕ). ValueAt b (p + head) (value_in m e.1) size) place v),
        omega (arith, h.8),
      )

  -- the next element, and the elements after it
  record Next (o depth left least : ℕ) : Type 0 where
    name : Text
    value : Value
    index : ℕ
    head : ℕ
    size : ℕ
    names : Uleb128At b o index head
    row : StringRow b index name
    above : least ≤ index
    encodes : ValueAt b (o + head) value size
    shallow : value_depth value ≤ depth
    following : RestOf b (o + head + size) depth (left - 1) (index + 1)

  above_next : (index : ℕ) (name : Text) (es : Elements) → StringRow b index name → rises text_cmp (name ∷ names_of es) ≡ true → IsAbove b (index + 1) es
  above_next index name NoElements r h = tt
  above_next index name (ThenElement second v es) r h = λ other row.
      let texts : is_lt (text_cmp (text_at m index) (text_at m other)) ≡ true = ap is_lt (ap (λ (s : Text). text_cmp s (text_at m other)) (sym (row_text index name r)) ∙ ap (text_cmp name) (sym (row_text other second row))) ∙ (and_first (is_lt (text_cmp name second)) (rises text_cmp (second ∷ names_of es)) h) in
      omega (arith, is_greater m.texts file.rising.texts_rise index other (row_within index name r) (row_within other second row) texts)

  rise_next : (name : Text) (es : Elements) → rises text_cmp (name ∷ names_of es) ≡ true → rises text_cmp (names_of es) ≡ true
  rise_next name NoElements h = refl
  rise_next name (ThenElement second v es) h = and_second (is_lt (text_cmp name second)) (rises text_cmp (second ∷ names_of es)) h

  next_of : (o depth left least n : ℕ) (es : Elements) → 0 < left → ElementsAt b o es n → length (names_of es) ≡ left → rises text_cmp (names_of es) ≡ true → IsAbove b least es → elements_depth es ≤ depth → Next o depth left least
  next_of o depth left least n NoElements lt h e r a d = absurd (omega (arith, e, lt))
  next_of o depth left least n (ThenElement name v es) lt h e r a d = record {
    name = name;
    value = v;
    index = h.3;
    head = h.0;
    size = h.1;
    names = h.4;
    row = h.5;
    above = a h.3 h.5;
    encodes = h.6;
    shallow = omega (arith, d);
    following = record { elements = es; size = h.2; are_encoded = h.7; number = omega (arith, e); rise = rise_next name es r; above = above_next h.3 name es h.5 r; shallow = omega (arith, d) };
  }

  next : (o depth left least : ℕ) → 0 < left → RestOf b o depth left least → Next o depth left least
  next o depth left least lt r = next_of o depth left least r.size r.elements lt r.are_encoded r.number r.rise r.above r.shallow

  -- no element was read yet
  pub no_element_read : (o depth count : ℕ) → HaveReadOf b o m depth count 0 0 [] 0
  no_element_read o depth count = record {
    number = refl;
    known = tt;
    are_encoded = refl;
    shallow = omega arith;
    rise = refl;
    below = λ index le lt. refl;
    rest = λ r. let at : o ≡ o + 0 = omega arith in let left : count ≡ count - 0 = omega arith in subst (λ (p : ℕ). RestOf b p depth (count - 0) 0) at (subst (λ (c : ℕ). RestOf b o depth c 0) left r);
  }

  -- one more element was read
  pub one_element_more : (o depth count i least : ℕ) (es : List (ℕ × NumberedValue)) (k : ℕ) (e : ℕ × NumberedValue) (j : ℕ) → i < count → HaveReadOf b o m depth count i least es k → IsElementReadAt b (o + k) m depth least e j
      → HaveReadOf b o m depth count (i + 1) (e.0 + 1) (es ++ e ∷ []) (k + j)
  one_element_more o depth count i least es k e j lt h r =
      let ns = names_of (elements_in m (elements_of_list es)) in
      let risen : rises text_cmp (ns ++ text_at m e.0 ∷ []) ≡ true = h.below e.0 r.above r.name_known in
      record {
        number = simp length-append (omega (arith, h.number));
        known = known_more es e h.known r.name_known r.value.known;
        are_encoded = subst (λ (n : ℕ). ElementsAt b o (elements_in m (elements_of_list (es ++ e ∷ []))) (k + n)) (sym r.sum) (encoded_more o es e k r.head r.size h.are_encoded r.index r.name_known r.value.encodes);
        shallow = omega (arith, depth_more es e, h.shallow, r.value.shallow);
        rise = ap (rises text_cmp) (names_more es e) ∙ risen;
        below = λ index le within. ap (λ (l : List Text). rises text_cmp (l ++ text_at m index ∷ [])) (names_more es e) ∙ rises_more text_cmp ns (text_at m e.0) (text_at m index) risen (is_less m.texts file.rising.texts_rise e.0 index (omega (arith, le)) within);
        rest = λ all.
            let n = next (o + k) depth (count - i) least (omega arith) (h.rest all) in
            let name = one_uleb128 b (o + k) n.index e.0 n.head r.head n.names r.index in
            let place : o + k + n.head + n.size ≡ o + (k + j) = omega (arith, name.1, (one_value b (o + k + r.head) n.value (value_in m e.1) n.size r.size (subst (λ (x : ℕ). ValueAt b (o + k + x) n.value n.size) name.1 n.encodes) r.value.encodes).1, r.sum) in
            let left : count - i - 1 ≡ count - (i + 1) = omega arith in
            subst (λ (x : ℕ). RestOf b (o + (k + j)) depth (count - (i + 1)) (x + 1)) name.0
            (subst (λ (c : ℕ). RestOf b (o + (k + j)) depth c (n.index + 1)) left (subst (λ (p : ℕ). RestOf b p depth (count - i - 1) (n.index + 1)) place n.following));
      }

  -- the next bytes are no element
  pub no_next_element : (o depth count i least : ℕ) (es : List (ℕ × NumberedValue)) (k : ℕ) → i < count → HaveReadOf b o m depth count i least es k → NoElementAt b (o + k) depth least → NoElementsAt b o depth count
  no_next_element o depth count i least es k lt h none fs n are_encoded number rise shallow =
      let all : RestOf b o depth count 0 = record { elements = fs; size = n; are_encoded = are_encoded; number = number; rise = rise; above = above_all fs; shallow = shallow } in
      let x = next (o + k) depth (count - i) least (omega arith) (h.rest all) in none x.index x.name x.value x.head x.size x.names x.row x.above x.encodes x.shallow
    where
      above_all : (gs : Elements) → IsAbove b 0 gs
      above_all NoElements = tt
      above_all (ThenElement name v gs) = λ index row. omega arith

  -- all of them were read
  pub all_elements_read : (o depth count i least : ℕ) (es : List (ℕ × NumberedValue)) (k : ℕ) → i ≡ count → HaveReadOf b o m depth count i least es k → AreElementsReadAt b o m depth count (elements_of_list es) k
  all_elements_read o depth count i least es k e h = record { known = h.known; encodes = h.are_encoded; number = number_is es ∙ h.number ∙ e; rise = h.rise; shallow = h.shallow }

  -- ---- one element

  -- a name that is no number, has no text, or is too small
  pub no_name : (o depth least : ℕ) → ((index i : ℕ) → Uleb128At b o index i → ⊥) → NoElementAt b o depth least
  no_name o depth least none index name v i j u row above h shallow = none index i u

  pub no_such_name : (o depth least index head : ℕ) → Uleb128At b o index head → (least ≤ index → index < length m.texts → ⊥) → NoElementAt b o depth least
  no_such_name o depth least index head u none other name v i j w row above h shallow =
      let same = one_uleb128 b o other index i head w u in none (omega (arith, above, same.0)) (omega (arith, row_within other name row, same.0))

  -- the bytes of the value are no value
  pub no_value : (o depth least index head : ℕ) → Uleb128At b o index head → ((v : Value) (n : ℕ) → ValueAt b (o + head) v n → value_depth v ≤ depth → ⊥) → NoElementAt b o depth least
  no_value o depth least index head u none other name v i j w row above h shallow = none v j (subst (λ (x : ℕ). ValueAt b (o + x) v j) (one_uleb128 b o other index i head w u).1 h) shallow

  -- ---- annotations

  pub type_within : (index : ℕ) (t : Text) → TypeRow b index t → index < length m.types
  type_within index t r = omega (arith, r.row, file.pools.types_are.count)

  type_encoded : (index : ℕ) → index < length m.types → TypeRow b index (type_at m index)
  type_encoded index lt = file.pools.types_are.each index [] (omega (arith, lt, file.pools.types_are.count))

  pub no_type : (o depth : ℕ) → ((index i : ℕ) → Uleb128At b o index i → ⊥) → NoAnnotationAt b o depth
  no_type o depth none t es n h shallow = none h.3 h.0 h.4

  pub no_such_type : (o depth index head : ℕ) → Uleb128At b o index head → (index < length m.types → ⊥) → NoAnnotationAt b o depth
  no_such_type o depth index head u none t es n h shallow = none (omega (arith, type_within h.3 t h.5, (one_uleb128 b o h.3 index h.0 head h.4 u).0))

  pub no_element_count : (o depth index head : ℕ) → Uleb128At b o index head → ((count i : ℕ) → Uleb128At b (o + head) count i → ⊥) → NoAnnotationAt b o depth
  no_element_count o depth index head u none t es n h shallow = none (length (names_of es)) h.1 (subst (λ (x : ℕ). Uleb128At b (o + x) (length (names_of es)) h.1) (one_uleb128 b o h.3 index h.0 head h.4 u).1 h.6)

  pub no_elements : (o depth index head count second : ℕ) → Uleb128At b o index head → Uleb128At b (o + head) count second → NoElementsAt b (o + head + second) depth count → NoAnnotationAt b o depth
  no_elements o depth index head count second u w none t es n h shallow =
      let same = one_uleb128 b o h.3 index h.0 head h.4 u in
      let number = one_uleb128 b (o + head) (length (names_of es)) count h.1 second (subst (λ (x : ℕ). Uleb128At b (o + x) (length (names_of es)) h.1) same.1 h.6) w in
      let place : o + h.0 + h.1 ≡ o + head + second = omega (arith, same.1, number.1) in none es h.2 (subst (λ (p : ℕ). ElementsAt b p es h.2) place h.7) number.0 h.8 shallow

  pub annotation_read : (o depth index head count second : ℕ) (es : NumberedElements) (k : ℕ) → Uleb128At b o index head → index < length m.types → Uleb128At b (o + head) count second → AreElementsReadAt b (o + head + second) m depth count es k
      → IsAnnotationReadAt b o m depth index es (head + second + k)
  annotation_read o depth index head count second es k u lt w r = record {
    type_known = lt;
    known = r.known;
    encodes = (head, second, k, index, u, type_encoded index lt, subst (λ (c : ℕ). Uleb128At b (o + head) c second) (sym r.number) w, r.encodes, r.rise, refl);
    shallow = r.shallow;
  }

-- ---- Arrays and annotations as values

module _ (b : List ℕ) (o depth : ℕ) (m : Mentions) (p : ArePools b m) where
  -- there is no value after the end
  pub nothing_after : length b ≤ o → NoValueAt b o depth
  nothing_after le v n h d = omega (arith, value_within b o m v n p h)

  -- an array after its first byte
  pub array_encoded : (xs : NumberedValues) (n : ℕ) → o < length b → slice_index b o ≡ 28 → depth ≢ 0 → AreReadAt b (o + 1) m (depth - 1) xs n → IsReadAt b o m depth (Array xs) (1 + n)
  array_encoded xs n lt is some r = record { known = r.known; encodes = (is_at_byte b o 28 lt is, n, r.encodes, refl); shallow = omega (arith, r.shallow, some) }

  pub no_array : slice_index b o ≡ 28 → NoArrayAt b (o + 1) (depth - 1) → NoValueAt b o depth
  no_array is none v n h d = let a = array_only b o m v n p is h in let w = subst (λ (x : Value). ValueAt b o x n) a.1 h in none a.0 w.1 w.2 (omega (arith, subst (λ (x : Value). value_depth x ≤ depth) a.1 d))

  -- an annotation after its first byte
  pub annotation_encoded : (t : ℕ) (es : NumberedElements) (n : ℕ) → o < length b → slice_index b o ≡ 29 → depth ≢ 0 → IsAnnotationReadAt b (o + 1) m (depth - 1) t es n → IsReadAt b o m depth (Annotated t es) (1 + n)
  annotation_encoded t es n lt is some r = record {
    known = (r.type_known, r.known);
    encodes = (is_at_byte b o 29 lt is, n, r.encodes, refl);
    shallow = omega (arith, r.shallow, some);
  }

  pub no_annotation : slice_index b o ≡ 29 → NoAnnotationAt b (o + 1) (depth - 1) → NoValueAt b o depth
  no_annotation is none v n h d =
      let a = annotation_only b o m v n p is h in let w = subst (λ (x : Value). ValueAt b o x n) a.2 h in none a.0 a.1 w.1 w.2 (omega (arith, subst (λ (x : Value). value_depth x ≤ depth) a.2 d))
