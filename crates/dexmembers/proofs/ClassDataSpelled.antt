-- Class data with numbers put in is that of what the numbers denote.
use Rattle.dexmembers.proofs.Common.{◌≡◌, ℕ, ◌+◌, ◌*◌, ◌-◌, ◌<◌, ◌≤◌, List, [], ◌∷◌, ◌++◌, get_or, length, map, take, drop, refl, sym, ap, ◌∙◌, arith, All, slice_index, concat, zip, length-append, length-map, drop_more, drop_all, All-head, All-tail, zip_with, uleb128, Text, Field, Method, Body, FieldDef, MethodDef, Mentions, field_of, method_of, field_index, method_index, differences, encoded_method_bytes, class_data_bytes, RanksAreNumbers, field_at, method_at, all_prefix, all_back}
use Rattle.dexspec.proofs.size.SizeItems.{uleb128-size}
use Rattle.dexmembers.specs.{NumberedField, NumberedMethod, NumberedMembers, Members, field_in, method_in, members_in, members_of, fields_of, methods_of, IsKnownField, IsKnownMethod, AreKnownMembers, AreOfClass, numbered_field_bytes, numbered_fields_bytes, numbered_method_bytes, numbered_methods_bytes, numbered_class_data_bytes}

-- ---- sizes

pub fields_size : (last : ℕ) (fs : List NumberedField) → length (numbered_fields_bytes last fs) ≤ 10 * length fs
fields_size last [] = omega arith
fields_size last (f ∷ fs) = omega (arith, length-append {A = ℕ}, uleb128-size, fields_size f.number fs)

pub methods_size : (last : ℕ) (xs : List NumberedMethod) (offs : List ℕ) → length (numbered_methods_bytes last xs offs) ≤ 15 * length xs
methods_size last [] offs = omega arith
methods_size last (x ∷ xs) [] = omega arith
methods_size last (x ∷ xs) (o ∷ offs) = omega (arith, length-append {A = ℕ}, uleb128-size, methods_size x.number xs offs)

pub class_data_size : (x : NumberedMembers) (offs : List ℕ) → length (numbered_class_data_bytes x offs) ≤ 20 + 10 * length (fields_of x) + 15 * length (methods_of x)
class_data_size x offs =
    let fields = length-append x.static_fields x.instance_fields in
    let methods = length-append x.direct_methods x.virtual_methods in
    omega (arith, length-append {A = ℕ}, uleb128-size, fields_size, methods_size, fields, methods)

-- ---- one member more

pub fields_next : (last : ℕ) (fs : List NumberedField) (i : ℕ) (d : NumberedField) → i < length fs → d ≡ get_or fs i d → numbered_fields_bytes last (drop i fs) ≡ numbered_field_bytes last d ++ numbered_fields_bytes d.number (drop (i + 1) fs)
fields_next last fs i d lt e = ap (numbered_fields_bytes last) (drop_more fs i d lt) ∙ ap (λ (f : NumberedField). numbered_field_bytes last f ++ numbered_fields_bytes f.number (drop (i + 1) fs)) (sym e)

pub methods_next : (last : ℕ) (xs : List NumberedMethod) (offs : List ℕ) (i : ℕ) (d : NumberedMethod) → i < length xs → length offs ≡ length xs → d ≡ get_or xs i d
    → numbered_methods_bytes last (drop i xs) (drop i offs) ≡ numbered_method_bytes last d (slice_index offs i) ++ numbered_methods_bytes d.number (drop (i + 1) xs) (drop (i + 1) offs)
methods_next last xs offs i d lt many e =
    ap (λ (l : List NumberedMethod). numbered_methods_bytes last l (drop i offs)) (drop_more xs i d lt)
    ∙ ap (λ (l : List ℕ). numbered_methods_bytes last (get_or xs i d ∷ drop (i + 1) xs) l) (drop_more offs i 0 (omega (arith, lt, many)))
    ∙ ap (λ (f : NumberedMethod). numbered_method_bytes last f (slice_index offs i) ++ numbered_methods_bytes f.number (drop (i + 1) xs) (drop (i + 1) offs)) (sym e)

pub fields_end : (last : ℕ) (fs : List NumberedField) (i : ℕ) → length fs ≤ i → numbered_fields_bytes last (drop i fs) ≡ []
fields_end last fs i le = ap (numbered_fields_bytes last) (drop_all i fs le)

pub methods_end : (last : ℕ) (xs : List NumberedMethod) (offs : List ℕ) (i : ℕ) → length xs ≤ i → numbered_methods_bytes last (drop i xs) (drop i offs) ≡ []
methods_end last xs offs i le = ap (λ (l : List NumberedMethod). numbered_methods_bytes last l (drop i offs)) (drop_all i xs le)

-- ---- symbols

module _ (m : Mentions) (ranks : RanksAreNumbers m) (name : Text) where
  -- the index of a declared field is its number
  pub field_number : (f : NumberedField) → IsKnownField m f → (field_at m f.number).class ≡ name → field_index m (field_of name (field_in m f)) ≡ f.number
  field_number f h e =
      let d : Field = record { class = []; name = []; type = [] } in
      let s = field_at m f.number in
      ap (λ (t : Text). field_index m (record { class = t; name = s.name; type = s.type })) (sym e) ∙ ranks.fields_are f.number d h.number_in

  -- of a declared method
  pub method_number : (x : NumberedMethod) → IsKnownMethod m x → (method_at m x.number).class ≡ name → method_index m (method_of name (method_in m x)) ≡ x.number
  method_number x h e =
      let d : Method = record { class = []; name = []; proto = record { return_type = []; parameters = [] } } in
      let s = method_at m x.number in
      ap (λ (t : Text). method_index m (record { class = t; name = s.name; proto = s.proto })) (sym e) ∙ ranks.methods_are x.number d h.number_in

  -- fields as differences of indices
  abbrev spelled_fields : ℕ → List FieldDef → List ℕ
  spelled_fields last fs = concat (zip_with (λ f difference. uleb128 difference ++ uleb128 f.flags) fs (differences last (map (λ f. field_index m (field_of name f)) fs)))

  -- methods
  abbrev spelled_methods : ℕ → List MethodDef → List ℕ → List ℕ
  spelled_methods last xs offs = concat (zip_with encoded_method_bytes xs (zip (differences last (map (λ x. method_index m (method_of name x)) xs)) offs))

  pub fields_spelled : (last : ℕ) (fs : List NumberedField) → All (IsKnownField m) fs → All (λ f. (field_at m f.number).class ≡ name) fs → numbered_fields_bytes last fs ≡ spelled_fields last (map (field_in m) fs)
  fields_spelled last [] h k = refl
  fields_spelled last (f ∷ fs) h k =
      let e = field_number f (All-head (IsKnownField m) f fs h) (All-head (λ (g : NumberedField). (field_at m g.number).class ≡ name) f fs k) in
      ap (λ (l : List ℕ). numbered_field_bytes last f ++ l) (fields_spelled f.number fs (All-tail (IsKnownField m) f fs h) (All-tail (λ (g : NumberedField). (field_at m g.number).class ≡ name) f fs k))
      ∙ ap (λ (i : ℕ). (uleb128 (i - last) ++ uleb128 f.flags) ++ spelled_fields i (map (field_in m) fs)) (sym e)

  pub methods_spelled : (last : ℕ) (xs : List NumberedMethod) (offs : List ℕ) → All (IsKnownMethod m) xs → All (λ x. (method_at m x.number).class ≡ name) xs → numbered_methods_bytes last xs offs ≡ spelled_methods last (map (method_in m) xs) offs
  methods_spelled last [] offs h k = refl
  methods_spelled last (x ∷ xs) [] h k = refl
  methods_spelled last (x ∷ xs) (o ∷ offs) h k =
      let e = method_number x (All-head (IsKnownMethod m) x xs h) (All-head (λ (y : NumberedMethod). (method_at m y.number).class ≡ name) x xs k) in
      ap (λ (l : List ℕ). numbered_method_bytes last x o ++ l) (methods_spelled x.number xs offs (All-tail (IsKnownMethod m) x xs h) (All-tail (λ (y : NumberedMethod). (method_at m y.number).class ≡ name) x xs k))
      ∙ ap (λ (i : ℕ). (uleb128 (i - last) ++ (uleb128 x.flags ++ uleb128 o)) ++ spelled_methods i (map (method_in m) xs) offs) (sym e)

  -- class data by its lists
  abbrev lists_bytes : ℕ → ℕ → ℕ → ℕ → List ℕ → List ℕ → List ℕ → List ℕ → List ℕ
  lists_bytes n0 n1 n2 n3 x0 x1 x2 x3 = uleb128 n0 ++ (uleb128 n1 ++ (uleb128 n2 ++ (uleb128 n3 ++ (x0 ++ (x1 ++ (x2 ++ x3))))))

  abbrev spelled_members : Members → List ℕ → List ℕ
  spelled_members y offs =
      lists_bytes (length y.static_fields) (length y.instance_fields) (length y.direct_methods) (length y.virtual_methods) (spelled_fields 0 y.static_fields) (spelled_fields 0 y.instance_fields)
      (spelled_methods 0 y.direct_methods (take (length y.direct_methods) offs)) (spelled_methods 0 y.virtual_methods (drop (length y.direct_methods) offs))

  members_spelled : (c : Body) (offs : List ℕ) → class_data_bytes m (name, c) offs ≡ spelled_members (members_of c) offs
  unfolding class_data_bytes
  members_spelled c offs = refl

  -- class data is that of what the numbers denote
  pub class_data_spelled : (c : Body) (x : NumberedMembers) (offs : List ℕ) → AreKnownMembers m x → AreOfClass m name x → members_of c ≡ members_in m x → numbered_class_data_bytes x offs ≡ class_data_bytes m (name, c) offs
  class_data_spelled c x offs h k same =
      let OfFields : NumberedField → Type 0 = λ f. (field_at m f.number).class ≡ name in
      let OfMethods : NumberedMethod → Type 0 = λ y. (method_at m y.number).class ≡ name in
      let k0 = all_prefix OfFields x.static_fields x.instance_fields k.fields_of_class in
      let k1 = all_back OfFields x.static_fields x.instance_fields k.fields_of_class in
      let k2 = all_prefix OfMethods x.direct_methods x.virtual_methods k.methods_of_class in
      let k3 = all_back OfMethods x.direct_methods x.virtual_methods k.methods_of_class in
      let l0 = sym (length-map x.static_fields (field_in m)) in
      let l1 = sym (length-map x.instance_fields (field_in m)) in
      let l2 = sym (length-map x.direct_methods (method_in m)) in
      let l3 = sym (length-map x.virtual_methods (method_in m)) in
      let x0 = fields_spelled 0 x.static_fields h.static_fields_known k0 in
      let x1 = fields_spelled 0 x.instance_fields h.instance_fields_known k1 in
      let x2 : numbered_methods_bytes 0 x.direct_methods (take (length x.direct_methods) offs) ≡ spelled_methods 0 (map (method_in m) x.direct_methods) (take (length (map (method_in m) x.direct_methods)) offs) =
      methods_spelled 0 x.direct_methods (take (length x.direct_methods) offs) h.direct_methods_known k2 ∙ ap (λ (n : ℕ). spelled_methods 0 (map (method_in m) x.direct_methods) (take n offs)) l2 in
      let x3 : numbered_methods_bytes 0 x.virtual_methods (drop (length x.direct_methods) offs) ≡ spelled_methods 0 (map (method_in m) x.virtual_methods) (drop (length (map (method_in m) x.direct_methods)) offs) =
      methods_spelled 0 x.virtual_methods (drop (length x.direct_methods) offs) h.virtual_methods_known k3 ∙ ap (λ (n : ℕ). spelled_methods 0 (map (method_in m) x.virtual_methods) (drop n offs)) l2 in
      let all : numbered_class_data_bytes x offs ≡ spelled_members (members_in m x) offs = λ i. lists_bytes (l0 i) (l1 i) (l2 i) (l3 i) (x0 i) (x1 i) (x2 i) (x3 i) in
      all ∙ ap (λ (y : Members). spelled_members y offs) (sym same) ∙ sym (members_spelled c offs)
