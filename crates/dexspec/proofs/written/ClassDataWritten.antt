-- Class data is at the offset of its canonical bytes, if each member is in the row of its index and the indices rise.
use Rattle.dexspec.proofs.Common.{◌≡◌, ℕ, ◌+◌, ◌-◌, ◌^◌, ◌<◌, ◌≤◌, List, [], ◌∷◌, ◌++◌, length, map, Option, Some, None, refl, sym, ap, ◌∙◌, arith, inl, inr, All, subst, take, drop, length-take, length-drop, ◌==◌, false, nat_lt, IsTrue, Contains, concat, zip, flat_map, is_lt, nat_cmp, Ordering, Less, Equal, Greater, true≢false, cond-false, cond_both, cases_lt, le-ltb, option_to_list, length-append, length-map, All-contains, All-take, All-drop, Contains-append_left, Contains-append_right, ClassData, Mentions}
use Rattle.dexspec.specs.{rises, zip_with, BytesAt, uleb128, Text, Symbol, TypeSymbol, FieldSymbol, MethodSymbol, EncodedField, EncodedMethod, IsNextIndex, EncodedFieldsAt, EncodedMethodsAt, ClassDataAt, data_off, Uleb128At, FieldDef, MethodDef, Body, declared_fields, declared_methods, IsFieldDef, IsMethodDef, IsWellFormed, field_of, method_of, optional_type, optional_text, set_symbols, field_symbols, method_symbols, values_symbols, code_symbols, symbols_of, field_index, method_index, differences, encoded_method_bytes, class_data_bytes}
use Rattle.dexspec.proofs.lists.Members.{and_first, and_second, Contains-first, Contains-later, Contains-flat_map}
use Rattle.dexspec.proofs.written.PlacedBytes.{is_at}
use Rattle.dexspec.proofs.written.NumbersWritten.{prefix_is_at, suffix_is_at, uleb128_written, AreInRows, IsInRow}

-- ---- rising indices and their differences

-- the indices rise, after one if there is one
abbrev AreRising : Option ℕ → List ℕ → Type 0
AreRising None is = IsTrue (rises nat_cmp is)
AreRising (Some last) is = IsTrue (rises nat_cmp (last ∷ is))

-- the base of the first difference
abbrev from_index : Option ℕ → ℕ
from_index None = 0
from_index (Some last) = last

-- a number is not less than a number that is at most equal
not_less : (x y : ℕ) → y ≤ x → is_lt (nat_cmp x y) ≡ false
not_less x y le = ap is_lt (cond-false (nat_lt x y) Less _ (le-ltb x y le)) ∙ cond_both (x == y) Equal Greater (λ (r : Ordering). is_lt r ≡ false) (λ e. refl) (λ e. refl)

-- an index is greater than the one before it
index_less : (last i : ℕ) (is : List ℕ) → IsTrue (rises nat_cmp (last ∷ i ∷ is)) → last < i
index_less last i is h =
    elim (cases_lt last i) [
      | inl lt ↦ lt
      | inr ge ↦ absurd (true≢false (sym (and_first (is_lt (nat_cmp last i)) (rises nat_cmp (i ∷ is)) h) ∙ not_less last i ge))
    ]

-- a difference gives the next index
next_index : (last : Option ℕ) (i : ℕ) (is : List ℕ) → AreRising last (i ∷ is) → IsNextIndex last (i - from_index last) i
next_index None i is h = omega arith
next_index (Some last) i is h = let lt = index_less last i is h in (omega (arith, lt), omega (arith, lt))

-- the other indices rise after it
next_rising : (last : Option ℕ) (i : ℕ) (is : List ℕ) → AreRising last (i ∷ is) → AreRising (Some i) is
next_rising None i is h = h
next_rising (Some last) i is h = and_second (is_lt (nat_cmp last i)) (rises nat_cmp (i ∷ is)) h

-- ---- members

-- a declared field as class data has it
abbrev pub encoded_field : Text → FieldDef → EncodedField
encoded_field name f = record { field = field_of name f; flags = f.flags }

-- a declared method, with the offset of its code
abbrev pub encoded_method : Text → MethodDef → ℕ → EncodedMethod
encoded_method name x code_off = record { method = method_of name x; flags = x.flags; code_off = code_off }

module _ (b : List ℕ) (m : Mentions) (name : Text) where
  -- the indices of fields, and of methods
  abbrev field_indices : List FieldDef → List ℕ
  field_indices fs = map (λ f. field_index m (field_of name f)) fs

  abbrev method_indices : List MethodDef → List ℕ
  method_indices xs = map (λ x. method_index m (method_of name x)) xs

  -- the bytes of fields, after an index
  abbrev fields_bytes : ℕ → List FieldDef → List ℕ
  fields_bytes last fs = concat (zip_with (λ f difference. uleb128 difference ++ uleb128 f.flags) fs (differences last (field_indices fs)))

  -- the bytes of methods, after an index
  abbrev methods_bytes : ℕ → List MethodDef → List ℕ → List ℕ
  methods_bytes last xs offs = concat (zip_with encoded_method_bytes xs (zip (differences last (method_indices xs)) offs))

  -- fields are at the offset of their bytes
  pub fields_written : (last : Option ℕ) (o : ℕ) (fs : List FieldDef) → AreRising last (field_indices fs) → ((f : FieldDef) → Contains fs f → IsInRow b m (FieldSymbol (field_of name f)))
      → ((f : FieldDef) → Contains fs f → f.flags < 2 ^ 32) → BytesAt b o (fields_bytes (from_index last) fs) → EncodedFieldsAt b o last (map (encoded_field name) fs) (length (fields_bytes (from_index last) fs))
  fields_written last o [] rise are flags h = refl
  fields_written last o (f ∷ fs) rise are flags h =
      let i = field_index m (field_of name f) in
      let x = uleb128 (i - from_index last) in
      let y = uleb128 f.flags in
      let rest = fields_bytes i fs in
      let row = are f (Contains-first f fs) in
      let head = prefix_is_at (x ++ y) rest h in (
        length x,
        length y,
        length rest,
        i - from_index last,
        i,
        uleb128_written b o (i - from_index last) (omega (arith, row.1)) (prefix_is_at x y head),
        uleb128_written b (o + length x) f.flags (flags f (Contains-first f fs)) (suffix_is_at x y head),
        next_index last i (field_indices fs) rise,
        row.0,
        fields_written (Some i) (o + length x + length y) fs (next_rising last i (field_indices fs) rise) (λ g c. are g (Contains-later f g fs c)) (λ g c. flags g (Contains-later f g fs c))
            (is_at (omega (arith, length-append x y)) (suffix_is_at (x ++ y) rest h)),
        omega (arith, length-append (x ++ y) rest, length-append x y),
      )

  -- methods are at the offset of their bytes, with the offsets of their code
  pub methods_written : (last : Option ℕ) (o : ℕ) (xs : List MethodDef) (offs : List ℕ) → length offs ≡ length xs → AreRising last (method_indices xs) → ((x : MethodDef) → Contains xs x → IsInRow b m (MethodSymbol (method_of name x)))
      → ((x : MethodDef) → Contains xs x → x.flags < 2 ^ 32) → ((p : ℕ) → Contains offs p → p < 2 ^ 32) → BytesAt b o (methods_bytes (from_index last) xs offs)
      → EncodedMethodsAt b o last (zip_with (encoded_method name) xs offs) (length (methods_bytes (from_index last) xs offs))
  methods_written last o [] offs len rise are flags small h = refl
  methods_written last o (x ∷ xs) [] len rise are flags small h = absurd (omega arith)
  methods_written last o (x ∷ xs) (p ∷ offs) len rise are flags small h =
      let i = method_index m (method_of name x) in
      let u = uleb128 (i - from_index last) in
      let v = uleb128 x.flags in
      let w = uleb128 p in
      let rest = methods_bytes i xs offs in
      let row = are x (Contains-first x xs) in
      let head = prefix_is_at (u ++ (v ++ w)) rest h in
      let following = suffix_is_at u (v ++ w) head in (
        length u,
        length v,
        length w,
        length rest,
        i - from_index last,
        i,
        uleb128_written b o (i - from_index last) (omega (arith, row.1)) (prefix_is_at u (v ++ w) head),
        uleb128_written b (o + length u) x.flags (flags x (Contains-first x xs)) (prefix_is_at v w following),
        uleb128_written b (o + length u + length v) p (small p (Contains-first p offs)) (suffix_is_at v w following),
        next_index last i (method_indices xs) rise,
        row.0,
        methods_written (Some i) (o + length u + length v + length w) xs offs (omega arith) (next_rising last i (method_indices xs) rise) (λ y c. are y (Contains-later x y xs c)) (λ y c. flags y (Contains-later x y xs c)) (λ q c. small q (Contains-later p q offs c))
            (is_at (omega (arith, length-append u (v ++ w), length-append v w)) (suffix_is_at (u ++ (v ++ w)) rest h)),
        omega (arith, length-append (u ++ (v ++ w)) rest, length-append u (v ++ w), length-append v w),
      )

-- ---- the symbols of members

-- the symbols after a class's own symbols are among its symbols
pub own_first : (name : Text) (c : Body) (s : Symbol) → Contains (flat_map (field_symbols name) (declared_fields c) ++ (flat_map (method_symbols name) (declared_methods c) ++ values_symbols c.static_values)) s → Contains (symbols_of (name, c)) s
unfolding symbols_of
own_first name c s is =
    let members = flat_map (field_symbols name) (declared_fields c) ++ (flat_map (method_symbols name) (declared_methods c) ++ values_symbols c.static_values) in
    let r3 = set_symbols c.annotations ++ members in
    let r2 = optional_text c.source ++ r3 in
    let r1 = map TypeSymbol c.interfaces ++ r2 in
    let r0 = optional_type c.superclass ++ r1 in
    Contains-later (TypeSymbol name) s r0
    (Contains-append_right (optional_type c.superclass) r1 s
    (Contains-append_right (map TypeSymbol c.interfaces) r2 s (Contains-append_right (optional_text c.source) r3 s (Contains-append_right (set_symbols c.annotations) members s is))))

-- a declared field is among them
pub field_occurs : (name : Text) (c : Body) (f : FieldDef) → Contains (declared_fields c) f → Contains (symbols_of (name, c)) (FieldSymbol (field_of name f))
field_occurs name c f is =
    let s = FieldSymbol (field_of name f) in
    let fields = flat_map (field_symbols name) (declared_fields c) in
    let others = flat_map (method_symbols name) (declared_methods c) ++ values_symbols c.static_values in
    own_first name c s (Contains-append_left fields others s (Contains-flat_map (field_symbols name) (declared_fields c) f s is (Contains-first s (set_symbols f.annotations))))

-- a declared method is among them
pub method_occurs : (name : Text) (c : Body) (x : MethodDef) → Contains (declared_methods c) x → Contains (symbols_of (name, c)) (MethodSymbol (method_of name x))
method_occurs name c x is =
    let s = MethodSymbol (method_of name x) in
    let fields = flat_map (field_symbols name) (declared_fields c) in
    let methods = flat_map (method_symbols name) (declared_methods c) in
    let following = flat_map code_symbols (option_to_list x.code) ++ (set_symbols x.annotations ++ flat_map set_symbols x.parameter_annotations) in
    own_first name c s
    (Contains-append_right fields (methods ++ values_symbols c.static_values) s (Contains-append_left methods (values_symbols c.static_values) s (Contains-flat_map (method_symbols name) (declared_methods c) x s is (Contains-first s following))))

-- ---- class data

-- a class's members as class data has them, with the offsets of the code of its methods
abbrev pub class_data_of : Text → Body → List ℕ → ClassData
class_data_of name c code_offs = record {
  static_fields = map (encoded_field name) c.static_fields;
  instance_fields = map (encoded_field name) c.instance_fields;
  direct_methods = zip_with (encoded_method name) c.direct_methods (take (length c.direct_methods) code_offs);
  virtual_methods = zip_with (encoded_method name) c.virtual_methods (drop (length c.direct_methods) code_offs);
}

-- the indices of each of the four lists rise strictly
abbrev pub IndicesRise : Mentions → Text → Body → Type 0
IndicesRise m name c = IsTrue (rises nat_cmp (map (λ f. field_index m (field_of name f)) c.static_fields)) × IsTrue (rises nat_cmp (map (λ f. field_index m (field_of name f)) c.instance_fields))
    × IsTrue (rises nat_cmp (map (λ x. method_index m (method_of name x)) c.direct_methods)) × IsTrue (rises nat_cmp (map (λ x. method_index m (method_of name x)) c.virtual_methods))

-- there are as many pairs as members
length-zip_with : {X Y Z : Type 0} (f : X → Y → Z) (xs : List X) (ys : List Y) → length ys ≡ length xs → length (zip_with f xs ys) ≡ length xs
length-zip_with f [] ys e = refl
length-zip_with f (x ∷ xs) [] e = absurd (omega arith)
length-zip_with f (x ∷ xs) (y ∷ ys) e = let rest = length-zip_with f xs ys (omega arith) in omega (arith, rest)

-- class data is at the offset of its bytes
pub class_data_written : (b : List ℕ) (m : Mentions) (o : ℕ) (name : Text) (c : Body) (code_offs : List ℕ) → IsWellFormed (name, c) → IndicesRise m name c → AreInRows b m (symbols_of (name, c))
    → length code_offs ≡ length (declared_methods c) → All (λ p. p < 2 ^ 32) code_offs → data_off b ≤ o → BytesAt b o (class_data_bytes m (name, c) code_offs) → ClassDataAt b o (class_data_of name c code_offs)
unfolding class_data_bytes
class_data_written b m o name c code_offs formed rise are many small following h =
    let statics = c.static_fields in
    let instances = c.instance_fields in
    let directs = c.direct_methods in
    let virtuals = c.virtual_methods in
    let fits = λ (p : ℕ). p < 2 ^ 32 in
    let direct_offs = take (length directs) code_offs in
    let virtual_offs = drop (length directs) code_offs in
    let both = length-append directs virtuals in
    let direct_many : length direct_offs ≡ length directs = omega (arith, length-take (length directs) code_offs, many, both) in
    let virtual_many : length virtual_offs ≡ length virtuals = omega (arith, length-drop (length directs) code_offs, many, both) in
    let field_row = λ (f : FieldDef) (d : Contains (declared_fields c) f). are (FieldSymbol (field_of name f)) (field_occurs name c f d) in
    let method_row = λ (x : MethodDef) (d : Contains (declared_methods c) x). are (MethodSymbol (method_of name x)) (method_occurs name c x d) in
    let field_flags = λ (f : FieldDef) (d : Contains (declared_fields c) f). (All-contains IsFieldDef (declared_fields c) f formed.fields d).flags in
    let method_flags = λ (x : MethodDef) (d : Contains (declared_methods c) x). (All-contains IsMethodDef (declared_methods c) x formed.methods d).flags in
    let n0 = uleb128 (length statics) in
    let n1 = uleb128 (length instances) in
    let n2 = uleb128 (length directs) in
    let n3 = uleb128 (length virtuals) in
    let x0 = fields_bytes b m name 0 statics in
    let x1 = fields_bytes b m name 0 instances in
    let x2 = methods_bytes b m name 0 directs direct_offs in
    let x3 = methods_bytes b m name 0 virtuals virtual_offs in
    let r6 = x2 ++ x3 in
    let r5 = x1 ++ r6 in
    let r4 = x0 ++ r5 in
    let r3 = n3 ++ r4 in
    let r2 = n2 ++ r3 in
    let r1 = n1 ++ r2 in
    let h1 = suffix_is_at n0 r1 h in
    let h2 = suffix_is_at n1 r2 h1 in
    let h3 = suffix_is_at n2 r3 h2 in
    let p1 = o + length n0 in
    let p2 = p1 + length n1 in
    let p3 = p2 + length n2 in
    let counts = length n0 + (length n1 + (length n2 + (length n3 + 0))) in
    let p4 = o + counts in
    let p5 = p4 + length x0 in
    let p6 = p5 + length x1 in
    let p7 = p6 + length x2 in
    let h4 : BytesAt b p4 r4 = is_at (omega arith) (suffix_is_at n3 r4 h3) in
    let h5 = suffix_is_at x0 r5 h4 in
    let h6 = suffix_is_at x1 r6 h5 in
    let h7 = suffix_is_at x2 x3 h6 in
    let c0 = subst (λ n. Uleb128At b o n (length n0)) (sym (length-map statics (encoded_field name))) (uleb128_written b o (length statics) formed.static_fields_count (prefix_is_at n0 r1 h)) in
    let c1 = subst (λ n. Uleb128At b p1 n (length n1)) (sym (length-map instances (encoded_field name))) (uleb128_written b p1 (length instances) formed.instance_fields_count (prefix_is_at n1 r2 h1)) in
    let c2 = subst (λ n. Uleb128At b p2 n (length n2)) (sym (length-zip_with (encoded_method name) directs direct_offs direct_many)) (uleb128_written b p2 (length directs) formed.direct_methods_count (prefix_is_at n2 r3 h2)) in
    let c3 = subst (λ n. Uleb128At b p3 n (length n3)) (sym (length-zip_with (encoded_method name) virtuals virtual_offs virtual_many)) (uleb128_written b p3 (length virtuals) formed.virtual_methods_count (prefix_is_at n3 r4 h3)) in
    record {
      in_data = following;
      counts_bytes = counts;
      static_fields_bytes = length x0;
      instance_fields_bytes = length x1;
      direct_methods_bytes = length x2;
      virtual_methods_bytes = length x3;
      counts = (length n0, length n1 + (length n2 + (length n3 + 0)), c0, (length n1, length n2 + (length n3 + 0), c1, (length n2, length n3 + 0, c2, (length n3, 0, c3, refl, refl), refl), refl), refl);
      static_fields = fields_written b m name None p4 statics rise.0 (λ f d. field_row f (Contains-append_left statics instances f d)) (λ f d. field_flags f (Contains-append_left statics instances f d)) (prefix_is_at x0 r5 h4);
      instance_fields = fields_written b m name None p5 instances rise.1 (λ f d. field_row f (Contains-append_right statics instances f d)) (λ f d. field_flags f (Contains-append_right statics instances f d)) (prefix_is_at x1 r6 h5);
      direct_methods =
          methods_written b m name None p6 directs direct_offs direct_many rise.2 (λ x d. method_row x (Contains-append_left directs virtuals x d)) (λ x d. method_flags x (Contains-append_left directs virtuals x d))
          (λ p d. All-contains fits direct_offs p (All-take fits (length directs) code_offs small) d) (prefix_is_at x2 x3 h6);
      virtual_methods =
          methods_written b m name None p7 virtuals virtual_offs virtual_many rise.3 (λ x d. method_row x (Contains-append_right directs virtuals x d)) (λ x d. method_flags x (Contains-append_right directs virtuals x d))
          (λ p d. All-contains fits virtual_offs p (All-drop fits (length directs) code_offs small) d) h7;
    }
