-- What a row declares weighs what its parts do together.
use Rattle.dexmembers.proofs.Common.{◌≡◌, ◌⊎◌, ℕ, ◌+◌, ◌*◌, ◌<◌, Bool, true, false, cond, List, [], ◌∷◌, ◌++◌, length, get_or, map, refl, sym, ap, ◌∙◌, subst, arith, inl, inr, Option, Some, Ordering, Less, Equal, Greater, ◌≤◌, ◌==◌, not, All, sum_by, unwrap_or, Contains, filter, is_eq, nat_cmp, ordering_reverse, IsTotalOrder, map-append, All-map, All-weaker, filter_passes, Contains-append_cases, All-contains, sum_by-cons, sum_by-append, sum_by-le, sum_by-le-sum_by, cond_both, eqb-true, AreDistinct, rises, zip_with, Field, Method, field_cmp, method_cmp, Code, Values, Directory, annotated, ClassData, EncodedField, EncodedMethod, ShareNone, fields_of, methods_of, field_def, MethodDef, NamesDeclared, Mentions, set_weight, ref_list_weight, field_weight, method_weight, static_values_weight, AreAmong, Contains-nil, Contains-first, Contains-later, Contains-cons_cases, Contains-filter_source, AreDistinct-first, AreDistinct-rest, sum_by-among, Rises, Rises-from_rises, AreDistinct-from_Rises, field_total, field_exact, method_total, method_exact, AreRising, places_agree, rises-map, directory_weight, tied_itself, Contains-map, Contains-map_source}
use Rattle.std.specs.FinMap.Entries.{find}
use Rattle.std.proofs.lemmas.List.Filters.{sum_by-filter_both}
use Rattle.dexspec.proofs.lists.Searches.{AreDistinct-cons}
use Rattle.dexmembers.specs.{NumbersRise, Members, members_weight, coded_weight}
use Rattle.dexmembers.specs.internal.ClassData.{encoded_field_in, encoded_method_in, class_data_in, IsDataOf}
use Rattle.dexmembers.specs.internal.MethodCodes.{optional_code_weight}
use Rattle.dexmembers.specs.declared.class_data.EncodedField.{EncodedField as FieldRead}
use Rattle.dexmembers.specs.declared.class_data.EncodedMethod.{EncodedMethod as MethodRead}
use Rattle.dexmembers.specs.declared.class_data.ClassData.{ClassData as DataRead}
use Rattle.dexmembers.proofs.RenumberingLists.{both_ways}
use Rattle.dexmembers.proofs.RenumberingKept.{no_field, no_method}

-- ---- lists without repeats

-- two of them that share nothing
append_distinct : {X : Type 0} (xs ys : List X) → AreDistinct xs → AreDistinct ys → ShareNone xs ys → AreDistinct (xs ++ ys)
append_distinct [] ys d e share = e
append_distinct (x ∷ xs) ys d e share =
    AreDistinct-cons x (xs ++ ys) (λ c. elim (Contains-append_cases xs ys x c) [ inl l ↦ AreDistinct-first x xs d x l refl | inr r ↦ share x (Contains-first x xs) r ])
    (append_distinct xs ys (AreDistinct-rest x xs d) e (λ z c. share z (Contains-later x z xs c)))

module _ {K X E : Type 0} (R : K → K → Ordering) (o : IsTotalOrder R) (ks : List K) (rise : rises R ks ≡ true) (none : K) (enc : X → E) (symbol : E → K) (index : X → ℕ) (is : (x : X) → symbol (enc x) ≡ get_or ks (index x) none) where
  -- symbols whose indices rise
  symbols_distinct : (xs : List X) → All (λ (x : X). index x < length ks) xs → NumbersRise (map index xs) → AreDistinct (map symbol (map enc xs))
  symbols_distinct xs below up =
      let at = λ (i : ℕ). get_or ks i none in
      let numbers = map index xs in
      let within = All-map (λ (i : ℕ). i < length ks) index xs below in
      let risen : rises R (map at numbers) ≡ true = sym (rises-map nat_cmp R at (λ (i : ℕ). i < length ks) (λ i j lt lt'. places_agree R o ks rise i j none none lt lt') numbers within) ∙ up in
      subst AreDistinct (sym (both_ways enc symbol index at is xs)) (AreDistinct-from_Rises R o (map at numbers) (Rises-from_rises R o (map at numbers) risen))

-- ---- entries of a directory

module _ {K Y : Type 0} (R : K → K → Ordering) (o : IsTotalOrder R) where
  -- what rising entries have for the member of one of them is its own
  entry_found : (es : List (K × List Y)) → Rises R (map (λ (e : K × List Y). e.0) es) → (e : K × List Y) → Contains es e → annotated R es e.0 ≡ e.1
  entry_found [] h e c = absurd (Contains-nil e c)
  entry_found (f ∷ es) h e c = elim (Contains-cons_cases f e es c) as (λ _. annotated R (f ∷ es) e.0 ≡ e.1) [
    | inl same ↦
        ap (λ (x : K × List Y). annotated R (f ∷ es) x.0) (sym same)
        ∙ (ap (λ (r : Ordering). unwrap_or (cond (is_eq r) (Some f.1) (find R f.0 es)) []) (tied_itself o f.0)
        ∙ ap (λ (x : K × List Y). x.1) same)
    | inr later ↦
        let less : R f.0 e.0 ≡ Less = h.0 e.0 (Contains-map (λ (x : K × List Y). x.0) es e later) in
        let more : R e.0 f.0 ≡ Greater = o.antisymm e.0 f.0 ∙ ap ordering_reverse less in
        ap (λ (r : Ordering). unwrap_or (cond (is_eq r) (Some f.1) (find R e.0 es)) []) more ∙ entry_found es h.1 e later
  ]

  -- a sum over entries, by their members
  sum_members : (w : List Y → ℕ) (es : List (K × List Y)) (g : K → List Y) → ((e : K × List Y) → Contains es e → g e.0 ≡ e.1) → sum_by (λ (e : K × List Y). w e.1) es ≡ sum_by (λ (k : K). w (g k)) (map (λ (e : K × List Y). e.0) es)
  sum_members w [] g h = refl
  sum_members w (e ∷ es) g h =
      let first : w (g e.0) ≡ w e.1 = ap w (h e (Contains-first e es)) in
      let rest = sum_members w es g (λ x c. h x (Contains-later e x es c)) in
      omega (arith, first, rest, sum_by-cons (λ (x : K × List Y). w x.1) e es, sum_by-cons (λ (k : K). w (g k)) e.0 (map (λ (x : K × List Y). x.0) es))

  -- entries of some members weigh no more than what these are given
  entries_weigh : (w : List Y → ℕ) (es : List (K × List Y)) (ks : List K) → Rises R (map (λ (e : K × List Y). e.0) es) → All (λ (e : K × List Y). Contains ks e.0) es → sum_by (λ (e : K × List Y). w e.1) es ≤ sum_by (λ (k : K). w (annotated R es k)) ks
  entries_weigh w es ks h named =
      let keys = map (λ (e : K × List Y). e.0) es in
      let f = λ (k : K). w (annotated R es k) in
      let among : AreAmong keys ks = λ k c. let e = Contains-map_source (λ (x : K × List Y). x.0) es k c in
      subst (Contains ks) e.2 (All-contains (λ (x : K × List Y). Contains ks x.0) es e.0 named e.1) in
      omega (arith, sum_members w es (annotated R es) (entry_found es h), sum_by-among f keys ks (AreDistinct-from_Rises R o keys h) among)

equal_is : (r : Ordering) → is_eq r ≡ true → r ≡ Equal
equal_is Less e = absurd cc
equal_is Equal e = refl
equal_is Greater e = absurd cc

distinct_filter : {X : Type 0} (p : X → Bool) (xs : List X) → AreDistinct xs → AreDistinct (filter p xs)
distinct_filter p [] d = d
distinct_filter p (x ∷ xs) d =
    let rest = distinct_filter p xs (AreDistinct-rest x xs d) in
    cond_both (p x) (x ∷ filter p xs) (filter p xs) AreDistinct (λ e. AreDistinct-cons x (filter p xs) (λ c. AreDistinct-first x xs d x (Contains-filter_source p xs x c).0 refl) rest) (λ e. rest)

-- a sum over members without repeats is no more than that over others, if it is 0 for what is not among these
sum_known : {X : Type 0} (f : X → ℕ) (xs ys : List X) → AreDistinct xs → ((x : X) → Contains ys x ⊎ (f x ≡ 0)) → sum_by f xs ≤ sum_by f ys
sum_known {X} f xs ys d known =
    let p = λ (x : X). f x == 0 in
    let q = λ (x : X). not (f x == 0) in
    let none = sum_by-le f 0 (filter p xs) (All-weaker (λ x. p x ≡ true) (λ x. f x ≤ 0) (λ x e. let z = eqb-true (f x) 0 e in omega (arith, z)) (filter p xs) (filter_passes p xs)) in
    let some : AreAmong (filter q xs) ys = λ x c. elim (known x) [ inl l ↦ l | inr n ↦ absurd (let kept = (Contains-filter_source q xs x c).1 in let left : q x ≡ false = ap (λ (k : ℕ). not (k == 0)) n in cc) ] in
    omega (arith, none, sum_by-filter_both p q (λ x. refl) f xs, sum_by-among f (filter q xs) ys (distinct_filter q xs d) some)

module _ {K Y : Type 0} (R : K → K → Ordering) (o : IsTotalOrder R) (exact : (x y : K) → R x y ≡ Equal → x ≡ y) where
  -- a member has an entry, or nothing is found for it
  key_or_none : (es : List (K × List Y)) (k : K) → Contains (map (λ (e : K × List Y). e.0) es) k ⊎ (annotated R es k ≡ [])
  key_or_none [] k = inr refl
  key_or_none (e ∷ es) k = by (is_eq (R k e.0)) refl (key_or_none es k)
    where
      keys : List K
      keys = map (λ (x : K × List Y). x.0) es

      by : (t : Bool) → is_eq (R k e.0) ≡ t → Contains keys k ⊎ (annotated R es k ≡ []) → Contains (e.0 ∷ keys) k ⊎ (unwrap_or (cond t (Some e.1) (find R k es)) [] ≡ [])
      by true t rest = inl (subst (Contains (e.0 ∷ keys)) (sym (exact k e.0 (equal_is (R k e.0) t))) (Contains-first e.0 keys))
      by false t rest = elim rest [ inl c ↦ inl (Contains-later e.0 k keys c) | inr n ↦ inr n ]

  -- entries of some members weigh what these are given
  entries_sum : (w : List Y → ℕ) → w [] ≡ 0 → (es : List (K × List Y)) (ks : List K) → AreDistinct ks → Rises R (map (λ (e : K × List Y). e.0) es) → All (λ (e : K × List Y). Contains ks e.0) es
      → sum_by (λ (e : K × List Y). w e.1) es ≡ sum_by (λ (k : K). w (annotated R es k)) ks
  entries_sum w nothing es ks d h named =
      let known = sum_known (λ (k : K). w (annotated R es k)) ks (map (λ (e : K × List Y). e.0) es) d (λ k. elim (key_or_none es k) [ inl c ↦ inl c | inr n ↦ inr (ap w n ∙ nothing) ]) in
      omega (arith, entries_weigh R o w es ks h named, known, sum_members R o w es (annotated R es) (entry_found R o es h))

-- ---- members

-- the method that class data, a directory and code make
abbrev pub method_made : Directory → EncodedMethod → Option Code → MethodDef
method_made a x c = record {
  name = x.method.name;
  proto = x.method.proto;
  flags = x.flags;
  code = c;
  annotations = annotated method_cmp a.methods x.method;
  parameter_annotations = annotated method_cmp a.parameters x.method;
}

-- what class data, a directory, code and static values make
abbrev pub members_made : ClassData → Directory → List (Option Code) → List (Option Code) → Values → Members
members_made d a direct virtual vs = record {
  annotations = a.own;
  static_fields = map (field_def a) d.static_fields;
  instance_fields = map (field_def a) d.instance_fields;
  direct_methods = zip_with (method_made a) d.direct_methods direct;
  virtual_methods = zip_with (method_made a) d.virtual_methods virtual;
  static_values = vs;
}

-- the sets of fields
abbrev field_sets : Directory → List EncodedField → ℕ
field_sets a xs = sum_by (λ (k : Field). set_weight (annotated field_cmp a.fields k)) (map (λ (x : EncodedField). x.field) xs)

-- the sets of methods
abbrev method_sets : Directory → List EncodedMethod → ℕ
method_sets a xs = sum_by (λ (k : Method). set_weight (annotated method_cmp a.methods k)) (map (λ (x : EncodedMethod). x.method) xs)

-- those of their parameters
abbrev method_lists : Directory → List EncodedMethod → ℕ
method_lists a xs = sum_by (λ (k : Method). ref_list_weight (annotated method_cmp a.parameters k)) (map (λ (x : EncodedMethod). x.method) xs)

fields_sum : (a : Directory) (xs : List EncodedField) → sum_by field_weight (map (field_def a) xs) ≡ 18 * length xs + field_sets a xs
fields_sum a [] = omega arith
fields_sum a (x ∷ xs) =
    let f = λ (k : Field). set_weight (annotated field_cmp a.fields k) in
    let rest = fields_sum a xs in
    omega (arith, rest, sum_by-cons f x.field (map (λ (y : EncodedField). y.field) xs), sum_by-cons field_weight (field_def a x) (map (field_def a) xs))

methods_sum : (a : Directory) (xs : List EncodedMethod) (cs : List (Option Code)) → length xs ≡ length cs → sum_by method_weight (zip_with (method_made a) xs cs) ≡ sum_by coded_weight cs + method_sets a xs + method_lists a xs
methods_sum a [] [] n = omega arith
methods_sum a [] (c ∷ cs) n = absurd (omega arith)
methods_sum a (x ∷ xs) [] n = absurd (omega arith)
methods_sum a (x ∷ xs) (c ∷ cs) n =
    let f = λ (k : Method). set_weight (annotated method_cmp a.methods k) in
    let g = λ (k : Method). ref_list_weight (annotated method_cmp a.parameters k) in
    let names = map (λ (y : EncodedMethod). y.method) xs in
    let rest = methods_sum a xs cs (omega arith) in
    let one : method_weight (method_made a x c) ≡ 31 + optional_code_weight c + f x.method + g x.method = refl in
    omega (arith, rest, one, sum_by-cons f x.method names, sum_by-cons g x.method names, sum_by-cons coded_weight c cs, sum_by-cons method_weight (method_made a x c) (zip_with (method_made a) xs cs))

-- what that weighs
abbrev pub made_weight : ClassData → Directory → List (Option Code) → List (Option Code) → Values → ℕ
made_weight d a direct virtual vs = members_weight (members_made d a direct virtual vs)

module _ (d : ClassData) (a : Directory) (direct virtual : List (Option Code)) (vs : Values) (direct_many : length d.direct_methods ≡ length direct) (virtual_many : length d.virtual_methods ≡ length virtual) where
  -- what parts make weighs what they do, with the sets that are given to members
  given_sum : made_weight d a direct virtual vs
      ≡ 18 * (length d.static_fields + length d.instance_fields) + set_weight a.own + field_sets a (fields_of d) + method_sets a (methods_of d) + method_lists a (methods_of d) + sum_by coded_weight direct + sum_by coded_weight virtual + static_values_weight vs
  given_sum =
      let f = λ (k : Field). set_weight (annotated field_cmp a.fields k) in
      let g = λ (k : Method). set_weight (annotated method_cmp a.methods k) in
      let h = λ (k : Method). ref_list_weight (annotated method_cmp a.parameters k) in
      let field = λ (x : EncodedField). x.field in
      let method = λ (x : EncodedMethod). x.method in
      let fs : field_sets a (fields_of d) ≡ field_sets a d.static_fields + field_sets a d.instance_fields =
      ap (sum_by f) (map-append field d.static_fields d.instance_fields) ∙ sum_by-append f (map field d.static_fields) (map field d.instance_fields) in
      let gs : method_sets a (methods_of d) ≡ method_sets a d.direct_methods + method_sets a d.virtual_methods =
      ap (sum_by g) (map-append method d.direct_methods d.virtual_methods) ∙ sum_by-append g (map method d.direct_methods) (map method d.virtual_methods) in
      let hs : method_lists a (methods_of d) ≡ method_lists a d.direct_methods + method_lists a d.virtual_methods =
      ap (sum_by h) (map-append method d.direct_methods d.virtual_methods) ∙ sum_by-append h (map method d.direct_methods) (map method d.virtual_methods) in
      let made = members_made d a direct virtual vs in
      let fields = sum_by-append field_weight made.static_fields made.instance_fields in
      let methods = sum_by-append method_weight made.direct_methods made.virtual_methods in
      omega (arith, fs, gs, hs, fields, methods, fields_sum a d.static_fields, fields_sum a d.instance_fields, methods_sum a d.direct_methods direct direct_many, methods_sum a d.virtual_methods virtual virtual_many)

  -- the code of direct methods weighs no more, and neither do that of virtual ones and static values
  pub code_within : (sum_by optional_code_weight direct ≤ made_weight d a direct virtual vs) × (sum_by optional_code_weight virtual ≤ made_weight d a direct virtual vs) × (static_values_weight vs ≤ made_weight d a direct virtual vs)
  code_within =
      let less = λ (cs : List (Option Code)). sum_by-le-sum_by optional_code_weight coded_weight cs (λ c. omega arith) in
      (omega (arith, given_sum, less direct), omega (arith, given_sum, less virtual), omega (arith, given_sum))

  module _ (named : NamesDeclared a d) (fields_rise : Rises field_cmp (map (λ e. e.0) a.fields)) (methods_rise : Rises method_cmp (map (λ e. e.0) a.methods)) (parameters_rise : Rises method_cmp (map (λ e. e.0) a.parameters)) where
    -- nor do annotations, where they are those of declared members
    pub annotations_within : directory_weight a ≤ made_weight d a direct virtual vs
    annotations_within =
        let fields = entries_weigh field_cmp field_total set_weight a.fields (map (λ x. x.field) (fields_of d)) fields_rise named.fields in
        let methods = entries_weigh method_cmp method_total set_weight a.methods (map (λ x. x.method) (methods_of d)) methods_rise named.methods in
        omega (arith, given_sum, fields, methods, entries_weigh method_cmp method_total ref_list_weight a.parameters (map (λ x. x.method) (methods_of d)) parameters_rise named.parameters)

    -- what parts make weighs what they do
    pub parts_sum : AreDistinct (map (λ x. x.field) (fields_of d)) → AreDistinct (map (λ x. x.method) (methods_of d))
        → made_weight d a direct virtual vs ≡ 18 * (length d.static_fields + length d.instance_fields) + directory_weight a + sum_by coded_weight direct + sum_by coded_weight virtual + static_values_weight vs
    parts_sum fields_apart methods_apart =
        let fields = entries_sum field_cmp field_total field_exact set_weight refl a.fields (map (λ x. x.field) (fields_of d)) fields_apart fields_rise named.fields in
        let methods = entries_sum method_cmp method_total method_exact set_weight refl a.methods (map (λ x. x.method) (methods_of d)) methods_apart methods_rise named.methods in
        omega (arith, given_sum, fields, methods, entries_sum method_cmp method_total method_exact ref_list_weight refl a.parameters (map (λ x. x.method) (methods_of d)) methods_apart parameters_rise named.parameters)

-- ---- members by their indices

module _ (b : List ℕ) (r : ℕ) (m : Mentions) (rising : AreRising m) (read : DataRead) (is : IsDataOf b r m read) where
  -- no declared field is another
  pub declared_fields_apart : AreDistinct (map (λ x. x.field) (fields_of (class_data_in m read)))
  declared_fields_apart =
      let field = λ (x : EncodedField). x.field in
      let d = class_data_in m read in
      subst AreDistinct (sym (map-append field d.static_fields d.instance_fields))
      (append_distinct (map field d.static_fields) (map field d.instance_fields)
      (symbols_distinct field_cmp field_total m.fields rising.fields_rise no_field (encoded_field_in m) field (λ (x : FieldRead). x.index) (λ x. refl) read.static_fields.items is.static_fields_are.fields_in is.static_fields_are.fields_rise)
      (symbols_distinct field_cmp field_total m.fields rising.fields_rise no_field (encoded_field_in m) field (λ (x : FieldRead). x.index) (λ x. refl) read.instance_fields.items is.instance_fields_are.fields_in is.instance_fields_are.fields_rise)
      is.declared.own.fields_apart)

  -- nor a method
  pub declared_methods_apart : AreDistinct (map (λ x. x.method) (methods_of (class_data_in m read)))
  declared_methods_apart =
      let method = λ (x : EncodedMethod). x.method in
      let d = class_data_in m read in
      subst AreDistinct (sym (map-append method d.direct_methods d.virtual_methods))
      (append_distinct (map method d.direct_methods) (map method d.virtual_methods)
      (symbols_distinct method_cmp method_total m.methods rising.methods_rise no_method (encoded_method_in m) method (λ (x : MethodRead). x.index) (λ x. refl) read.direct_methods.items is.direct_methods_are.methods_in is.direct_methods_are.methods_rise)
      (symbols_distinct method_cmp method_total m.methods rising.methods_rise no_method (encoded_method_in m) method (λ (x : MethodRead). x.index) (λ x. refl) read.virtual_methods.items is.virtual_methods_are.methods_in is.virtual_methods_are.methods_rise)
      is.declared.own.methods_apart)
