-- All items of a class row in the file of definitions can be read: conditions 17 to 22. So the canonical file of each
-- collection that can be written is accepted, and denotes it.
use Rattle.dexspec.proofs.Common.{◌≡◌, ◌≢◌, ℕ, ◌+◌, ◌<◌, ◌≤◌, List, [], ◌∷◌, length, get_or, map, take, drop, sym, ap, ◌∙◌, subst, arith, inl, inr, All, Option, Some, None, Contains, AllZip, length-map, Contains-append_left, Contains-append_right, Contains-append_cases, Debug, Code, ClassData}
use Rattle.dexspec.specs.{OrNone, SomeAt, zip_with, uint_at, Text, Field, Method, field_cmp, method_cmp, ClassDefs, Cut, DebugAt, CodeAt, TriesAt, AnnotationSet, EncodedField, EncodedMethod, fields_of, methods_of, BelongTo, FieldDef, MethodDef, Body, Definition, declared_fields, declared_methods, class_data_off, field_of, method_of, IsWellFormed, AreWellFormed, field_key, method_key, Declares, AllCode, HasPiecesAt, HasTriesAt, HasDebugAt, HasValues, NamesDeclared, IsReadable, count_values, by_class, uses_offsets, ordered, canonical, code_section, in_class_order, Collection, definitions, greatest_caps, Fits, IsGood}
use Rattle.dexspec.specs.internal.OwnDirectories.{field_sets, own_method_sets, parameter_sets, own_directory}
use Rattle.dexspec.proofs.lists.{Contains-nil, Contains-first, Contains-later, Contains-cons_cases, map_source}
use Rattle.dexspec.proofs.merge.{Contains-map, field_total, field_exact, method_total, method_exact}
use Rattle.dexspec.proofs.wellformed.FormedRows.{all_from}
use Rattle.dexspec.proofs.determined.{HasFewRows, one_row_data, one_pieces}
use Rattle.dexspec.proofs.written.{encoded_field, encoded_method, entries_source}
use Rattle.dexspec.proofs.normal.NormalRows.{count_small}
use Rattle.dexspec.proofs.normal.NormalClasses.{AreNormal, class_member, own_class}
use Rattle.dexspec.proofs.normal.NormalForm.{ItemsAreRight, IsFileOf, normal_form, canonical_all_normal, some_class}
use Rattle.dexspec.proofs.normal.ClassDirectory.{directory_there}
use Rattle.dexspec.proofs.normal.ClassItems.{own_members, members_there, values_there, code_there, zip_split, belongs}

-- ---- lists that are combined

-- a member is combined from two related members
zip_with_source : {X Y : Type 0} (P : ℕ → X → Type 0) (f : X → ℕ → Y) (xs : List X) (offs : List ℕ) (y : Y) → AllZip P offs xs → Contains (zip_with f xs offs) y → (x : X) × (o : ℕ) × Contains xs x × P o x × (f x o ≡ y)
zip_with_source P f [] [] y h c = absurd (Contains-nil y c)
zip_with_source P f (x ∷ xs) (o ∷ offs) y h c = elim (Contains-cons_cases (f x o) y (zip_with f xs offs) c) [
  | inl e ↦ (x, o, Contains-first x xs, h.0, e)
  | inr l ↦ let w = zip_with_source P f xs offs y h.1 l in (w.0, w.1, Contains-later x w.0 xs w.2, w.3, w.4)
]
zip_with_source _ f _ _ y h c = absurd h

-- each member of the first list is in a combined member
zip_with_has : {X Y : Type 0} (P : ℕ → X → Type 0) (f : X → ℕ → Y) (xs : List X) (offs : List ℕ) (x : X) → AllZip P offs xs → Contains xs x → (o : ℕ) × Contains (zip_with f xs offs) (f x o)
zip_with_has P f [] offs x h c = absurd (Contains-nil x c)
zip_with_has P f (z ∷ xs) [] x h c = absurd h
zip_with_has P f (z ∷ xs) (o ∷ offs) x h c = elim (Contains-cons_cases z x xs c) [
  | inl e ↦ (o, subst (λ w. Contains (f z o ∷ zip_with f xs offs) (f w o)) e (Contains-first (f z o) (zip_with f xs offs)))
  | inr l ↦ let w = zip_with_has P f xs offs x h.1 l in (w.0, Contains-later (f z o) (f x w.0) (zip_with f xs offs) w.1)
]

-- ---- the parts of a code item

-- code at an offset that is not 0
code_at : (b : List ℕ) (o : ℕ) (c : Option Code) → OrNone (SomeAt CodeAt) None b o c → o ≢ 0 → (k : Code) × CodeAt b o k
code_at b o c (inl h) some = absurd (some h.0)
code_at b o None (inr h) some = absurd h.1
code_at b o (Some k) (inr h) some = (k, h.1)

-- its debug program
debug_at : (b : List ℕ) (o : ℕ) (d : Option Debug) → OrNone (SomeAt DebugAt) None b o d → o ≢ 0 → (x : Debug) × DebugAt b o x
debug_at b o d (inl h) some = absurd (some h.0)
debug_at b o None (inr h) some = absurd h.1
debug_at b o (Some x) (inr h) some = (x, h.1)

-- condition 18
pieces_hold : (b : List ℕ) (o : ℕ) (k : Code) → CodeAt b o k → HasPiecesAt b o
pieces_hold b o k h = (h.cuts, k.pieces, h.pieces)

-- condition 19
tries_hold : (b : List ℕ) (o : ℕ) (k : Code) → CodeAt b o k → HasTriesAt b o
tries_hold b o k h = λ cuts ps g. (k.tries, subst (λ (cs : List Cut). TriesAt b o cs k.tries) (one_pieces b o h.cuts cuts k.pieces ps h.pieces g).0 h.tries)

-- condition 20
debug_holds : (b : List ℕ) (o : ℕ) (k : Code) → CodeAt b o k → HasDebugAt b o
debug_holds b o k h = λ cuts ps g some. debug_at b (uint_at b (o + 8)) k.debug h.debug some

-- ---- a class row

module _ (D : List Definition) (b : List ℕ) (n : AreNormal D b) (fits : Fits greatest_caps D) (r : ℕ) (e : Definition) (lt : r < length (in_class_order D)) where
  -- the class
  abbrev name : Text
  name = (get_or (in_class_order D) r e).0

  abbrev body : Body
  body = (get_or (in_class_order D) r e).1

  -- its members as class data has them
  abbrev declared : ClassData
  declared = own_members D b n fits r e lt

  -- the offsets of the code of its methods
  abbrev codes : List ℕ
  codes = get_or (by_class (ordered D) (uses_offsets (code_section (ordered D)))) r []

  formed : IsWellFormed (name, body)
  formed = n.formed (name, body) (class_member D b n r e lt)

  -- code at an offset, or none
  abbrev HasCodeAt : ℕ → MethodDef → Type 0
  HasCodeAt o x = OrNone (SomeAt CodeAt) None b o x.code

  -- direct and virtual methods with their code
  parts : AllZip HasCodeAt (take (length body.direct_methods) codes) body.direct_methods × AllZip HasCodeAt (drop (length body.direct_methods) codes) body.virtual_methods
  parts = zip_split HasCodeAt codes body.direct_methods body.virtual_methods (code_there D b n fits r e lt)

  -- a method of the class data is a declared method with its code
  direct_source : (y : EncodedMethod) → Contains declared.direct_methods y → (x : MethodDef) × (o : ℕ) × Contains body.direct_methods x × HasCodeAt o x × (encoded_method name x o ≡ y)
  direct_source y c = zip_with_source HasCodeAt (encoded_method name) body.direct_methods (take (length body.direct_methods) codes) y parts.0 c

  virtual_source : (y : EncodedMethod) → Contains declared.virtual_methods y → (x : MethodDef) × (o : ℕ) × Contains body.virtual_methods x × HasCodeAt o x × (encoded_method name x o ≡ y)
  virtual_source y c = zip_with_source HasCodeAt (encoded_method name) body.virtual_methods (drop (length body.direct_methods) codes) y parts.1 c

  -- a method of either list
  method_source : (y : EncodedMethod) → Contains (methods_of declared) y → (x : MethodDef) × (o : ℕ) × HasCodeAt o x × (encoded_method name x o ≡ y)
  method_source y c = elim (Contains-append_cases declared.direct_methods declared.virtual_methods y c) [
    | inl l ↦ let w = direct_source y l in (w.0, w.1, w.3, w.4)
    | inr l ↦ let w = virtual_source y l in (w.0, w.1, w.3, w.4)
  ]

  -- a declared method is in the class data
  method_has : (x : MethodDef) → Contains (declared_methods body) x → Contains (map (λ (y : EncodedMethod). y.method) (methods_of declared)) (method_of name x)
  method_has x c = elim (Contains-append_cases body.direct_methods body.virtual_methods x c) [
    | inl l ↦
        let w = zip_with_has HasCodeAt (encoded_method name) body.direct_methods (take (length body.direct_methods) codes) x parts.0 l in
        Contains-map (λ (y : EncodedMethod). y.method) (methods_of declared) (encoded_method name x w.0) (Contains-append_left declared.direct_methods declared.virtual_methods (encoded_method name x w.0) w.1)
    | inr l ↦
        let w = zip_with_has HasCodeAt (encoded_method name) body.virtual_methods (drop (length body.direct_methods) codes) x parts.1 l in
        Contains-map (λ (y : EncodedMethod). y.method) (methods_of declared) (encoded_method name x w.0) (Contains-append_right declared.direct_methods declared.virtual_methods (encoded_method name x w.0) w.1)
  ]

  -- a declared field is in the class data
  field_has : (f : FieldDef) → Contains (declared_fields body) f → Contains (map (λ (y : EncodedField). y.field) (fields_of declared)) (field_of name f)
  field_has f c =
      let there : Contains (fields_of declared) (encoded_field name f) = elim (Contains-append_cases body.static_fields body.instance_fields f c) [
        | inl l ↦ Contains-append_left declared.static_fields declared.instance_fields (encoded_field name f) (Contains-map (encoded_field name) body.static_fields f l)
        | inr l ↦ Contains-append_right declared.static_fields declared.instance_fields (encoded_field name f) (Contains-map (encoded_field name) body.instance_fields f l)
      ] in
      Contains-map (λ (y : EncodedField). y.field) (fields_of declared) (encoded_field name f) there

  -- a field of the class data is of the class
  field_own : (y : EncodedField) → Contains (fields_of declared) y → y.field.class ≡ name
  field_own y c = elim (Contains-append_cases declared.static_fields declared.instance_fields y c) [
    | inl l ↦ let w = map_source (encoded_field name) body.static_fields y l in ap (λ (z : EncodedField). z.field.class) (sym w.2)
    | inr l ↦ let w = map_source (encoded_field name) body.instance_fields y l in ap (λ (z : EncodedField). z.field.class) (sym w.2)
  ]

  -- a field of one of the lists
  field_source : (fs : List FieldDef) (x : Field) → Contains (map (λ (y : EncodedField). y.field) (map (encoded_field name) fs)) x → (f : FieldDef) × Contains fs f × (field_of name f ≡ x)
  field_source fs x c =
      let w = map_source (λ (y : EncodedField). y.field) (map (encoded_field name) fs) x c in
      let v = map_source (encoded_field name) fs w.0 w.1 in
      (v.0, v.1, ap (λ (y : EncodedField). y.field) v.2 ∙ w.2)

  -- the members are those of the class, none of them twice
  own : BelongTo name declared
  own = record {
    fields = all_from (λ (y : EncodedField). y.field.class ≡ name) (fields_of declared) field_own;
    methods = all_from (λ (y : EncodedMethod). y.method.class ≡ name) (methods_of declared) (λ y c. let w = method_source y c in ap (λ (z : EncodedMethod). z.method.class) (sym w.3));
    fields_apart = λ x c d.
        let u = field_source body.static_fields x c in
        let v = field_source body.instance_fields x d in
        let same : field_key v.0 ≡ field_key u.0 = ap (λ (y : Field). (y.name, y.type)) (v.2 ∙ sym u.2) in
        formed.fields_apart (field_key u.0) (Contains-map field_key body.static_fields u.0 u.1) (subst (Contains (map field_key body.instance_fields)) same (Contains-map field_key body.instance_fields v.0 v.1));
    methods_apart = λ x c d.
        let p = map_source (λ (y : EncodedMethod). y.method) declared.direct_methods x c in
        let q = map_source (λ (y : EncodedMethod). y.method) declared.virtual_methods x d in
        let u = direct_source p.0 p.1 in
        let v = virtual_source q.0 q.1 in
        let one : method_of name u.0 ≡ x = ap (λ (y : EncodedMethod). y.method) u.4 ∙ p.2 in
        let other : method_of name v.0 ≡ x = ap (λ (y : EncodedMethod). y.method) v.4 ∙ q.2 in
        let same : method_key v.0 ≡ method_key u.0 = ap (λ (y : Method). (y.name, y.proto)) (other ∙ sym one) in
        formed.methods_apart (method_key u.0) (Contains-map method_key body.direct_methods u.0 u.2) (subst (Contains (map method_key body.virtual_methods)) same (Contains-map method_key body.virtual_methods v.0 v.2));
  }

  -- nothing else is declared
  only_members : (d : ClassData) → Declares b r d → declared ≡ d
  only_members d h =
      let few : HasFewRows b = λ t. omega (arith, n.file.laid.count t, count_small D b n.file t) in
      one_row_data b few (class_data_off b r) declared d (members_there D b n fits r e lt) h.is

  -- a property of code items holds for each code item of the class
  at_all_code : (P : List ℕ → ℕ → Type 0) → ((o : ℕ) (k : Code) → CodeAt b o k → P b o) → AllCode P b r
  at_all_code P f d h =
      subst (λ (z : ClassData). All (λ (m : EncodedMethod). m.code_off ≢ 0 → P b m.code_off) (methods_of z)) (only_members d h)
      (all_from (λ (m : EncodedMethod). m.code_off ≢ 0 → P b m.code_off) (methods_of declared) (λ y c some.
      let w = method_source y c in
      let off : w.1 ≡ y.code_off = ap (λ (z : EncodedMethod). z.code_off) w.3 in
      let k = code_at b w.1 w.0.code w.2 (λ none. some (sym off ∙ none)) in
      subst (P b) off (f w.1 k.0 k.1)))

  -- condition 21
  values_hold : HasValues b r
  values_hold d h =
      let same = only_members d h in
      let count : length declared.static_fields ≡ length body.static_fields = length-map body.static_fields (encoded_field name) in
      let few : count_values body.static_values ≤ length declared.static_fields = omega (arith, count, formed.few_values) in
      (body.static_values, values_there D b n fits r e lt, subst (λ (z : ClassData). count_values body.static_values ≤ length z.static_fields) same few)

  -- the directory names declared members
  names_declared : NamesDeclared (own_directory name body) declared
  names_declared = record {
    fields = all_from (λ (x : Field × AnnotationSet). Contains (map (λ (y : EncodedField). y.field) (fields_of declared)) x.0) (own_directory name body).fields (λ x c.
        let w = map_source (λ (f : FieldDef). (field_of name f, f.annotations)) (declared_fields body) x (entries_source field_cmp field_total field_exact (field_sets name body) x c) in
        subst (Contains (map (λ (y : EncodedField). y.field) (fields_of declared))) (ap (λ (z : Field × AnnotationSet). z.0) w.2) (field_has w.0 w.1));
    methods = all_from (λ (x : Method × AnnotationSet). Contains (map (λ (y : EncodedMethod). y.method) (methods_of declared)) x.0) (own_directory name body).methods (λ x c.
        let w = map_source (λ (y : MethodDef). (method_of name y, y.annotations)) (declared_methods body) x (entries_source method_cmp method_total method_exact (own_method_sets name body) x c) in
        subst (Contains (map (λ (y : EncodedMethod). y.method) (methods_of declared))) (ap (λ (z : Method × AnnotationSet). z.0) w.2) (method_has w.0 w.1));
    parameters = all_from (λ (x : Method × List AnnotationSet). Contains (map (λ (y : EncodedMethod). y.method) (methods_of declared)) x.0) (own_directory name body).parameters (λ x c.
        let w = map_source (λ (y : MethodDef). (method_of name y, y.parameter_annotations)) (declared_methods body) x (entries_source method_cmp method_total method_exact (parameter_sets name body) x c) in
        subst (Contains (map (λ (y : EncodedMethod). y.method) (methods_of declared))) (ap (λ (z : Method × List AnnotationSet). z.0) w.2) (method_has w.0 w.1));
  }

  -- all items of the row can be read
  pub row_readable : IsReadable b r
  row_readable = record {
    members = (declared, record { name = name; class = own_class D b n r e lt; is = members_there D b n fits r e lt; own = own });
    code = at_all_code HasPiecesAt (pieces_hold b);
    tries = at_all_code HasTriesAt (tries_hold b);
    debug = at_all_code HasDebugAt (debug_holds b);
    values = values_hold;
    annotations = λ d h. (own_directory name body, directory_there D b n r e lt, subst (NamesDeclared (own_directory name body)) (only_members d h) names_declared);
  }

-- ---- canonical files

module _ (K : Collection) (good : IsGood greatest_caps (definitions K)) (formed : AreWellFormed (definitions K)) where
  -- the items of the canonical file are valid
  pub items_right : ItemsAreRight (definitions K) (canonical K)
  items_right =
      let D = definitions K in
      let b = canonical K in
      let n = canonical_all_normal K good formed in
      record {
        belong = λ r e lt. belongs D b n good.fits r e lt;
        readable = λ r lt. row_readable D b n good.fits r some_class (omega (arith, lt, n.file.laid.count ClassDefs));
      }

  -- the canonical file is accepted, and denotes the collection
  pub whole_normal_form : IsFileOf K (canonical K)
  whole_normal_form = normal_form K good formed items_right
