-- The sets, ref lists and directory of a class in the file of definitions: they are at the offsets of its row, and hold
-- the annotations of the class and its members.
use Rattle.dexspec.proofs.Common.{◌≡◌, ℕ, suc, ◌+◌, ◌-◌, ◌%◌, ◌<◌, ◌^◌, List, [], ◌∷◌, ◌++◌, length, get_or, map, drop, slice_index, refl, sym, ap, ◌∙◌, subst, arith, inl, inr, Some, None, ◌==◌, IsTrue, Contains, AllZip, cases_lt, cond-true, cond-false, eq-eqb, ne_eqb, length-map, length-drop, get_or-map, get_or-drop, get_or_default, map-append, get_or_append_left, get_or-append-add, length-append, All-contains, Contains-get_or, Mentions, nat_cmp, ◌≤◌, Option}
use Rattle.std.proofs.lemmas.Simd.{map-map}
use Rattle.dexspec.specs.{rises, OrNone, AreDistinct, Text, Field, Method, FieldSymbol, MethodSymbol, field_cmp, method_cmp, FieldRow, MethodRow, AnnotationSet, AnnotationAt, SetAt, RefListAt, PairAt, DirectoryAt, no_directory, annotated, ShareNone, FieldDef, MethodDef, Body, Definition, declared_fields, declared_methods, annotations_off, mentions, symbols_of, field_of, method_of, annotation_symbols, set_symbols, field_index, method_index, offsets_bytes, IsSet, IsAnnotation, IsFieldDef, IsMethodDef, IsWellFormed, field_key, field_key_cmp, method_key, method_key_cmp, unless_empty, Ordered, by_class, method_sets, SetOffsets, pairs, directory_bytes, uses_offsets, ordered, ref_list_section, in_class_order, BytesAt, data_off}
use Rattle.dexspec.specs.internal.OwnDirectories.{BytesIfSome, HasSetsAt, entries_of, field_sets, own_method_sets, parameter_sets, own_directory}
use Rattle.dexspec.proofs.lists.{Contains-flat_map, map_source, Rises-from_rises, AreDistinct-from_Rises}
use Rattle.dexspec.proofs.merge.{Contains-map, field_total, field_exact, method_total, method_exact, mentions-rising}
use Rattle.dexspec.proofs.layout.Uses.{UseIsAt, SetIsAt, class_set_offsets, own_set_encoded, field_set_encoded, method_set_encoded, ref_list_encoded, length-field_set_offsets, length-method_set_offsets, length-one_method_set_offsets, length-class_part, length-ref_list_offsets}
use Rattle.dexspec.proofs.layout.RowsRead.{class_read}
use Rattle.dexspec.proofs.written.{AreInRows, annotation_written, set_written, ref_list_written, ArePairs, directory_of, directory_written, pairs_are, no_entries, own_entry, field_occurs, method_occurs}
use Rattle.dexspec.proofs.normal.MemberRanks.{rank_cmp, rises_equally, field_cmp_key, method_cmp_key, symbols_in_rows, field_mentioned, method_mentioned, own_set_occurs, field_set_occurs, method_set_occurs, parameter_set_occurs}
use Rattle.dexspec.proofs.normal.NormalClasses.{AreNormal, class_member}

-- ---- lists, place by place

-- lists that are related at each place
pub zip_from_places : {X : Type 0} (P : ℕ → X → Type 0) (offs : List ℕ) (xs : List X) → length offs ≡ length xs → ((j : ℕ) (d : X) → j < length xs → P (slice_index offs j) (get_or xs j d)) → AllZip P offs xs
zip_from_places P [] [] e h = tt
zip_from_places P (o ∷ offs) (x ∷ xs) e h = (h 0 x (omega arith), zip_from_places P offs xs (omega (arith, e)) (λ j d lt. h (suc j) d (omega (arith, lt))))
zip_from_places _ _ _ e h = absurd (omega (arith, e))

-- lists that are related to mapped lists
pub zip_mapped : {X Y : Type 0} (P : ℕ → Y → Type 0) (f : X → Y) (offs : List ℕ) (xs : List X) → AllZip (λ o x. P o (f x)) offs xs → AllZip P offs (map f xs)
zip_mapped P f [] [] h = tt
zip_mapped P f (o ∷ offs) (x ∷ xs) h = (h.0, zip_mapped P f offs xs h.1)
zip_mapped _ f _ _ h = absurd h

-- lists without repeats that share no member have no repeats together
AreDistinct-append : {X : Type 0} (xs ys : List X) → AreDistinct xs → AreDistinct ys → ShareNone xs ys → AreDistinct (xs ++ ys)
AreDistinct-append xs ys d e share i j z lt le same =
    elim (cases_lt j (length xs)) [
      | inl both ↦ d i j z lt both (sym (get_or_append_left xs ys z i (omega (arith, lt, both))) ∙ same ∙ get_or_append_left xs ys z j both)
      | inr following ↦
          let k = j - length xs in
          let second : get_or (xs ++ ys) j z ≡ get_or ys k z = ap (λ n. get_or (xs ++ ys) n z) (let back : j ≡ length xs + k = omega (arith, following) in back) ∙ get_or-append-add xs ys k z in
          let within : k < length ys = omega (arith, following, le, length-append xs ys) in
          elim (cases_lt i (length xs)) [
            | inl first ↦
                let one : get_or (xs ++ ys) i z ≡ get_or xs i z = get_or_append_left xs ys z i first in
                share (get_or xs i z) (Contains-get_or xs i z first) (subst (Contains ys) (sym (sym one ∙ same ∙ second)) (Contains-get_or ys k z within))
            | inr later ↦
                let l = i - length xs in
                let one : get_or (xs ++ ys) i z ≡ get_or ys l z = ap (λ n. get_or (xs ++ ys) n z) (let back : i ≡ length xs + l = omega (arith, later) in back) ∙ get_or-append-add xs ys l z in
                e l k z (omega (arith, lt, later, following)) within (sym one ∙ same ∙ second)
          ]
    ]

-- ---- different members

-- the fields of a class are different
pub fields_distinct : (name : Text) (c : Body) → IsWellFormed (name, c) → AreDistinct (map (field_of name) (declared_fields c))
fields_distinct name c is =
    let f = field_of name in
    let part : (fs : List FieldDef) → IsTrue (rises field_key_cmp (map field_key fs)) → AreDistinct (map f fs) = λ fs rise.
    AreDistinct-from_Rises field_cmp field_total (map f fs) (Rises-from_rises field_cmp field_total (map f fs) (rises_equally field_cmp field_key_cmp f field_key fs (λ x y k l. field_cmp_key name x y) ∙ rise)) in
    let share : ShareNone (map f c.static_fields) (map f c.instance_fields) = λ x k l.
    let u = map_source f c.static_fields x k in
    let v = map_source f c.instance_fields x l in
    let same : field_key v.0 ≡ field_key u.0 = ap (λ (y : Field). (y.name, y.type)) (v.2 ∙ sym u.2) in
    is.fields_apart (field_key u.0) (Contains-map field_key c.static_fields u.0 u.1) (subst (Contains (map field_key c.instance_fields)) same (Contains-map field_key c.instance_fields v.0 v.1)) in
    subst AreDistinct (sym (map-append f c.static_fields c.instance_fields)) (AreDistinct-append (map f c.static_fields) (map f c.instance_fields) (part c.static_fields is.static_fields) (part c.instance_fields is.instance_fields) share)

-- the methods of a class are different
pub methods_distinct : (name : Text) (c : Body) → IsWellFormed (name, c) → AreDistinct (map (method_of name) (declared_methods c))
methods_distinct name c is =
    let f = method_of name in
    let part : (xs : List MethodDef) → IsTrue (rises method_key_cmp (map method_key xs)) → AreDistinct (map f xs) = λ xs rise.
    AreDistinct-from_Rises method_cmp method_total (map f xs) (Rises-from_rises method_cmp method_total (map f xs) (rises_equally method_cmp method_key_cmp f method_key xs (λ x y k l. method_cmp_key name x y) ∙ rise)) in
    let share : ShareNone (map f c.direct_methods) (map f c.virtual_methods) = λ x k l.
    let u = map_source f c.direct_methods x k in
    let v = map_source f c.virtual_methods x l in
    let same : method_key v.0 ≡ method_key u.0 = ap (λ (y : Method). (y.name, y.proto)) (v.2 ∙ sym u.2) in
    is.methods_apart (method_key u.0) (Contains-map method_key c.direct_methods u.0 u.1) (subst (Contains (map method_key c.virtual_methods)) same (Contains-map method_key c.virtual_methods v.0 v.1)) in
    subst AreDistinct (sym (map-append f c.direct_methods c.virtual_methods)) (AreDistinct-append (map f c.direct_methods) (map f c.virtual_methods) (part c.direct_methods is.direct_methods) (part c.virtual_methods is.virtual_methods) share)

-- ---- written items

-- an item that is present, or nothing
pub or_none : {X : Type 0} (At : List ℕ → ℕ → List X → Type 0) (b : List ℕ) (o : ℕ) (xs : List X) → BytesIfSome (At b) o xs → OrNone At [] b o xs
or_none At b o [] h = inl (h, refl)
or_none At b o (x ∷ xs) h = inr h

-- nothing at offset 0
none_at : {X : Type 0} (At : ℕ → List X → Type 0) (o : ℕ) (xs : List X) → BytesIfSome At o xs → o ≡ 0 → xs ≡ []
none_at At o [] h e = refl
none_at At o (x ∷ xs) h e = absurd (h.0 e)

module _ (b : List ℕ) (m : Mentions) (short : length b < 2 ^ 32) where
  -- a set is at its offset, or is empty
  pub set_encoded : (o : ℕ) (set : AnnotationSet) → IsSet set → AreInRows b m (set_symbols set) → SetIsAt b m set o → BytesIfSome (SetAt b) o set
  set_encoded o [] is rows h = h
  set_encoded o (a ∷ x) is rows h =
      let set = a ∷ x in
      let are : AllZip (AnnotationAt b) h.offs set =
      zip_from_places (AnnotationAt b) h.offs set h.count (λ j d lt.
      let item = h.each j d lt in
      let k = get_or set j d in
      let in_set = Contains-get_or set j d lt in
      annotation_written b m (slice_index h.offs j) k (All-contains IsAnnotation set k is.annotations in_set) (λ s c. rows s (Contains-flat_map annotation_symbols set k s in_set c)) item.in_data.following item.encodes) in
      (h.set.some, set_written b short o h.offs set h.set.in_data.following h.set.multiple are is.rise h.set.encodes)

  -- a ref list is at its offset, or is empty
  pub ref_list_use : (o : ℕ) (offs : List ℕ) (list : List AnnotationSet) → AllZip (OrNone SetAt [] b) offs list → UseIsAt b 4 offsets_bytes (unless_empty offs) o → BytesIfSome (RefListAt b) o list
  ref_list_use o [] [] are h = h
  ref_list_use o (p ∷ offs) (s ∷ list) are h = (h.some, ref_list_written b short o (p ∷ offs) (s ∷ list) h.in_data.following h.multiple are h.encodes)
  ref_list_use o _ _ are h = absurd are

-- ---- the directory of a definition

module _ (D : List Definition) (b : List ℕ) (short : length b < 2 ^ 32) (name : Text) (c : Body) (in_file : Contains D (name, c)) (formed : IsWellFormed (name, c)) (rows : AreInRows b (mentions D) (symbols_of (name, c))) where
  -- the fields by their indices
  abbrev field_indices : List ℕ
  field_indices = map (λ f. field_index (mentions D) (field_of name f)) (declared_fields c)

  -- the methods by their indices
  abbrev method_indices : List ℕ
  method_indices = map (λ x. method_index (mentions D) (method_of name x)) (declared_methods c)

  -- pairs of fields with their sets
  field_pairs : (offs : List ℕ) → AllZip (λ o (x : Field × AnnotationSet). BytesIfSome (SetAt b) o x.1) offs (field_sets name c) → ArePairs FieldRow SetAt b (pairs field_indices offs) (entries_of field_cmp (field_sets name c))
  field_pairs offs are =
      let fs = declared_fields c in
      let own = field_of name in
      let g : FieldDef → Field × AnnotationSet = λ f. (own f, f.annotations) in
      let index : Field → ℕ = field_index (mentions D) in
      let Known = Contains (map own fs) in
      let compare : (x y : Field) → Known x → Known y → nat_cmp (index x) (index y) ≡ field_cmp x y = λ x y k l.
      let u = map_source own fs x k in
      let v = map_source own fs y l in
      rank_cmp field_cmp field_total (mentions D).fields (mentions-rising D).fields x y (subst (Contains (mentions D).fields) u.2 (field_mentioned D name c in_file u.0 u.1)) (subst (Contains (mentions D).fields) v.2 (field_mentioned D name c in_file v.0 v.1)) in
      let row : (x : Field) → Known x → FieldRow b (index x) x × (index x < 2 ^ 32) = λ x k.
      let u = map_source own fs x k in
      let w = rows (FieldSymbol (own u.0)) (field_occurs name c u.0 u.1) in
      subst (λ (y : Field). FieldRow b (index y) y × (index y < 2 ^ 32)) u.2 (w.0, omega (arith, w.1)) in
      subst (λ (is : List ℕ). ArePairs FieldRow SetAt b (pairs is offs) (entries_of field_cmp (field_sets name c))) (map-map (λ (x : Field × AnnotationSet). index x.0) g fs)
      (pairs_are field_cmp field_total field_exact FieldRow SetAt b index Known compare row (field_sets name c) offs (subst AreDistinct (sym (map-map (λ (x : Field × AnnotationSet). x.0) g fs)) (fields_distinct name c formed))
      (λ x k. subst (λ (l : List Field). Contains l x.0) (map-map (λ (y : Field × AnnotationSet). y.0) g fs) (Contains-map (λ (y : Field × AnnotationSet). y.0) (field_sets name c) x k)) are)

  -- pairs of methods with their items
  method_pairs : {X : Type 0} (At : List ℕ → ℕ → List X → Type 0) (has : MethodDef → List X) (offs : List ℕ) → AllZip (λ o (x : Method × List X). BytesIfSome (At b) o x.1) offs (map (λ x. (method_of name x, has x)) (declared_methods c))
      → ArePairs MethodRow At b (pairs method_indices offs) (entries_of method_cmp (map (λ x. (method_of name x, has x)) (declared_methods c)))
  method_pairs {X} At has offs are =
      let xs = declared_methods c in
      let own = method_of name in
      let g : MethodDef → Method × List X = λ x. (own x, has x) in
      let index : Method → ℕ = method_index (mentions D) in
      let Known = Contains (map own xs) in
      let compare : (x y : Method) → Known x → Known y → nat_cmp (index x) (index y) ≡ method_cmp x y = λ x y k l.
      let u = map_source own xs x k in
      let v = map_source own xs y l in
      rank_cmp method_cmp method_total (mentions D).methods (mentions-rising D).methods x y (subst (Contains (mentions D).methods) u.2 (method_mentioned D name c in_file u.0 u.1)) (subst (Contains (mentions D).methods) v.2 (method_mentioned D name c in_file v.0 v.1)) in
      let row : (x : Method) → Known x → MethodRow b (index x) x × (index x < 2 ^ 32) = λ x k.
      let u = map_source own xs x k in
      let w = rows (MethodSymbol (own u.0)) (method_occurs name c u.0 u.1) in
      subst (λ (y : Method). MethodRow b (index y) y × (index y < 2 ^ 32)) u.2 (w.0, omega (arith, w.1)) in
      subst (λ (is : List ℕ). ArePairs MethodRow At b (pairs is offs) (entries_of method_cmp (map g xs))) (map-map (λ (x : Method × List X). index x.0) g xs)
      (pairs_are method_cmp method_total method_exact MethodRow At b index Known compare row (map g xs) offs (subst AreDistinct (sym (map-map (λ (x : Method × List X). x.0) g xs)) (methods_distinct name c formed))
      (λ x k. subst (λ (l : List Method). Contains l x.0) (map-map (λ (y : Method × List X). y.0) g xs) (Contains-map (λ (y : Method × List X). y.0) (map g xs) x k)) are)

  module _ (sets : SetOffsets) (refs : List ℕ) (are : HasSetsAt b name c sets refs) where
    -- the bytes of a directory are those of the pairs
    pub directory_put : (o : ℕ) (bytes : List ℕ) → directory_bytes (mentions D) (name, c) sets refs ≡ Some bytes → data_off b ≤ o → o % 4 ≡ 0 → BytesAt b o bytes → DirectoryAt b o (own_directory name c)
    directory_put o bytes e following aligned h =
        let fs = pairs field_indices sets.fields in
        let ms = pairs method_indices (map (λ offs. slice_index offs 0) sets.methods) in
        let ps = pairs method_indices refs in
        let n = sets.own + (length fs + (length ms + length ps)) in
        let all = directory_of sets.own fs ms ps in
        elim (cases_lt 0 n) [
          | inl some ↦
              let is : Some bytes ≡ Some all = sym e ∙ cond-false (n == 0) None (Some all) (ne_eqb n 0 (λ z. omega (arith, z, some))) in
              let same : bytes ≡ all = cc in
              directory_written b o sets.own fs ms ps (own_directory name c) short following aligned (or_none SetAt b sets.own c.annotations are.own) (field_pairs sets.fields are.fields)
              (method_pairs SetAt (λ x. x.annotations) (map (λ offs. slice_index offs 0) sets.methods) are.methods) (method_pairs RefListAt (λ x. x.parameter_annotations) refs are.parameters) (subst (BytesAt b o) same h)
          | inr none ↦ absurd (let z : Some bytes ≡ None = sym e ∙ cond-true (n == 0) None (Some all) (eq-eqb n 0 (omega (arith, none))) in cc)
        ]

    -- without bytes the directory is empty
    pub directory_none : directory_bytes (mentions D) (name, c) sets refs ≡ None → own_directory name c ≡ no_directory
    directory_none e =
        let fs = pairs field_indices sets.fields in
        let ms = pairs method_indices (map (λ offs. slice_index offs 0) sets.methods) in
        let ps = pairs method_indices refs in
        let n = sets.own + (length fs + (length ms + length ps)) in
        let all = directory_of sets.own fs ms ps in
        elim (cases_lt 0 n) [
          | inl some ↦ absurd (let z : None ≡ Some all = sym e ∙ cond-false (n == 0) None (Some all) (ne_eqb n 0 (λ z. omega (arith, z, some))) in cc)
          | inr none ↦
              let d = own_directory name c in
              let e0 = none_at (SetAt b) sets.own d.own are.own (omega (arith, none)) in
              let e1 = no_entries (PairAt FieldRow SetAt b) fs d.fields (field_pairs sets.fields are.fields).0 (omega (arith, none)) in
              let e2 = no_entries (PairAt MethodRow SetAt b) ms d.methods (method_pairs SetAt (λ x. x.annotations) (map (λ offs. slice_index offs 0) sets.methods) are.methods).0 (omega (arith, none)) in
              let e3 = no_entries (PairAt MethodRow RefListAt b) ps d.parameters (method_pairs RefListAt (λ x. x.parameter_annotations) refs are.parameters).0 (omega (arith, none)) in
              λ i. record { own = e0 i; fields = e1 i; methods = e2 i; parameters = e3 i }
        ]

    -- a directory is at its offset, or there is none
    pub directory_use : (o : ℕ) → UseIsAt b 4 (λ (x : List ℕ). x) (directory_bytes (mentions D) (name, c) sets refs) o → OrNone DirectoryAt no_directory b o (own_directory name c)
    directory_use o h = by (directory_bytes (mentions D) (name, c) sets refs) refl h
      where
        by : (u : Option (List ℕ)) → directory_bytes (mentions D) (name, c) sets refs ≡ u → UseIsAt b 4 (λ (x : List ℕ). x) u o → OrNone DirectoryAt no_directory b o (own_directory name c)
        by None e k = inl (k, directory_none e)
        by (Some bytes) e k = inr (k.some, directory_put o bytes e k.in_data.following k.multiple k.encodes)

module _ (name : Text) (c : Body) (formed : IsWellFormed (name, c)) where
  -- the set of the directory for a field
  pub own_field : (f : FieldDef) → Contains (declared_fields c) f → annotated field_cmp (own_directory name c).fields (field_of name f) ≡ f.annotations
  own_field f k =
      let g : FieldDef → Field × AnnotationSet = λ f. (field_of name f, f.annotations) in
      let fs = declared_fields c in
      own_entry field_cmp field_total field_exact (field_sets name c) (field_of name f) f.annotations (subst AreDistinct (sym (map-map (λ (x : Field × AnnotationSet). x.0) g fs)) (fields_distinct name c formed)) (Contains-map g fs f k)

  -- the list of the directory for a method
  own_method : {X : Type 0} (has : MethodDef → List X) (x : MethodDef) → Contains (declared_methods c) x → annotated method_cmp (entries_of method_cmp (map (λ x. (method_of name x, has x)) (declared_methods c))) (method_of name x) ≡ has x
  own_method {X} has x k =
      let g : MethodDef → Method × List X = λ x. (method_of name x, has x) in
      let xs = declared_methods c in
      own_entry method_cmp method_total method_exact (map g xs) (method_of name x) (has x) (subst AreDistinct (sym (map-map (λ (x : Method × List X). x.0) g xs)) (methods_distinct name c formed)) (Contains-map g xs x k)

  pub own_method_set : (x : MethodDef) → Contains (declared_methods c) x → annotated method_cmp (own_directory name c).methods (method_of name x) ≡ x.annotations
  own_method_set x k = own_method (λ x. x.annotations) x k

  pub own_parameter_sets : (x : MethodDef) → Contains (declared_methods c) x → annotated method_cmp (own_directory name c).parameters (method_of name x) ≡ x.parameter_annotations
  own_parameter_sets x k = own_method (λ x. x.parameter_annotations) x k

-- ---- the directory of a class row

module _ (D : List Definition) (b : List ℕ) (n : AreNormal D b) (r : ℕ) (e : Definition) (lt : r < length (in_class_order D)) where
  abbrev K : Ordered
  K = ordered D

  -- the class
  abbrev name : Text
  name = (get_or (in_class_order D) r e).0

  abbrev body : Body
  body = (get_or (in_class_order D) r e).1

  -- the offsets of its sets and ref lists
  abbrev sets : SetOffsets
  sets = class_set_offsets K r

  abbrev refs : List ℕ
  refs = get_or (by_class K (uses_offsets (ref_list_section K))) r []

  -- it is in the file, and well formed
  in_file : Contains D (name, body)
  in_file = class_member D b n r e lt

  formed : IsWellFormed (name, body)
  formed = n.formed (name, body) in_file

  rows : AreInRows b (mentions D) (symbols_of (name, body))
  rows = symbols_in_rows D b n.file (name, body) in_file

  -- its own set
  own_set : BytesIfSome (SetAt b) sets.own body.annotations
  own_set = set_encoded b (mentions D) n.file.laid.small sets.own body.annotations formed.annotations (λ s k. rows s (own_set_occurs name body s k)) (own_set_encoded n.file.laid r e lt)

  -- the sets of its fields
  fields_are : AllZip (λ o (x : Field × AnnotationSet). BytesIfSome (SetAt b) o x.1) sets.fields (field_sets name body)
  fields_are =
      let fs = declared_fields body in
      zip_mapped (λ o (x : Field × AnnotationSet). BytesIfSome (SetAt b) o x.1) (λ (f : FieldDef). (field_of name f, f.annotations)) sets.fields fs
      (zip_from_places (λ o (f : FieldDef). BytesIfSome (SetAt b) o f.annotations) sets.fields fs (length-field_set_offsets K r e lt) (λ j d less.
      let f = get_or fs j d in
      let k = Contains-get_or fs j d less in
      set_encoded b (mentions D) n.file.laid.small (slice_index sets.fields j) f.annotations (All-contains IsFieldDef fs f formed.fields k).annotations (λ s l. rows s (field_set_occurs name body f s k l)) (field_set_encoded n.file.laid r e j d lt less)))

  -- the sets of its methods
  methods_are : AllZip (λ o (x : Method × AnnotationSet). BytesIfSome (SetAt b) o x.1) (map (λ offs. slice_index offs 0) sets.methods) (own_method_sets name body)
  methods_are =
      let xs = declared_methods body in
      let first : List ℕ → ℕ = λ offs. slice_index offs 0 in
      let offs = map first sets.methods in
      let len : length sets.methods ≡ length xs = length-method_set_offsets K r e lt in
      zip_mapped (λ o (x : Method × AnnotationSet). BytesIfSome (SetAt b) o x.1) (λ (x : MethodDef). (method_of name x, x.annotations)) offs xs
      (zip_from_places (λ o (x : MethodDef). BytesIfSome (SetAt b) o x.annotations) offs xs (length-map sets.methods first ∙ len) (λ j d less.
      let x = get_or xs j d in
      let k = Contains-get_or xs j d less in
      let off : slice_index offs j ≡ slice_index (get_or sets.methods j []) 0 = get_or-map first sets.methods j [] 0 (omega (arith, len, less)) in
      subst (λ o. BytesIfSome (SetAt b) o x.annotations) (sym off)
      (set_encoded b (mentions D) n.file.laid.small (slice_index (get_or sets.methods j []) 0) x.annotations (All-contains IsMethodDef xs x formed.methods k).annotations (λ s l. rows s (method_set_occurs name body x s k l)) (method_set_encoded n.file.laid r e j d 0 lt less (omega arith)))))

  -- the ref lists of its methods
  parameters_are : AllZip (λ o (x : Method × List AnnotationSet). BytesIfSome (RefListAt b) o x.1) refs (parameter_sets name body)
  parameters_are =
      let xs = declared_methods body in
      zip_mapped (λ o (x : Method × List AnnotationSet). BytesIfSome (RefListAt b) o x.1) (λ (x : MethodDef). (method_of name x, x.parameter_annotations)) refs xs
      (zip_from_places (λ o (x : MethodDef). BytesIfSome (RefListAt b) o x.parameter_annotations) refs xs (length-class_part K (uses_offsets (ref_list_section K)) r e lt (length-ref_list_offsets K)) (λ j d less.
      let x = get_or xs j d in
      let k = Contains-get_or xs j d less in
      let offs = get_or sets.methods j [] in
      let list = x.parameter_annotations in
      let is = All-contains IsMethodDef xs x formed.methods k in
      let len : length (drop 1 offs) ≡ length list = omega (arith, length-drop 1 offs, length-one_method_set_offsets K r e j d lt less) in
      let are : AllZip (OrNone SetAt [] b) (drop 1 offs) list =
      zip_from_places (OrNone SetAt [] b) (drop 1 offs) list len (λ i z within.
      let set = get_or list i z in
      let l = Contains-get_or list i z within in
      let off : slice_index (drop 1 offs) i ≡ slice_index offs (suc i) = get_or-drop 1 offs i 0 ∙ ap (slice_index offs) (let s : 1 + i ≡ suc i = omega arith in s) in
      let same : get_or (method_sets x) (suc i) [] ≡ set = get_or_default list i [] z within in
      let there = subst (λ (y : AnnotationSet). SetIsAt b (mentions D) y (slice_index offs (suc i))) same (method_set_encoded n.file.laid r e j d (suc i) lt less (omega (arith, within))) in
      subst (λ o. OrNone SetAt [] b o set) (sym off)
      (or_none SetAt b (slice_index offs (suc i)) set
      (set_encoded b (mentions D) n.file.laid.small (slice_index offs (suc i)) set (All-contains IsSet list set is.parameters l) (λ s y. rows s (parameter_set_occurs name body x set s k l y)) there))) in
      ref_list_use b (mentions D) n.file.laid.small (slice_index refs j) (drop 1 offs) list are (ref_list_encoded n.file.laid r e j lt less)))

  -- the directory is at the offset of the row
  pub directory_there : OrNone DirectoryAt no_directory b (annotations_off b r) (own_directory name body)
  directory_there =
      directory_use D b n.file.laid.small name body in_file formed rows sets refs (record { own = own_set; fields = fields_are; methods = methods_are; parameters = parameters_are }) (annotations_off b r)
      (class_read n.file.laid r e lt).directory_is
