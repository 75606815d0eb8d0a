-- A class row denotes at most one definition: its annotations, class data and members are determined.
use Rattle.dexspec.proofs.Common.{◌≡◌, ℕ, ◌+◌, ◌*◌, List, [], ◌∷◌, length, map, get_or, Option, Some, None, refl, ap, sym, subst, ◌∙◌, arith, ◌≤◌, ◌<◌, All, take, drop, length-take, ◌^◌, pow-le-pow_right, All-take, All-drop, AllZip, Values, ClassData}
use Rattle.dexspec.specs.{OrNone, SomeAt, uint_at, uints_at, Uleb128At, Text, StringRow, FieldRow, MethodRow, CodeAt, NoValues, Annotation, AnnotationSet, AnnotationAt, SetAt, RefListAt, Directory, no_directory, pairs_at, PairAt, PairsAt, fields_count, methods_count, parameters_count, DirectoryAt, EncodedField, EncodedMethod, no_class_data, IsNextIndex, EncodedFieldsAt, EncodedMethodsAt, ClassDataAt, MethodDef, Body, class_idx, superclass_idx, interfaces_off, source_file_idx, annotations_off, class_data_off, static_values_off, no_index, IndexOrNone, ClassTypeRow, ClassListAt, StaticValuesAt, field_def, MakesMethod, ClassRow, Table, StringIds, TypeIds, table_size, size_place}
use Rattle.dexspec.proofs.numbers.ByteNumbers.{number_bound}
use Rattle.dexspec.proofs.written.PlacedBytes.{same_first}
use Rattle.dexspec.proofs.lists.Sequences.{one_sequence}
use Rattle.dexspec.proofs.determined.OneNumber.{one_uleb128}
use Rattle.dexspec.proofs.determined.OneRow.{one_string, one_type, one_type_list, one_field, one_method, one_all_zip, one_or_none}
use Rattle.dexspec.proofs.determined.OneValue.{one_array, one_annotation}
use Rattle.dexspec.proofs.determined.OneCode.{one_code_item, one_some}

-- ---- annotations

-- one annotation
pub one_annotation_item : (b : List ℕ) (o : ℕ) (x y : Annotation) → AnnotationAt b o x → AnnotationAt b o y → x ≡ y
one_annotation_item b o x y h g =
    let visibility = same_first x.visibility y.visibility [] [] h.visibility g.visibility in
    let rest = one_annotation b (o + 1) x.type y.type x.elements y.elements h.annotation.0 g.annotation.0 h.annotation.1 g.annotation.1 in
    λ i. record { visibility = visibility i; type = rest.0 i; elements = rest.1 i }

-- one set
pub one_set : (b : List ℕ) (o : ℕ) (x y : AnnotationSet) → SetAt b o x → SetAt b o y → x ≡ y
one_set b o x y h g = one_all_zip (AnnotationAt b) (one_annotation_item b) (uints_at b (o + 4) (uint_at b o)) x y h.annotations g.annotations

-- one list of sets
pub one_ref_list : (b : List ℕ) (o : ℕ) (x y : List AnnotationSet) → RefListAt b o x → RefListAt b o y → x ≡ y
one_ref_list b o x y h g =
    one_all_zip (OrNone SetAt [] b) (λ p s t. one_or_none SetAt [] b p s t (one_set b p s t)) (uints_at b (o + 4) (uint_at b o)) x y h.sets g.sets

-- one list of members with their items
one_pairs : {M X : Type 0} (Row : List ℕ → ℕ → M → Type 0) (At : List ℕ → ℕ → X → Type 0) → ((b : List ℕ) (i : ℕ) (x y : M) → Row b i x → Row b i y → x ≡ y) → ((b : List ℕ) (o : ℕ) (x y : X) → At b o x → At b o y → x ≡ y)
    → (b : List ℕ) (o n : ℕ) (xs ys : List (M × X)) → PairsAt Row At b o n xs → PairsAt Row At b o n ys → xs ≡ ys
one_pairs {M} {X} Row At one_row one_item b o n xs ys h g =
    one_all_zip (PairAt Row At b) (λ p x y s t. let first = one_row b p.0 x.0 y.0 s.0 t.0 in let second = one_item b p.1 x.1 y.1 s.2 t.2 in λ i. (first i, second i)) (pairs_at b o n) xs ys h.pairs g.pairs

-- one directory
pub one_directory : (b : List ℕ) (o : ℕ) (x y : Directory) → DirectoryAt b o x → DirectoryAt b o y → x ≡ y
one_directory b o x y h g =
    let own = one_or_none SetAt [] b (uint_at b o) x.own y.own (one_set b (uint_at b o) x.own y.own) h.own g.own in
    let fields = one_pairs FieldRow SetAt one_field one_set b (o + 16) (fields_count b o) x.fields y.fields h.fields g.fields in
    let methods = one_pairs MethodRow SetAt one_method one_set b (o + 16 + 8 * fields_count b o) (methods_count b o) x.methods y.methods h.methods g.methods in
    let parameters = one_pairs MethodRow RefListAt one_method one_ref_list b (o + 16 + 8 * (fields_count b o + methods_count b o)) (parameters_count b o) x.parameters y.parameters h.parameters g.parameters in
    λ i. record { own = own i; fields = fields i; methods = methods i; parameters = parameters i }

-- ---- class data

-- one index follows
one_next : (last : Option ℕ) (d e i j : ℕ) → d ≡ e → IsNextIndex last d i → IsNextIndex last e j → i ≡ j
one_next None d e i j same h g = h ∙ same ∙ sym g
one_next (Some last) d e i j same h g = omega (arith, same, h.1, g.1)

-- one list of fields
pub one_encoded_fields : (b : List ℕ) (o : ℕ) (last : Option ℕ) (xs ys : List EncodedField) (n k : ℕ) → length xs ≡ length ys → EncodedFieldsAt b o last xs n → EncodedFieldsAt b o last ys k → (xs ≡ ys) × (n ≡ k)
one_encoded_fields b o last [] [] n k len h g = (refl, h ∙ sym g)
one_encoded_fields b o last [] (y ∷ ys) n k len h g = absurd (omega arith)
one_encoded_fields b o last (x ∷ xs) [] n k len h g = absurd (omega arith)
one_encoded_fields b o last (x ∷ xs) (y ∷ ys) n k len h g =
    let difference = one_uleb128 b o h.3 g.3 h.0 g.0 h.5 g.5 in
    let flags = one_uleb128 b (o + g.0) x.flags y.flags h.1 g.1 (subst (λ (i : ℕ). Uleb128At b (o + i) x.flags h.1) difference.1 h.6) g.6 in
    let index = one_next last h.3 g.3 h.4 g.4 difference.0 h.7 g.7 in
    let field = one_field b g.4 x.field y.field (subst (λ (i : ℕ). FieldRow b i x.field) index h.8) g.8 in
    let place : o + h.0 + h.1 ≡ o + g.0 + g.1 = omega (arith, difference.1, flags.1) in
    let moved = subst (λ (p : ℕ). EncodedFieldsAt b p (Some h.4) xs h.2) place h.9 in
    let rest = one_encoded_fields b (o + g.0 + g.1) (Some g.4) xs ys h.2 g.2 (omega arith) (subst (λ (i : ℕ). EncodedFieldsAt b (o + g.0 + g.1) (Some i) xs h.2) index moved) g.9 in
    ((λ i. record { field = field i; flags = flags.0 i } ∷ rest.0 i), omega (arith, difference.1, flags.1, rest.1, h.10, g.10))

-- one list of methods
pub one_encoded_methods : (b : List ℕ) (o : ℕ) (last : Option ℕ) (xs ys : List EncodedMethod) (n k : ℕ) → length xs ≡ length ys → EncodedMethodsAt b o last xs n → EncodedMethodsAt b o last ys k → (xs ≡ ys) × (n ≡ k)
one_encoded_methods b o last [] [] n k len h g = (refl, h ∙ sym g)
one_encoded_methods b o last [] (y ∷ ys) n k len h g = absurd (omega arith)
one_encoded_methods b o last (x ∷ xs) [] n k len h g = absurd (omega arith)
one_encoded_methods b o last (x ∷ xs) (y ∷ ys) n k len h g =
    let difference = one_uleb128 b o h.4 g.4 h.0 g.0 h.6 g.6 in
    let flags = one_uleb128 b (o + g.0) x.flags y.flags h.1 g.1 (subst (λ (i : ℕ). Uleb128At b (o + i) x.flags h.1) difference.1 h.7) g.7 in
    let place : o + h.0 + h.1 ≡ o + g.0 + g.1 = omega (arith, difference.1, flags.1) in
    let code = one_uleb128 b (o + g.0 + g.1) x.code_off y.code_off h.2 g.2 (subst (λ (p : ℕ). Uleb128At b p x.code_off h.2) place h.8) g.8 in
    let index = one_next last h.4 g.4 h.5 g.5 difference.0 h.9 g.9 in
    let method = one_method b g.5 x.method y.method (subst (λ (i : ℕ). MethodRow b i x.method) index h.10) g.10 in
    let following : o + h.0 + h.1 + h.2 ≡ o + g.0 + g.1 + g.2 = omega (arith, place, code.1) in
    let moved = subst (λ (p : ℕ). EncodedMethodsAt b p (Some h.5) xs h.3) following h.11 in
    let rest = one_encoded_methods b (o + g.0 + g.1 + g.2) (Some g.5) xs ys h.3 g.3 (omega arith) (subst (λ (i : ℕ). EncodedMethodsAt b (o + g.0 + g.1 + g.2) (Some i) xs h.3) index moved) g.11 in
    ((λ i. record { method = method i; flags = flags.0 i; code_off = code.0 i } ∷ rest.0 i), omega (arith, difference.1, flags.1, code.1, rest.1, h.12, g.12))

-- one class data item
pub one_class_data : (b : List ℕ) (o : ℕ) (x y : ClassData) → ClassDataAt b o x → ClassDataAt b o y → x ≡ y
one_class_data b o x y h g =
    let counts = one_sequence Uleb128At one_uleb128 b o (length x.static_fields ∷ length x.instance_fields ∷ length x.direct_methods ∷ length x.virtual_methods ∷ [])
    (length y.static_fields ∷ length y.instance_fields ∷ length y.direct_methods ∷ length y.virtual_methods ∷ []) h.counts_bytes g.counts_bytes refl h.counts g.counts in
    let many = λ (k : ℕ). ap (λ ns. get_or ns k 0) counts.0 in
    let p0 : o + h.counts_bytes ≡ o + g.counts_bytes = omega (arith, counts.1) in
    let l0 = one_encoded_fields b (o + g.counts_bytes) None x.static_fields y.static_fields h.static_fields_bytes g.static_fields_bytes (many 0)
    (subst (λ (p : ℕ). EncodedFieldsAt b p None x.static_fields h.static_fields_bytes) p0 h.static_fields) g.static_fields in
    let p1 : o + h.counts_bytes + h.static_fields_bytes ≡ o + g.counts_bytes + g.static_fields_bytes = omega (arith, p0, l0.1) in
    let l1 = one_encoded_fields b (o + g.counts_bytes + g.static_fields_bytes) None x.instance_fields y.instance_fields h.instance_fields_bytes g.instance_fields_bytes (many 1)
    (subst (λ (p : ℕ). EncodedFieldsAt b p None x.instance_fields h.instance_fields_bytes) p1 h.instance_fields) g.instance_fields in
    let p2 : o + h.counts_bytes + h.static_fields_bytes + h.instance_fields_bytes ≡ o + g.counts_bytes + g.static_fields_bytes + g.instance_fields_bytes = omega (arith, p1, l1.1) in
    let l2 = one_encoded_methods b (o + g.counts_bytes + g.static_fields_bytes + g.instance_fields_bytes) None x.direct_methods y.direct_methods h.direct_methods_bytes g.direct_methods_bytes (many 2)
    (subst (λ (p : ℕ). EncodedMethodsAt b p None x.direct_methods h.direct_methods_bytes) p2 h.direct_methods) g.direct_methods in
    let p3 : o + h.counts_bytes + h.static_fields_bytes + h.instance_fields_bytes + h.direct_methods_bytes ≡ o + g.counts_bytes + g.static_fields_bytes + g.instance_fields_bytes + g.direct_methods_bytes = omega (arith, p2, l2.1) in
    let l3 = one_encoded_methods b (o + g.counts_bytes + g.static_fields_bytes + g.instance_fields_bytes + g.direct_methods_bytes) None x.virtual_methods y.virtual_methods h.virtual_methods_bytes g.virtual_methods_bytes (many 3)
    (subst (λ (p : ℕ). EncodedMethodsAt b p None x.virtual_methods h.virtual_methods_bytes) p3 h.virtual_methods) g.virtual_methods in
    λ i. record { static_fields = l0.0 i; instance_fields = l1.0 i; direct_methods = l2.0 i; virtual_methods = l3.0 i }

-- ---- class rows

-- each table has fewer rows than NO_INDEX
abbrev pub HasFewRows : List ℕ → Type 0
HasFewRows b = (t : Table) → table_size b t ≤ no_index

-- a list of bytes has that few rows
pub few_rows : (b : List ℕ) → All (λ byte. byte < 256) b → HasFewRows b
unfolding uint_at
few_rows b bytes t =
    let following = drop (size_place t) b in
    let small = number_bound (take 4 following) (All-take (λ (x : ℕ). x < 256) 4 following (All-drop (λ (x : ℕ). x < 256) (size_place t) b bytes)) in
    let size : length (take 4 following) ≤ 4 = omega (arith, length-take 4 following) in
    let most : 256 ^ length (take 4 following) ≤ 256 ^ 4 = pow-le-pow_right (omega arith) size in
    omega (arith, small, most)

module _ (b : List ℕ) (few : HasFewRows b) where
  -- the value of an optional index: no row has the index NO_INDEX
  one_index_or_none : {X : Type 0} (Row : List ℕ → ℕ → X → Type 0) → ((b : List ℕ) (i : ℕ) (x y : X) → Row b i x → Row b i y → x ≡ y) → ((i : ℕ) (x : X) → Row b i x → i < no_index)
      → (i : ℕ) (x y : Option X) → IndexOrNone Row b i x → IndexOrNone Row b i y → x ≡ y
  one_index_or_none Row one below i None None h g = refl
  one_index_or_none Row one below i None (Some y) h g = absurd (omega (arith, h, below i y g))
  one_index_or_none Row one below i (Some x) None h g = absurd (omega (arith, g, below i x h))
  one_index_or_none Row one below i (Some x) (Some y) h g = ap Some (one b i x y h g)

  -- one superclass, or none
  pub one_superclass : (i : ℕ) (x y : Option Text) → IndexOrNone ClassTypeRow b i x → IndexOrNone ClassTypeRow b i y → x ≡ y
  one_superclass = one_index_or_none ClassTypeRow (λ b i s t h g. one_type b i s t h.row g.row) (λ i t h. omega (arith, h.row.row, few TypeIds))

  -- one source text, or none
  pub one_source : (i : ℕ) (x y : Option Text) → IndexOrNone StringRow b i x → IndexOrNone StringRow b i y → x ≡ y
  one_source = one_index_or_none StringRow one_string (λ i t h. omega (arith, h.row, few StringIds))

  -- the directory of a row
  pub one_row_directory : (o : ℕ) (x y : Directory) → OrNone DirectoryAt no_directory b o x → OrNone DirectoryAt no_directory b o y → x ≡ y
  one_row_directory o x y h g = one_or_none DirectoryAt no_directory b o x y (one_directory b o x y) h g

  -- the class data of a row
  pub one_row_data : (o : ℕ) (x y : ClassData) → OrNone ClassDataAt no_class_data b o x → OrNone ClassDataAt no_class_data b o y → x ≡ y
  one_row_data o x y h g = one_or_none ClassDataAt no_class_data b o x y (one_class_data b o x y) h g

  -- one method with its code
  pub one_made : (d : Directory) (x : EncodedMethod) (m n : MethodDef) → MakesMethod b d x m → MakesMethod b d x n → m ≡ n
  one_made d x m n h g =
      let name : m.name ≡ n.name = h.name ∙ sym g.name in
      let proto : m.proto ≡ n.proto = h.proto ∙ sym g.proto in
      let flags : m.flags ≡ n.flags = h.flags ∙ sym g.flags in
      let code = one_or_none (SomeAt CodeAt) None b x.code_off m.code n.code (one_some CodeAt one_code_item b x.code_off m.code n.code) h.code g.code in
      let annotations : m.annotations ≡ n.annotations = h.annotations ∙ sym g.annotations in
      let parameters : m.parameter_annotations ≡ n.parameter_annotations = h.parameter_annotations ∙ sym g.parameter_annotations in
      λ i. record { name = name i; proto = proto i; flags = flags i; code = code i; annotations = annotations i; parameter_annotations = parameters i }

  -- one list of methods
  one_methods : (d e : Directory) (xs ys : List EncodedMethod) (ms ns : List MethodDef) → d ≡ e → xs ≡ ys → AllZip (MakesMethod b d) xs ms → AllZip (MakesMethod b e) ys ns → ms ≡ ns
  one_methods d e xs ys ms ns same all h g =
      one_all_zip (MakesMethod b e) (one_made e) ys ms ns (subst (λ (zs : List EncodedMethod). AllZip (MakesMethod b e) zs ms) all (subst (λ (a : Directory). AllZip (MakesMethod b a) xs ms) same h)) g

  -- the static values
  one_static_values : (o : ℕ) (x y : Values) → OrNone StaticValuesAt NoValues b o x → OrNone StaticValuesAt NoValues b o y → x ≡ y
  one_static_values o x y h g = one_or_none StaticValuesAt NoValues b o x y (λ s t. (one_array b o x y s.0 t.0 s.1.array t.1.array).0) h g

  -- a class row denotes at most one definition
  pub one_class_row : (r : ℕ) (n m : Text) (c d : Body) → ClassRow b r n c → ClassRow b r m d → (n ≡ m) × (c ≡ d)
  one_class_row r n m c d h g =
      let name = one_type b (class_idx b r) n m h.class.row g.class.row in
      let flags : c.flags ≡ d.flags = h.flags ∙ sym g.flags in
      let superclass = one_superclass (superclass_idx b r) c.superclass d.superclass h.superclass g.superclass in
      let interfaces = one_or_none ClassListAt [] b (interfaces_off b r) c.interfaces d.interfaces (λ s t. one_type_list b (interfaces_off b r) c.interfaces d.interfaces s.list t.list) h.interfaces g.interfaces in
      let source = one_source (source_file_idx b r) c.source d.source h.source g.source in
      let directory = one_row_directory (annotations_off b r) h.directory g.directory h.directory_is g.directory_is in
      let members = one_row_data (class_data_off b r) h.members g.members h.members_are g.members_are in
      let annotations : c.annotations ≡ d.annotations = h.annotations ∙ ap (λ (a : Directory). a.own) directory ∙ sym g.annotations in
      let static_fields : c.static_fields ≡ d.static_fields = h.static_fields ∙ (λ i. map (field_def (directory i)) ((members i).static_fields)) ∙ sym g.static_fields in
      let instance_fields : c.instance_fields ≡ d.instance_fields = h.instance_fields ∙ (λ i. map (field_def (directory i)) ((members i).instance_fields)) ∙ sym g.instance_fields in
      let direct = one_methods h.directory g.directory h.members.direct_methods g.members.direct_methods c.direct_methods d.direct_methods directory (ap (λ (x : ClassData). x.direct_methods) members) h.direct_methods g.direct_methods in
      let virtual = one_methods h.directory g.directory h.members.virtual_methods g.members.virtual_methods c.virtual_methods d.virtual_methods directory (ap (λ (x : ClassData). x.virtual_methods) members) h.virtual_methods g.virtual_methods in
      let values = one_static_values (static_values_off b r) c.static_values d.static_values h.static_values g.static_values in (
        name,
        λ i. record {
          flags = flags i;
          superclass = superclass i;
          interfaces = interfaces i;
          source = source i;
          annotations = annotations i;
          static_fields = static_fields i;
          instance_fields = instance_fields i;
          direct_methods = direct i;
          virtual_methods = virtual i;
          static_values = values i;
        },
      )
