-- The class rows in the file of definitions: each denotes the definition at its place, if the items of the class are at
-- the offsets of its row; condition 16.
use Rattle.dexspec.proofs.Common.{◌≡◌, ℕ, ◌<◌, List, [], ◌∷◌, ◌++◌, length, get_or, map, refl, sym, ap, ◌∙◌, subst, arith, inl, inr, All, true, ◌==◌, if◌then◌else◌, Option, Some, None, IfSome, option_to_list, Contains, AllZip, filter, flat_map, option_map_or, cond-false, ne_eqb, Decides-eqb, slice_eq-Decides, map-append, Contains-get_or, Contains-append_left, Contains-append_right, Contains-append_cases, All-map, ClassData}
use Rattle.dexspec.specs.{OrNone, AreDistinct, Text, text_cmp, same_text, IsClass, TextSymbol, TypeSymbol, ClassDefs, table_size, StringRow, TypeListAt, type_indices, NoValues, Directory, DirectoryAt, no_directory, ClassDataAt, no_class_data, Body, Definition, ClassRow, ClassTypeRow, ClassListAt, IndexOrNone, StaticValuesAt, field_def, MakesMethod, class_idx, superclass_idx, interfaces_off, source_file_idx, annotations_off, class_data_off, static_values_off, no_index, mentions, symbols_of, optional_type, optional_text, parents, is_defined, IsAcyclic, depth, in_class_order, AreWellFormed, parent_indices, IsDefinedBefore, HasClass, text_index, type_index, type_list_bytes, unless_empty, ordered}
use Rattle.dexspec.proofs.lists.{AreAmong, Contains-first, Contains-later, Contains-flat_map, Contains-filter, list_any-member, rank_one}
use Rattle.dexspec.proofs.merge.{text_total, mentions-rising, texts-listed, types-listed, Contains-map, depth-parent}
use Rattle.dexspec.proofs.layout.Uses.{UseIsAt}
use Rattle.dexspec.proofs.layout.RowsRead.{ClassRead, class_read, type_index_small, type_list_indices}
use Rattle.dexspec.proofs.layout.PoolsAreAt.{type_list_or_none}
use Rattle.dexspec.proofs.normal.NormalRows.{IsNormal, string_ranked, type_ranked}
use Rattle.dexspec.proofs.normal.ClassPlaces.{in_class_order-only, class_names-apart, class_depths-before}

-- ---- the symbols of a class row occur in the definition

-- the name of a definition occurs in it
name_occurs : (d : Definition) → Contains (symbols_of d) (TypeSymbol d.0)
unfolding symbols_of
name_occurs d = Contains-first (TypeSymbol d.0) _

-- its superclass occurs in it
superclass_occurs : (d : Definition) (t : Text) → Contains (option_to_list d.1.superclass) t → Contains (symbols_of d) (TypeSymbol t)
unfolding symbols_of
superclass_occurs d t c =
    Contains-later (TypeSymbol d.0) (TypeSymbol t) _ (Contains-append_left (optional_type d.1.superclass) _ (TypeSymbol t) (Contains-map TypeSymbol (option_to_list d.1.superclass) t c))

-- each interface occurs in it
interface_occurs : (d : Definition) (t : Text) → Contains d.1.interfaces t → Contains (symbols_of d) (TypeSymbol t)
unfolding symbols_of
interface_occurs d t c =
    Contains-later (TypeSymbol d.0) (TypeSymbol t) _ (Contains-append_right (optional_type d.1.superclass) _ (TypeSymbol t)
    (Contains-append_left (map TypeSymbol d.1.interfaces) _ (TypeSymbol t) (Contains-map TypeSymbol d.1.interfaces t c)))

-- its source text occurs in it
source_occurs : (d : Definition) (s : Text) → Contains (option_to_list d.1.source) s → Contains (symbols_of d) (TextSymbol s)
unfolding symbols_of
source_occurs d s c =
    Contains-later (TypeSymbol d.0) (TextSymbol s) _ (Contains-append_right (optional_type d.1.superclass) _ (TextSymbol s)
    (Contains-append_right (map TypeSymbol d.1.interfaces) _ (TextSymbol s)
    (Contains-append_left (optional_text d.1.source) _ (TextSymbol s) (Contains-map TextSymbol (option_to_list d.1.source) s c))))

-- a type that occurs is mentioned
type_mentioned : (D : List Definition) (d : Definition) (t : Text) → Contains D d → Contains (symbols_of d) (TypeSymbol t) → Contains (mentions D).types t
type_mentioned D d t c o = types-listed D t (record { definition = d; symbol = TypeSymbol t; member = c; occurs = o; part = Contains-first t [] })

-- a text that occurs is mentioned
text_mentioned : (D : List Definition) (d : Definition) (s : Text) → Contains D d → Contains (symbols_of d) (TextSymbol s) → Contains (mentions D).texts s
text_mentioned D d s c o = texts-listed D s (record { definition = d; symbol = TextSymbol s; member = c; occurs = o; part = Contains-first s [] })

-- the items of a class are at the offsets of class row r
pub record BelongsAt (b : List ℕ) (r : ℕ) (c : Body) : Type 0 where
  pub directory : Directory
  pub directory_is : OrNone DirectoryAt no_directory b (annotations_off b r) directory
  pub members : ClassData
  pub members_are : OrNone ClassDataAt no_class_data b (class_data_off b r) members
  pub annotations : c.annotations ≡ directory.own
  pub static_fields : c.static_fields ≡ map (field_def directory) members.static_fields
  pub instance_fields : c.instance_fields ≡ map (field_def directory) members.instance_fields
  pub direct_methods : AllZip (MakesMethod b directory) members.direct_methods c.direct_methods
  pub virtual_methods : AllZip (MakesMethod b directory) members.virtual_methods c.virtual_methods
  pub static_values : OrNone StaticValuesAt NoValues b (static_values_off b r) c.static_values

-- a text is equal to itself
same_itself : (s : Text) → same_text s s ≡ true
same_itself s = (slice_eq-Decides Decides-eqb s s (same_text s s) refl).1 refl

-- definitions of different names that can be in one file, and the bytes of it
pub record AreNormal (D : List Definition) (b : List ℕ) : Type 0 where
  pub file : IsNormal D b
  pub formed : AreWellFormed D
  pub names : AreDistinct (map (λ d. d.0) D)
  pub acyclic : IsAcyclic D

module _ (D : List Definition) (b : List ℕ) (n : AreNormal D b) where
  -- the r-th class is a definition
  pub class_member : (r : ℕ) (d : Definition) → r < length (in_class_order D) → Contains D (get_or (in_class_order D) r d)
  class_member r d lt = in_class_order-only D (get_or (in_class_order D) r d) (Contains-get_or (in_class_order D) r d lt)

  -- the index of a value that is present, or NO_INDEX
  abbrev index_of : {X : Type 0} → (X → ℕ) → Option X → ℕ
  index_of f x = option_map_or f x no_index

  -- the numbers in a class's row
  pub class_numbers : (r : ℕ) (e : Definition) → r < length (in_class_order D) → ClassRead (ordered D) b r (get_or (in_class_order D) r e)
  class_numbers = class_read n.file.laid

  -- ---- the symbols of the numbers

  -- a mentioned class is at its rank
  class_ranked : (t : Text) → IsClass t → Contains (mentions D).types t → ClassTypeRow b (type_index (mentions D) t) t
  class_ranked t is c = record { row = type_ranked D b n.file t c; class = is }

  -- a class row has its class
  pub own_class : (r : ℕ) (e : Definition) → r < length (in_class_order D) → ClassTypeRow b (class_idx b r) (get_or (in_class_order D) r e).0
  own_class r e lt =
      let d = get_or (in_class_order D) r e in
      let c = class_member r e lt in
      subst (λ k. ClassTypeRow b k d.0) (sym (class_numbers r e lt).name_is) (class_ranked d.0 (n.formed d c).name (type_mentioned D d d.0 c (name_occurs d)))

  -- an index of a class, or none
  optional_class : (d : Definition) (t : Option Text) → Contains D d → IfSome t IsClass → ((s : Text) → Contains (option_to_list t) s → Contains (symbols_of d) (TypeSymbol s)) → IndexOrNone ClassTypeRow b (index_of (type_index (mentions D)) t) t
  optional_class d None c is f = refl
  optional_class d (Some t) c is f = class_ranked t is (type_mentioned D d t c (f t (Contains-first t [])))

  -- an index of a text, or none
  optional_string : (d : Definition) (s : Option Text) → Contains D d → ((t : Text) → Contains (option_to_list s) t → Contains (symbols_of d) (TextSymbol t)) → IndexOrNone StringRow b (index_of (text_index (mentions D)) s) s
  optional_string d None c f = refl
  optional_string d (Some s) c f = string_ranked D b n.file s (text_mentioned D d s c (f s (Contains-first s [])))

  -- a class row names its superclass
  own_superclass : (r : ℕ) (e : Definition) → r < length (in_class_order D) → IndexOrNone ClassTypeRow b (superclass_idx b r) (get_or (in_class_order D) r e).1.superclass
  own_superclass r e lt =
      let d = get_or (in_class_order D) r e in
      let c = class_member r e lt in
      subst (λ k. IndexOrNone ClassTypeRow b k d.1.superclass) (sym (class_numbers r e lt).superclass_is) (optional_class d d.1.superclass c (n.formed d c).superclass (superclass_occurs d))

  -- a class row names its source text
  own_source : (r : ℕ) (e : Definition) → r < length (in_class_order D) → IndexOrNone StringRow b (source_file_idx b r) (get_or (in_class_order D) r e).1.source
  own_source r e lt =
      let d = get_or (in_class_order D) r e in
      let c = class_member r e lt in
      subst (λ k. IndexOrNone StringRow b k d.1.source) (sym (class_numbers r e lt).source_is) (optional_string d d.1.source c (source_occurs d))

  -- the interfaces of a definition are mentioned
  interfaces_mentioned : (d : Definition) → Contains D d → AreAmong d.1.interfaces (mentions D).types
  interfaces_mentioned d c t l = type_mentioned D d t c (interface_occurs d t l)

  -- a list of types that are classes
  class_list : (o : ℕ) (ts : List Text) → All IsClass ts → OrNone TypeListAt [] b o ts → OrNone ClassListAt [] b o ts
  class_list o ts are (inl h) = inl h
  class_list o ts are (inr h) = inr (h.0, record { list = h.1; classes = are })

  -- a class row has the offset of its interfaces
  own_interfaces : (r : ℕ) (e : Definition) → r < length (in_class_order D) → OrNone ClassListAt [] b (interfaces_off b r) (get_or (in_class_order D) r e).1.interfaces
  own_interfaces r e lt =
      let d = get_or (in_class_order D) r e in
      let c = class_member r e lt in
      class_list (interfaces_off b r) d.1.interfaces (n.formed d c).interfaces (type_list_or_none n.file.laid n.file.few n.file.pools d.1.interfaces (interfaces_off b r) (interfaces_mentioned d c) (class_numbers r e lt).interfaces_are)

  -- row r is the r-th class, if its items are at its offsets
  pub class_encoded : (r : ℕ) (e : Definition) → r < length (in_class_order D) → BelongsAt b r (get_or (in_class_order D) r e).1
      → ClassRow b r (get_or (in_class_order D) r e).0 (get_or (in_class_order D) r e).1
  class_encoded r e lt has =
      let nums = class_numbers r e lt in
      record {
        row = omega (arith, lt, n.file.laid.count ClassDefs);
        class = own_class r e lt;
        flags = sym (nums.flags_are (n.formed (get_or (in_class_order D) r e) (class_member r e lt)).flags);
        superclass = own_superclass r e lt;
        interfaces = own_interfaces r e lt;
        source = own_source r e lt;
        directory = has.directory;
        directory_is = has.directory_is;
        members = has.members;
        members_are = has.members_are;
        annotations = has.annotations;
        static_fields = has.static_fields;
        instance_fields = has.instance_fields;
        direct_methods = has.direct_methods;
        virtual_methods = has.virtual_methods;
        static_values = has.static_values;
      }

  -- ---- condition 16

  -- the indices of a list, or none
  list_indices : (o : ℕ) (ts : List Text) → UseIsAt b 4 (type_list_bytes (mentions D)) (unless_empty ts) o → (if o == 0 then [] else type_indices b o) ≡ map (type_index (mentions D)) ts
  list_indices o [] h = ap (λ k. if k == 0 then [] else type_indices b k) h
  list_indices o (t ∷ ts) item = cond-false (o == 0) [] (type_indices b o) (ne_eqb o 0 item.some) ∙ type_list_indices n.file.laid n.file.few (t ∷ ts) item

  -- the index of a superclass, if there is one
  optional_index : (d : Definition) (t : Option Text) → Contains D d → ((s : Text) → Contains (option_to_list t) s → Contains (symbols_of d) (TypeSymbol s))
      → (if index_of (type_index (mentions D)) t == no_index then [] else index_of (type_index (mentions D)) t ∷ []) ≡ map (type_index (mentions D)) (option_to_list t)
  optional_index d None c f = refl
  optional_index d (Some t) c f =
      let small = type_index_small n.file.laid n.file.few t in
      cond-false (type_index (mentions D) t == no_index) [] (type_index (mentions D) t ∷ []) (ne_eqb (type_index (mentions D) t) no_index (λ e. omega (arith, small, e)))

  -- the indices of the parents
  parents_read : (r : ℕ) (e : Definition) → r < length (in_class_order D) → parent_indices b r ≡ map (type_index (mentions D)) (parents (get_or (in_class_order D) r e).1)
  parents_read r e lt =
      let d = get_or (in_class_order D) r e in
      let c = class_member r e lt in
      let nums = class_numbers r e lt in
      let first : (if superclass_idx b r == no_index then [] else superclass_idx b r ∷ []) ≡ map (type_index (mentions D)) (option_to_list d.1.superclass) =
      ap (λ k. if k == no_index then [] else k ∷ []) nums.superclass_is ∙ optional_index d d.1.superclass c (superclass_occurs d) in
      let rest = list_indices (interfaces_off b r) d.1.interfaces nums.interfaces_are in
      (λ k. first k ++ rest k) ∙ sym (map-append (type_index (mentions D)) (option_to_list d.1.superclass) d.1.interfaces)

  -- a parent is mentioned
  parent_mentioned : (d : Definition) (t : Text) → Contains D d → Contains (parents d.1) t → Contains (mentions D).types t
  parent_mentioned d t c p = elim (Contains-append_cases (option_to_list d.1.superclass) d.1.interfaces t p) [
    | inl s ↦ type_mentioned D d t c (superclass_occurs d t s)
    | inr i ↦ type_mentioned D d t c (interface_occurs d t i)
  ]

  -- a name of a definition is defined
  name_defined : (d : Definition) → Contains D d → is_defined D d.0 ≡ true
  name_defined d c = list_any-member (λ (x : Definition). same_text x.0 d.0) D d c (same_itself d.0)

  -- a defined parent has a lesser depth
  parent_less : (d p : Definition) → Contains D d → Contains D p → Contains (parents d.1) p.0 → depth D p.0 < depth D d.0
  parent_less d p c m l =
      let named = λ (x : Definition). same_text x.0 d.0 in
      let parents_of = λ (x : Definition). parents x.1 in
      let listed = Contains-flat_map parents_of (filter named D) d p.0 (Contains-filter named D d c (same_itself d.0)) l in
      depth-parent D d.0 p.0 (n.acyclic d.0 (name_defined d c)) (Contains-filter (is_defined D) (flat_map parents_of (filter named D)) p.0 listed (name_defined p m))

  -- a parent that the file defines comes before
  parent_before : (r : ℕ) (e : Definition) (t : Text) → r < length (in_class_order D) → Contains (parents (get_or (in_class_order D) r e).1) t → IsDefinedBefore b r (type_index (mentions D) t)
  parent_before r e t lt l k within same =
      let d = get_or (in_class_order D) r e in
      let c = class_member r e lt in
      let inside : k < length (in_class_order D) = omega (arith, within, n.file.laid.count ClassDefs) in
      let p = get_or (in_class_order D) k e in
      let m = class_member k e inside in
      let name : p.0 ≡ t =
      rank_one text_cmp text_total (mentions D).types (mentions-rising D).types p.0 t (type_mentioned D p p.0 m (name_occurs p)) (parent_mentioned d t c l) (sym (class_numbers k e inside).name_is ∙ same) in
      (k, class_depths-before D k r e inside (parent_less d p c m (subst (Contains (parents d.1)) (sym name) l)), same)

  -- 16 Classes
  pub has_class : (r : ℕ) (e : Definition) → r < table_size b ClassDefs → HasClass b r
  has_class r e lt =
      let inside : r < length (in_class_order D) = omega (arith, lt, n.file.laid.count ClassDefs) in
      let d = get_or (in_class_order D) r e in
      let c = class_member r e inside in
      record {
        name = d.0;
        is = own_class r e inside;
        first = λ k before same.
            let lower : k < length (in_class_order D) = omega (arith, before, inside) in
            let p = get_or (in_class_order D) k e in
            class_names-apart D k r e before inside (rank_one text_cmp text_total (mentions D).types (mentions-rising D).types p.0 d.0
            (type_mentioned D p p.0 (class_member k e lower) (name_occurs p)) (type_mentioned D d d.0 c (name_occurs d)) (sym (class_numbers k e lower).name_is ∙ same ∙ (class_numbers r e inside).name_is));
        superclass = (d.1.superclass, own_superclass r e inside);
        interfaces = (d.1.interfaces, own_interfaces r e inside);
        source = (d.1.source, own_source r e inside);
        parents = subst (All (IsDefinedBefore b r)) (sym (parents_read r e inside))
            (All-map (IsDefinedBefore b r) (type_index (mentions D)) (parents d.1) (λ k t le. parent_before r e (get_or (parents d.1) k t) inside (Contains-get_or (parents d.1) k t le)));
      }
