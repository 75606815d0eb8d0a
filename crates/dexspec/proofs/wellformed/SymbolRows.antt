-- Each symbol of a class row's definition has a row of its pool.
use Rattle.dexspec.proofs.Common.{◌≡◌, ℕ, ◌+◌, ◌*◌, List, [], ◌∷◌, ◌++◌, map, Option, Some, None, option_to_list, sym, subst, inl, inr, Contains, flat_map, All-contains, Contains-append_left, Contains-append_right, Contains-append_cases, Debug, Code, Values, ClassData}
use Rattle.dexspec.specs.{OrNone, SomeAt, BothOrNone, uint_at, ushort_at, uints_at, Text, Field, Method, Symbol, TextSymbol, TypeSymbol, FieldSymbol, MethodSymbol, field_cmp, method_cmp, StringRow, TypeRow, FieldRow, MethodRow, SymbolRow, type_indices, Cut, Piece, Instruction, DenotesPiece, cut_units, index_in, Operation, AdvancePc, AdvanceLine, StartLocal, StartLocalExtended, EndLocal, RestartLocal, SetPrologueEnd, SetEpilogueBegin, SetFile, Special, DebugAt, OptionalTextAt, OptionalTypeAt, OperationAt, Catch, Handler, Try, same_handler, handlers_of, code_units, CatchAt, HandlerAt, TryAt, TryItemsAt, TriesAt, CodeAt, Value, StringValue, TypeValue, FieldValue, MethodValue, EnumValue, ArrayValue, AnnotationValue, NoValues, ThenValue, Elements, NoElements, ThenElement, ValueAt, ValuesAt, ElementsAt, Annotation, AnnotationSet, AnnotationAt, SetAt, RefListAt, Directory, no_directory, DirectoryAt, PairAt, pairs_at, fields_count, methods_count, parameters_count, annotated, EncodedField, EncodedMethod, no_class_data, ClassDataAt, fields_of, methods_of, BelongTo, FieldDef, MethodDef, Body, ClassRow, ClassTypeRow, ClassListAt, IndexOrNone, StaticValuesAt, superclass_idx, interfaces_off, source_file_idx, annotations_off, class_data_off, static_values_off, class_idx, field_def, MakesMethod, declared_fields, declared_methods, optional_text, optional_type, piece_symbols, operation_symbols, debug_symbols, handler_symbols, code_symbols, value_symbols, values_symbols, elements_symbols, annotation_symbols, set_symbols, field_of, method_of, field_symbols, method_symbols, symbols_of, HasMembers}
use Rattle.dexspec.proofs.lists.{Contains-nil, Contains-first, Contains-cons_cases, Contains-flat_map_source, sequence_source, map_source, distinct_source, annotated_source, field_source, method_source}
use Rattle.dexspec.proofs.determined.{one_type, HasFewRows, one_row_data}
use Rattle.dexspec.proofs.wellformed.Fitting.{HasRow, HaveRows, zip_source}

module _ (b : List ℕ) where
  -- ---- lists of symbols

  -- no symbols: all have rows
  have_none : HaveRows b []
  have_none s c = absurd (Contains-nil s c)

  -- one more symbol
  have_first : (x : Symbol) (xs : List Symbol) → HasRow b x → HaveRows b xs → HaveRows b (x ∷ xs)
  have_first x xs h g s c = elim (Contains-cons_cases x s xs c) [ inl e ↦ subst (HasRow b) e h | inr l ↦ g s l ]

  -- two lists
  have_both : (xs ys : List Symbol) → HaveRows b xs → HaveRows b ys → HaveRows b (xs ++ ys)
  have_both xs ys h g s c = elim (Contains-append_cases xs ys s c) [ inl l ↦ h s l | inr l ↦ g s l ]

  -- the symbols of each member
  have_all : {X : Type 0} (f : X → List Symbol) (xs : List X) → ((x : X) → Contains xs x → HaveRows b (f x)) → HaveRows b (flat_map f xs)
  have_all f xs h s c = let w = Contains-flat_map_source f xs s c in h w.0 w.1 s w.2

  -- one symbol for each member
  have_map : {X : Type 0} (f : X → Symbol) (xs : List X) → ((x : X) → Contains xs x → HasRow b (f x)) → HaveRows b (map f xs)
  have_map f xs h s c = let w = map_source f xs s c in subst (HasRow b) w.2 (h w.0 w.1)

  -- ---- optional texts and types

  -- a source text, or none
  text_or_none : (i : ℕ) (s : Option Text) → IndexOrNone StringRow b i s → HaveRows b (optional_text s)
  text_or_none i None h = have_none
  text_or_none i (Some s) h = have_first (TextSymbol s) [] (i, h) have_none

  -- a superclass, or none
  type_or_none : (i : ℕ) (t : Option Text) → IndexOrNone ClassTypeRow b i t → HaveRows b (optional_type t)
  type_or_none i None h = have_none
  type_or_none i (Some t) h = have_first (TypeSymbol t) [] (i, h.row) have_none

  -- a text with an index, or none
  both_text : (i : Option ℕ) (s : Option Text) → BothOrNone (StringRow b) i s → HaveRows b (optional_text s)
  both_text i None h = have_none
  both_text None (Some s) h = absurd h
  both_text (Some i) (Some s) h = have_first (TextSymbol s) [] (i, h) have_none

  -- a type with an index, or none
  both_type : (i : Option ℕ) (t : Option Text) → BothOrNone (TypeRow b) i t → HaveRows b (optional_type t)
  both_type i None h = have_none
  both_type None (Some t) h = absurd h
  both_type (Some i) (Some t) h = have_first (TypeSymbol t) [] (i, h) have_none

  -- a text in a debug program
  optional_text_rows : (o : ℕ) (s : Option Text) (n : ℕ) → OptionalTextAt b o s n → HaveRows b (optional_text s)
  optional_text_rows o s n h = both_text h.0 s h.2

  -- a type in a debug program
  optional_type_rows : (o : ℕ) (t : Option Text) (n : ℕ) → OptionalTypeAt b o t n → HaveRows b (optional_type t)
  optional_type_rows o t n h = both_type h.0 t h.2

  -- interfaces
  class_list_rows : (o : ℕ) (ts : List Text) → OrNone ClassListAt [] b o ts → (t : Text) → Contains ts t → HasRow b (TypeSymbol t)
  class_list_rows o ts (inl h) t c = absurd (Contains-nil t (subst (λ (us : List Text). Contains us t) h.1 c))
  class_list_rows o ts (inr h) t c = let w = zip_source (TypeRow b) (type_indices b o) ts t h.1.list.types c in (w.0, w.2)

  -- ---- code

  -- the symbols of an operation
  operation_rows : (o : ℕ) (op : Operation) (n : ℕ) → OperationAt b o op n → HaveRows b (operation_symbols op)
  operation_rows o (StartLocal register name type) n h =
      have_both (optional_text name) (optional_type type) (optional_text_rows (o + 1 + h.1) name h.2 h.5) (optional_type_rows (o + 1 + h.1 + h.2) type h.3 h.6)
  operation_rows o (StartLocalExtended register name type signature) n h =
      have_both (optional_text name) (optional_type type ++ optional_text signature) (optional_text_rows (o + 1 + h.1) name h.2 h.6)
      (have_both (optional_type type) (optional_text signature) (optional_type_rows (o + 1 + h.1 + h.2) type h.3 h.7) (optional_text_rows (o + 1 + h.1 + h.2 + h.3) signature h.4 h.8))
  operation_rows o (SetFile name) n h = optional_text_rows (o + 1) name h.1 h.2
  operation_rows o (AdvancePc addresses) n h = have_none
  operation_rows o (AdvanceLine lines) n h = have_none
  operation_rows o (EndLocal register) n h = have_none
  operation_rows o (RestartLocal register) n h = have_none
  operation_rows o SetPrologueEnd n h = have_none
  operation_rows o SetEpilogueBegin n h = have_none
  operation_rows o (Special opcode) n h = have_none

  -- the symbols of a debug program
  debug_rows : (o : ℕ) (d : Debug) → DebugAt b o d → HaveRows b (debug_symbols d)
  debug_rows o d h =
      have_both (flat_map optional_text d.parameter_names) (flat_map operation_symbols d.operations)
      (have_all optional_text d.parameter_names (λ s c. let w = sequence_source OptionalTextAt b (o + h.start_size + h.count_size) d.parameter_names h.names_size s h.names c in optional_text_rows w.0 s w.1 w.2))
      (have_all operation_symbols d.operations (λ op c. let w = sequence_source OperationAt b (o + h.start_size + h.count_size + h.names_size) d.operations h.operations_size op h.operations c in operation_rows w.0 op w.1 w.2))

  -- of an optional debug program
  some_debug_rows : (o : ℕ) (d : Option Debug) → OrNone (SomeAt DebugAt) None b o d → HaveRows b (flat_map debug_symbols (option_to_list d))
  some_debug_rows o None h = have_none
  some_debug_rows o (Some d) (inl h) = absurd (let e : Some d ≡ None = h.1 in cc)
  some_debug_rows o (Some d) (inr h) = have_both (debug_symbols d) [] (debug_rows o d h.1) have_none

  -- the symbol of a piece
  piece_rows : (us : List ℕ) (p : Piece) → DenotesPiece (SymbolRow b) us p → HaveRows b (piece_symbols p)
  piece_rows us (Instruction xs (Some s)) h = have_first s [] (index_in us, h.1) have_none
  piece_rows us _ h = have_none

  module _ (us : List ℕ) (cuts : List Cut) where
    -- the types that a handler catches
    handler_rows : (o : ℕ) (x : Handler) (n : ℕ) → HandlerAt us cuts b o x n → HaveRows b (handler_symbols x)
    handler_rows o x n h =
        have_map (λ (c : Catch). TypeSymbol c.type) x.catches (λ c m. let w = sequence_source (CatchAt us cuts) b (o + h.count_size) x.catches h.catches_size c h.catches m in (w.2.index, w.2.type))

    -- a handler that a try names is one of the list
    try_handler : (o count : ℕ) (ts : List Try) → TryItemsAt us cuts b o count ts → (t : Try) → Contains ts t → HaveRows b (handler_symbols t.handler)
    try_handler o count ts h t c =
        let w = sequence_source (TryAt us cuts (o + 8 * count) h.count_size h.handlers) b o ts (8 * count) t h.items c in
        let in_list = subst (λ (hs : List Handler). Contains hs t.handler) (sym w.2.handler.parts) (Contains-append_right w.2.handler.before (t.handler ∷ w.2.handler.after) t.handler (Contains-first t.handler w.2.handler.after)) in
        let v = sequence_source (HandlerAt us cuts) b (o + 8 * count + h.count_size) h.handlers h.handlers_size t.handler h.list in_list in
        handler_rows v.0 t.handler v.1 v.2

  -- the types of a try's handler
  tries_rows : (o : ℕ) (cuts : List Cut) (ts : List Try) → TriesAt b o cuts ts → (t : Try) → Contains ts t → HaveRows b (handler_symbols t.handler)
  tries_rows o cuts ts (inl h) t c = absurd (Contains-nil t (subst (λ (us : List Try). Contains us t) h.1 c))
  tries_rows o cuts ts (inr (n, inl h)) t c = try_handler (code_units b o) cuts (o + 16 + 2 * uint_at b (o + 12)) (ushort_at b (o + 6)) ts h.1 t c
  tries_rows o cuts ts (inr (n, inr h)) t c = try_handler (code_units b o) cuts (o + 18 + 2 * uint_at b (o + 12)) (ushort_at b (o + 6)) ts h.2 t c

  -- the symbols of code
  code_rows : (o : ℕ) (k : Code) → CodeAt b o k → HaveRows b (code_symbols k)
  code_rows o k h =
      let handlers = flat_map handler_symbols (handlers_of k.tries) in
      let debug = flat_map debug_symbols (option_to_list k.debug) in
      have_both (flat_map piece_symbols k.pieces) (handlers ++ debug)
      (have_all piece_symbols k.pieces (λ p c. let w = zip_source (λ (cut : Cut) (q : Piece). DenotesPiece (SymbolRow b) (cut_units (code_units b o) cut) q) h.cuts k.pieces p h.pieces.pieces c in piece_rows (cut_units (code_units b o) w.0) p w.2))
      (have_both handlers debug
      (have_all handler_symbols (handlers_of k.tries) (λ x c.
      let w = map_source (λ (t : Try). t.handler) k.tries x (distinct_source same_handler (map (λ (t : Try). t.handler) k.tries) x c) in
      subst (λ (y : Handler). HaveRows b (handler_symbols y)) w.2 (tries_rows o h.cuts k.tries h.tries w.0 w.1)))
      (some_debug_rows (uint_at b (o + 8)) k.debug h.debug))

  -- of optional code
  some_code_rows : (o : ℕ) (k : Option Code) → OrNone (SomeAt CodeAt) None b o k → HaveRows b (flat_map code_symbols (option_to_list k))
  some_code_rows o None h = have_none
  some_code_rows o (Some k) (inl h) = absurd (let e : Some k ≡ None = h.1 in cc)
  some_code_rows o (Some k) (inr h) = have_both (code_symbols k) [] (code_rows o k h.1) have_none

  -- ---- values

  mutual
    -- the symbols of a value
    value_rows : (o : ℕ) (v : Value) (n : ℕ) → ValueAt b o v n → HaveRows b (value_symbols v)
    value_rows o (StringValue s) n h = have_first (TextSymbol s) [] (h.0, h.2) have_none
    value_rows o (TypeValue t) n h = have_first (TypeSymbol t) [] (h.0, h.2) have_none
    value_rows o (FieldValue f) n h = have_first (FieldSymbol f) [] (h.0, h.2) have_none
    value_rows o (MethodValue m) n h = have_first (MethodSymbol m) [] (h.0, h.2) have_none
    value_rows o (EnumValue f) n h = have_first (FieldSymbol f) [] (h.0, h.2) have_none
    value_rows o (ArrayValue vs) n h = values_rows (o + 1 + h.2.0) vs h.2.1 h.2.3
    value_rows o (AnnotationValue t es) n h = have_first (TypeSymbol t) (elements_symbols es) (h.2.3, h.2.5) (elements_rows (o + 1 + h.2.0 + h.2.1) es h.2.2 h.2.7)
    value_rows o _ n h = have_none

    -- the symbols of values
    values_rows : (o : ℕ) (vs : Values) (n : ℕ) → ValuesAt b o vs n → HaveRows b (values_symbols vs)
    values_rows o NoValues n h = have_none
    values_rows o (ThenValue v vs) n h = have_both (value_symbols v) (values_symbols vs) (value_rows o v h.0 h.2) (values_rows (o + h.0) vs h.1 h.3)

    -- the symbols of elements
    elements_rows : (o : ℕ) (es : Elements) (n : ℕ) → ElementsAt b o es n → HaveRows b (elements_symbols es)
    elements_rows o NoElements n h = have_none
    elements_rows o (ThenElement name v es) n h =
        have_first (TextSymbol name) (value_symbols v ++ elements_symbols es) (h.3, h.5) (have_both (value_symbols v) (elements_symbols es) (value_rows (o + h.0) v h.1 h.6) (elements_rows (o + h.0 + h.1) es h.2 h.7))

  -- the symbols of static values
  static_values_rows : (o : ℕ) (vs : Values) → OrNone StaticValuesAt NoValues b o vs → HaveRows b (values_symbols vs)
  static_values_rows o vs (inl h) = subst (λ (ws : Values). HaveRows b (values_symbols ws)) (sym h.1) have_none
  static_values_rows o vs (inr h) = let a = h.1.1.array in values_rows (o + a.0) vs a.1 a.3

  -- ---- annotations

  -- the symbols of an annotation
  annotation_rows : (o : ℕ) (a : Annotation) → AnnotationAt b o a → HaveRows b (annotation_symbols a)
  annotation_rows o a h =
      let w = h.annotation.1 in
      have_first (TypeSymbol a.type) (elements_symbols a.elements) (w.3, w.5) (elements_rows (o + 1 + w.0 + w.1) a.elements w.2 w.7)

  -- the symbols of a set
  set_rows : (o : ℕ) (set : AnnotationSet) → SetAt b o set → HaveRows b (set_symbols set)
  set_rows o set h =
      have_all annotation_symbols set (λ a c. let w = zip_source (AnnotationAt b) (uints_at b (o + 4) (uint_at b o)) set a h.annotations c in annotation_rows w.0 a w.2)

  -- of an optional set
  set_or_none_rows : (o : ℕ) (set : AnnotationSet) → OrNone SetAt [] b o set → HaveRows b (set_symbols set)
  set_or_none_rows o set (inl h) = subst (λ (x : AnnotationSet). HaveRows b (set_symbols x)) (sym h.1) have_none
  set_or_none_rows o set (inr h) = set_rows o set h.1

  -- the symbols of a list of sets
  ref_list_rows : (o : ℕ) (list : List AnnotationSet) → RefListAt b o list → HaveRows b (flat_map set_symbols list)
  ref_list_rows o list h =
      have_all set_symbols list (λ s c. let w = zip_source (OrNone SetAt [] b) (uints_at b (o + 4) (uint_at b o)) list s h.sets c in set_or_none_rows w.0 s w.2)

  -- all symbols of a directory's sets have rows
  record SetsHaveRows (d : Directory) : Type 0 where
    own : HaveRows b (set_symbols d.own)
    fields : (e : Field × AnnotationSet) → Contains d.fields e → HaveRows b (set_symbols e.1)
    methods : (e : Method × AnnotationSet) → Contains d.methods e → HaveRows b (set_symbols e.1)
    parameters : (e : Method × List AnnotationSet) → Contains d.parameters e → HaveRows b (flat_map set_symbols e.1)

  -- the symbols of a directory
  directory_rows : (o : ℕ) (d : Directory) → OrNone DirectoryAt no_directory b o d → SetsHaveRows d
  directory_rows o d (inl h) =
      subst SetsHaveRows (sym h.1) (record { own = have_none; fields = λ e c. absurd (Contains-nil e c); methods = λ e c. absurd (Contains-nil e c); parameters = λ e c. absurd (Contains-nil e c) })
  directory_rows o d (inr h) =
      let is = h.1 in
      record {
        own = set_or_none_rows (uint_at b o) d.own is.own;
        fields = λ e c. let w = zip_source (PairAt FieldRow SetAt b) (pairs_at b (o + 16) (fields_count b o)) d.fields e is.fields.pairs c in set_rows w.0.1 e.1 w.2.2;
        methods = λ e c. let w = zip_source (PairAt MethodRow SetAt b) (pairs_at b (o + 16 + 8 * fields_count b o) (methods_count b o)) d.methods e is.methods.pairs c in set_rows w.0.1 e.1 w.2.2;
        parameters = λ e c.
            let w = zip_source (PairAt MethodRow RefListAt b) (pairs_at b (o + 16 + 8 * (fields_count b o + methods_count b o)) (parameters_count b o)) d.parameters e is.parameters.pairs c in
            ref_list_rows w.0.1 e.1 w.2.2;
      }

  -- ---- members

  -- the fields and methods of class data have rows
  record MembersHaveRows (d : ClassData) : Type 0 where
    fields : (x : EncodedField) → Contains (fields_of d) x → (i : ℕ) × FieldRow b i x.field
    methods : (x : EncodedMethod) → Contains (methods_of d) x → (i : ℕ) × MethodRow b i x.method

  -- the symbols of class data
  member_rows : (o : ℕ) (d : ClassData) → OrNone ClassDataAt no_class_data b o d → MembersHaveRows d
  member_rows o d (inl h) = subst MembersHaveRows (sym h.1) (record { fields = λ x c. absurd (Contains-nil x c); methods = λ x c. absurd (Contains-nil x c) })
  member_rows o d (inr h) =
      let is = h.1 in
      let p = o + is.counts_bytes in
      record {
        fields = λ x c. elim (Contains-append_cases d.static_fields d.instance_fields x c) [
          | inl l ↦ field_source b p None d.static_fields is.static_fields_bytes x is.static_fields l
          | inr l ↦ field_source b (p + is.static_fields_bytes) None d.instance_fields is.instance_fields_bytes x is.instance_fields l
        ];
        methods = λ x c. elim (Contains-append_cases d.direct_methods d.virtual_methods x c) [
          | inl l ↦ method_source b (p + is.static_fields_bytes + is.instance_fields_bytes) None d.direct_methods is.direct_methods_bytes x is.direct_methods l
          | inr l ↦ method_source b (p + is.static_fields_bytes + is.instance_fields_bytes + is.direct_methods_bytes) None d.virtual_methods is.virtual_methods_bytes x is.virtual_methods l
        ];
      }

  -- the symbols of a declared field
  field_def_rows : (name : Text) (d : Directory) (x : EncodedField) → SetsHaveRows d → (i : ℕ) × FieldRow b i x.field → x.field.class ≡ name → HaveRows b (field_symbols name (field_def d x))
  field_def_rows name d x sets row own =
      let same : x.field ≡ field_of name (field_def d x) = λ i. record { class = own i; name = x.field.name; type = x.field.type } in
      have_first (FieldSymbol (field_of name (field_def d x))) (set_symbols (annotated field_cmp d.fields x.field)) (row.0, subst (FieldRow b row.0) same row.1)
      (annotated_source field_cmp x.field (λ s. HaveRows b (set_symbols s)) d.fields have_none sets.fields)

  -- the symbols of a declared method
  method_def_rows : (name : Text) (d : Directory) (x : EncodedMethod) (m : MethodDef) → SetsHaveRows d → (i : ℕ) × MethodRow b i x.method → x.method.class ≡ name → MakesMethod b d x m → HaveRows b (method_symbols name m)
  method_def_rows name d x m sets row own makes =
      let same : x.method ≡ method_of name m = λ i. record { class = own i; name = sym makes.name i; proto = sym makes.proto i } in
      let code = flat_map code_symbols (option_to_list m.code) in
      let annotations = set_symbols m.annotations in
      let parameters = flat_map set_symbols m.parameter_annotations in
      have_first (MethodSymbol (method_of name m)) (code ++ (annotations ++ parameters)) (row.0, subst (MethodRow b row.0) same row.1)
      (have_both code (annotations ++ parameters) (some_code_rows x.code_off m.code makes.code)
      (have_both annotations parameters
      (subst (λ (s : AnnotationSet). HaveRows b (set_symbols s)) (sym makes.annotations) (annotated_source method_cmp x.method (λ s. HaveRows b (set_symbols s)) d.methods have_none sets.methods))
      (subst (λ (s : List AnnotationSet). HaveRows b (flat_map set_symbols s)) (sym makes.parameter_annotations)
      (annotated_source method_cmp x.method (λ s. HaveRows b (flat_map set_symbols s)) d.parameters have_none sets.parameters))))

-- ---- class rows

-- the members of a row are those of its class
pub row_members : (b : List ℕ) (few : HasFewRows b) (r : ℕ) (name : Text) (c : Body) (h : ClassRow b r name c) → HasMembers b r → BelongTo name h.members
row_members b few r name c h members =
    let same = one_row_data b few (class_data_off b r) members.0 h.members members.1.is h.members_are in
    let names = one_type b (class_idx b r) members.1.name name members.1.class.row h.class.row in
    subst (λ (d : ClassData). BelongTo name d) same (subst (λ (n : Text). BelongTo n members.0) names members.1.own)

-- each symbol of a class row's definition has a row
pub row_symbols : (b : List ℕ) → HasFewRows b → (r : ℕ) (name : Text) (c : Body) → ClassRow b r name c → HasMembers b r → HaveRows b (symbols_of (name, c))
unfolding symbols_of
row_symbols b few r name c h members =
    let own = row_members b few r name c h members in
    let sets = directory_rows b (annotations_off b r) h.directory h.directory_is in
    let rows = member_rows b (class_data_off b r) h.members h.members_are in
    let fields = flat_map (field_symbols name) (declared_fields c) in
    let methods = flat_map (method_symbols name) (declared_methods c) in
    let values = values_symbols c.static_values in
    let annotations = set_symbols c.annotations in
    let source = optional_text c.source in
    let interfaces = map TypeSymbol c.interfaces in
    let superclass = optional_type c.superclass in
    let field = λ (x : EncodedField) (m : Contains (fields_of h.members) x). field_def_rows b name h.directory x sets (rows.fields x m) (All-contains (λ (y : EncodedField). y.field.class ≡ name) (fields_of h.members) x own.fields m) in
    let method = λ (x : EncodedMethod) (k : MethodDef) (m : Contains (methods_of h.members) x) (makes : MakesMethod b h.directory x k).
    method_def_rows b name h.directory x k sets (rows.methods x m) (All-contains (λ (y : EncodedMethod). y.method.class ≡ name) (methods_of h.members) x own.methods m) makes in
    let made = λ (f : FieldDef) (x : EncodedField) (e : field_def h.directory x ≡ f) (m : Contains (fields_of h.members) x). subst (λ (g : FieldDef). HaveRows b (field_symbols name g)) e (field x m) in
    have_first b (TypeSymbol name) (superclass ++ (interfaces ++ (source ++ (annotations ++ (fields ++ (methods ++ values)))))) (class_idx b r, h.class.row)
    (have_both b superclass (interfaces ++ (source ++ (annotations ++ (fields ++ (methods ++ values))))) (type_or_none b (superclass_idx b r) c.superclass h.superclass)
    (have_both b interfaces (source ++ (annotations ++ (fields ++ (methods ++ values)))) (have_map b TypeSymbol c.interfaces (class_list_rows b (interfaces_off b r) c.interfaces h.interfaces))
    (have_both b source (annotations ++ (fields ++ (methods ++ values))) (text_or_none b (source_file_idx b r) c.source h.source)
    (have_both b annotations (fields ++ (methods ++ values)) (subst (λ (s : AnnotationSet). HaveRows b (set_symbols s)) (sym h.annotations) sets.own)
    (have_both b fields (methods ++ values)
    (have_all b (field_symbols name) (declared_fields c) (λ f m. elim (Contains-append_cases c.static_fields c.instance_fields f m) [
      | inl l ↦
          let w = map_source (field_def h.directory) h.members.static_fields f (subst (λ (fs : List FieldDef). Contains fs f) h.static_fields l) in
          made f w.0 w.2 (Contains-append_left h.members.static_fields h.members.instance_fields w.0 w.1)
      | inr l ↦
          let w = map_source (field_def h.directory) h.members.instance_fields f (subst (λ (fs : List FieldDef). Contains fs f) h.instance_fields l) in
          made f w.0 w.2 (Contains-append_right h.members.static_fields h.members.instance_fields w.0 w.1)
    ]))
    (have_both b methods values
    (have_all b (method_symbols name) (declared_methods c) (λ k m. elim (Contains-append_cases c.direct_methods c.virtual_methods k m) [
      | inl l ↦
          let w = zip_source (MakesMethod b h.directory) h.members.direct_methods c.direct_methods k h.direct_methods l in
          method w.0 k (Contains-append_left h.members.direct_methods h.members.virtual_methods w.0 w.1) w.2
      | inr l ↦
          let w = zip_source (MakesMethod b h.directory) h.members.virtual_methods c.virtual_methods k h.virtual_methods l in
          method w.0 k (Contains-append_right h.members.direct_methods h.members.virtual_methods w.0 w.1) w.2
    ]))
    (static_values_rows b (static_values_off b r) c.static_values h.static_values)))))))
