-- The definition of a class row of a list of bytes is well formed, if its code is.
use Rattle.dexspec.proofs.Common.{◌≡◌, ℕ, ◌+◌, ◌<◌, List, [], ◌∷◌, length, map, All, Option, Some, None, refl, sym, ap, ◌∙◌, subst, arith, inl, inr, Ordering, Less, Equal, IfSome, Contains, AllZip, ordering_then, tied_itself, length-map, All-contains, Contains-append_left, Contains-append_right, Contains-append_cases, ClassData}
use Rattle.dexspec.specs.{OrNone, Text, text_cmp, IsMemberName, Proto, Field, Method, IsProto, field_cmp, method_cmp, ClassDefs, row_at, FieldRow, MethodRow, NoValues, count_values, Directory, EncodedField, EncodedMethod, no_class_data, IsNextIndex, EncodedFieldsAt, EncodedMethodsAt, ClassDataAt, fields_of, methods_of, ShareNone, FieldDef, MethodDef, Body, ClassRow, StaticValuesAt, field_def, MakesMethod, declared_fields, declared_methods, superclass_idx, interfaces_off, annotations_off, class_data_off, static_values_off, symbols_of, FitsUint, IsCodeItem, IsSet, IsFieldDef, IsMethodDef, field_key, field_key_cmp, method_key, method_key_cmp, IsWellFormed, HasMembers, HasValues, Declares}
use Rattle.dexspec.proofs.lists.{Contains-nil, Contains-first, Contains-later, Contains-cons_cases, Rises, rises-from_Rises, map_source, annotated_source}
use Rattle.dexspec.proofs.merge.{Contains-map, text_total}
use Rattle.dexspec.proofs.determined.{one_or_none, one_array, HasFewRows}
use Rattle.dexspec.proofs.wellformed.PoolRows.{AreStrings, AreTypes}
use Rattle.dexspec.proofs.wellformed.MemberOrder.{AreProtos, AreFields, AreMethods, fields_rise, methods_rise}
use Rattle.dexspec.proofs.wellformed.Fitting.{zip_source}
use Rattle.dexspec.proofs.wellformed.SymbolRows.{row_members, row_symbols}
use Rattle.dexspec.proofs.wellformed.FormedRows.{all_from, length-zip, uint_bound, symbols_formed, texts_formed, superclass_formed, interfaces_formed, interfaces_few}
use Rattle.dexspec.proofs.wellformed.FormedValues.{HasSets, AreSets, empty_set, empty_list, directory_formed, static_values_formed}

-- ---- keys

-- the first order does not decide
rest_less : (a r : Ordering) → a ≡ Equal → ordering_then a r ≡ Less → r ≡ Less
rest_less Equal r e l = l
rest_less _ r e l = absurd cc

-- one class does not decide the order
same_class : (name s t : Text) → s ≡ name → t ≡ name → text_cmp s t ≡ Equal
same_class name s t e f = subst (λ (u : Text). text_cmp s u ≡ Equal) (e ∙ sym f) (tied_itself text_total s)

-- the index is greater than the one before, if there is one
abbrev IsAbove : Option ℕ → ℕ → Type 0
IsAbove None i = Unit {0}
IsAbove (Some last) i = last < i

-- the next index is greater
next_above : (last : Option ℕ) (d i : ℕ) → IsNextIndex last d i → IsAbove last i
next_above None d i h = tt
next_above (Some last) d i h = omega (arith, h.0, h.1)

-- and so is a greater index
above_later : (last : Option ℕ) (i j : ℕ) → IsAbove last i → i < j → IsAbove last j
above_later None i j h lt = tt
above_later (Some last) i j h lt = omega (arith, h)

-- a declared field has a row after the one before, and flags
fields_have : (b : List ℕ) (o : ℕ) (last : Option ℕ) (xs : List EncodedField) (n : ℕ) (x : EncodedField) → EncodedFieldsAt b o last xs n → Contains xs x → (i : ℕ) × IsAbove last i × FieldRow b i x.field × FitsUint x.flags
fields_have b o last [] n x h c = absurd (Contains-nil x c)
fields_have b o last (y ∷ xs) n x h c = elim (Contains-cons_cases y x xs c) [
  | inl e ↦ (h.4, next_above last h.3 h.4 h.7, subst (λ (z : EncodedField). FieldRow b h.4 z.field) e h.8, subst (λ (z : EncodedField). FitsUint z.flags) e h.6.spelled.in_range)
  | inr l ↦ let s = fields_have b (o + h.0 + h.1) (Some h.4) xs h.2 x h.9 l in (s.0, above_later last h.4 s.0 (next_above last h.3 h.4 h.7) s.1, s.2, s.3)
]

-- the same for a method
methods_have : (b : List ℕ) (o : ℕ) (last : Option ℕ) (xs : List EncodedMethod) (n : ℕ) (x : EncodedMethod) → EncodedMethodsAt b o last xs n → Contains xs x → (i : ℕ) × IsAbove last i × MethodRow b i x.method × FitsUint x.flags
methods_have b o last [] n x h c = absurd (Contains-nil x c)
methods_have b o last (y ∷ xs) n x h c = elim (Contains-cons_cases y x xs c) [
  | inl e ↦ (h.5, next_above last h.4 h.5 h.9, subst (λ (z : EncodedMethod). MethodRow b h.5 z.method) e h.10, subst (λ (z : EncodedMethod). FitsUint z.flags) e h.7.spelled.in_range)
  | inr l ↦ let s = methods_have b (o + h.0 + h.1 + h.2) (Some h.5) xs h.3 x h.11 l in (s.0, above_later last h.5 s.0 (next_above last h.4 h.5 h.9) s.1, s.2, s.3)
]

-- the order of the rows of members
pub record MembersRise (b : List ℕ) : Type 0 where
  pub fields : (i j : ℕ) (f g : Field) → i < j → FieldRow b i f → FieldRow b j g → field_cmp f g ≡ Less
  pub methods : (i j : ℕ) (f g : Method) → i < j → MethodRow b i f → MethodRow b j g → method_cmp f g ≡ Less

-- the rows of members rise
pub members_rise : (b : List ℕ) → AreStrings b → AreTypes b → AreProtos b → AreFields b → AreMethods b → MembersRise b
members_rise b strings types protos fields methods = record { fields = fields_rise b strings types fields; methods = methods_rise b strings types protos methods }

module _ (b : List ℕ) (rise : MembersRise b) (name : Text) (d : Directory) where
  -- the keys of fields of one class rise
  field_keys : (o : ℕ) (last : Option ℕ) (xs : List EncodedField) (n : ℕ) → EncodedFieldsAt b o last xs n → ((x : EncodedField) → Contains xs x → x.field.class ≡ name) → Rises field_key_cmp (map field_key (map (field_def d) xs))
  field_keys o last [] n h own = tt
  field_keys o last (x ∷ xs) n h own = (
    λ key c.
        let s = map_source field_key (map (field_def d) xs) key c in
        let t = map_source (field_def d) xs s.0 s.1 in
        let y = t.0 in
        let f = fields_have b (o + h.0 + h.1) (Some h.4) xs h.2 y h.9 t.1 in
        let less = rise.fields h.4 f.0 x.field y.field f.1 h.8 f.2 in
        let rest = rest_less (text_cmp x.field.class y.field.class) (field_key_cmp (x.field.name, x.field.type) (y.field.name, y.field.type)) (same_class name x.field.class y.field.class (own x (Contains-first x xs)) (own y (Contains-later x y xs t.1))) less in
        subst (λ (k : Text × Text). field_key_cmp (x.field.name, x.field.type) k ≡ Less) (ap field_key t.2 ∙ s.2) rest,
    field_keys (o + h.0 + h.1) (Some h.4) xs h.2 h.9 (λ y c. own y (Contains-later x y xs c)),
  )

  -- the key of a method is that of its encoded method
  made_key : (x : EncodedMethod) (m : MethodDef) → MakesMethod b d x m → (x.method.name, x.method.proto) ≡ method_key m
  made_key x m makes = λ i. (sym makes.name i, sym makes.proto i)

  -- the keys of methods of one class rise
  method_keys : (o : ℕ) (last : Option ℕ) (xs : List EncodedMethod) (ms : List MethodDef) (n : ℕ) → EncodedMethodsAt b o last xs n → ((x : EncodedMethod) → Contains xs x → x.method.class ≡ name) → AllZip (MakesMethod b d) xs ms → Rises method_key_cmp (map method_key ms)
  method_keys o last [] [] n h own made = tt
  method_keys o last (x ∷ xs) (m ∷ ms) n h own made = (
    λ key c.
        let s = map_source method_key ms key c in
        let t = zip_source (MakesMethod b d) xs ms s.0 made.1 s.1 in
        let y = t.0 in
        let f = methods_have b (o + h.0 + h.1 + h.2) (Some h.5) xs h.3 y h.11 t.1 in
        let less = rise.methods h.5 f.0 x.method y.method f.1 h.10 f.2 in
        let rest = rest_less (text_cmp x.method.class y.method.class) (method_key_cmp (x.method.name, x.method.proto) (y.method.name, y.method.proto)) (same_class name x.method.class y.method.class (own x (Contains-first x xs)) (own y (Contains-later x y xs t.1))) less in
        subst (λ (k : Text × Proto). method_key_cmp k key ≡ Less) (made_key x m made.0) (subst (λ (k : Text × Proto). method_key_cmp (x.method.name, x.method.proto) k ≡ Less) (made_key y s.0 t.2 ∙ s.2) rest),
    method_keys (o + h.0 + h.1 + h.2) (Some h.5) xs ms h.3 h.11 (λ y c. own y (Contains-later x y xs c)) made.1,
  )
  method_keys o last _ _ n h own made = absurd made

-- the properties of the class data of a class
record DataFormed (b : List ℕ) (name : Text) (d : ClassData) : Type 0 where
  field : (x : EncodedField) → Contains (fields_of d) x → (i : ℕ) × FieldRow b i x.field × FitsUint x.flags
  method : (x : EncodedMethod) → Contains (methods_of d) x → (i : ℕ) × MethodRow b i x.method × FitsUint x.flags
  static_count : FitsUint (length d.static_fields)
  instance_count : FitsUint (length d.instance_fields)
  direct_count : FitsUint (length d.direct_methods)
  virtual_count : FitsUint (length d.virtual_methods)
  static_rise : (a : Directory) → ((x : EncodedField) → Contains d.static_fields x → x.field.class ≡ name) → Rises field_key_cmp (map field_key (map (field_def a) d.static_fields))
  instance_rise : (a : Directory) → ((x : EncodedField) → Contains d.instance_fields x → x.field.class ≡ name) → Rises field_key_cmp (map field_key (map (field_def a) d.instance_fields))
  direct_rise : (a : Directory) (ms : List MethodDef) → ((x : EncodedMethod) → Contains d.direct_methods x → x.method.class ≡ name) → AllZip (MakesMethod b a) d.direct_methods ms → Rises method_key_cmp (map method_key ms)
  virtual_rise : (a : Directory) (ms : List MethodDef) → ((x : EncodedMethod) → Contains d.virtual_methods x → x.method.class ≡ name) → AllZip (MakesMethod b a) d.virtual_methods ms → Rises method_key_cmp (map method_key ms)

-- no methods have no keys
no_method_keys : (b : List ℕ) (a : Directory) (ms : List MethodDef) → AllZip (MakesMethod b a) [] ms → Rises method_key_cmp (map method_key ms)
no_method_keys b a [] h = tt
no_method_keys b a (m ∷ ms) h = absurd h

-- class data has these properties
data_formed : (b : List ℕ) → MembersRise b → (name : Text) (o : ℕ) (d : ClassData) → OrNone ClassDataAt no_class_data b o d → DataFormed b name d
data_formed b rise name o d (inl h) = subst (DataFormed b name) (sym h.1) (record {
  field = λ x c. absurd (Contains-nil x c);
  method = λ x c. absurd (Contains-nil x c);
  static_count = omega arith;
  instance_count = omega arith;
  direct_count = omega arith;
  virtual_count = omega arith;
  static_rise = λ a own. tt;
  instance_rise = λ a own. tt;
  direct_rise = λ a ms own made. no_method_keys b a ms made;
  virtual_rise = λ a ms own made. no_method_keys b a ms made;
})
data_formed b rise name o d (inr h) =
    let is = h.1 in
    let p = o + is.counts_bytes in
    record {
      field = λ x c. elim (Contains-append_cases d.static_fields d.instance_fields x c) [
        | inl l ↦ let s = fields_have b p None d.static_fields is.static_fields_bytes x is.static_fields l in (s.0, s.2, s.3)
        | inr l ↦ let s = fields_have b (p + is.static_fields_bytes) None d.instance_fields is.instance_fields_bytes x is.instance_fields l in (s.0, s.2, s.3)
      ];
      method = λ x c. elim (Contains-append_cases d.direct_methods d.virtual_methods x c) [
        | inl l ↦ let s = methods_have b (p + is.static_fields_bytes + is.instance_fields_bytes) None d.direct_methods is.direct_methods_bytes x is.direct_methods l in (s.0, s.2, s.3)
        | inr l ↦ let s = methods_have b (p + is.static_fields_bytes + is.instance_fields_bytes + is.direct_methods_bytes) None d.virtual_methods is.virtual_methods_bytes x is.virtual_methods l in (s.0, s.2, s.3)
      ];
      static_count = is.counts.2.spelled.in_range;
      instance_count = is.counts.3.2.spelled.in_range;
      direct_count = is.counts.3.3.2.spelled.in_range;
      virtual_count = is.counts.3.3.3.2.spelled.in_range;
      static_rise = λ a own. field_keys b rise name a p None d.static_fields is.static_fields_bytes is.static_fields own;
      instance_rise = λ a own. field_keys b rise name a (p + is.static_fields_bytes) None d.instance_fields is.instance_fields_bytes is.instance_fields own;
      direct_rise = λ a ms own made. method_keys b rise name a (p + is.static_fields_bytes + is.instance_fields_bytes) None d.direct_methods ms is.direct_methods_bytes is.direct_methods own made;
      virtual_rise = λ a ms own made. method_keys b rise name a (p + is.static_fields_bytes + is.instance_fields_bytes + is.direct_methods_bytes) None d.virtual_methods ms is.virtual_methods_bytes is.virtual_methods own made;
    }

-- ---- members

-- a declared field is well formed
field_formed : (b : List ℕ) (d : Directory) (x : EncodedField) → HasSets d → (i : ℕ) × FieldRow b i x.field × FitsUint x.flags → IsFieldDef (field_def d x)
field_formed b d x sets has = record {
  name = has.1.formed.name;
  type = has.1.formed.type;
  flags = has.2;
  annotations = annotated_source field_cmp x.field IsSet d.fields empty_set sets.fields;
}

-- a declared method is well formed, if its code is
method_formed : (b : List ℕ) (d : Directory) (x : EncodedMethod) (m : MethodDef) → HasSets d → (i : ℕ) × MethodRow b i x.method × FitsUint x.flags → MakesMethod b d x m → IfSome m.code IsCodeItem → IsMethodDef m
method_formed b d x m sets has makes code =
    let lists = subst AreSets (sym makes.parameter_annotations) (annotated_source method_cmp x.method AreSets d.parameters empty_list sets.parameters) in
    record {
      name = subst IsMemberName (sym makes.name) has.1.formed.name;
      proto = subst IsProto (sym makes.proto) has.1.formed.proto;
      flags = omega (arith, makes.flags, has.2);
      code = code;
      annotations = subst IsSet (sym makes.annotations) (annotated_source method_cmp x.method IsSet d.methods empty_set sets.methods);
      parameters = lists.sets;
      parameters_count = lists.count;
    }

-- lists without common members have no common keys
keys_apart : {X Y K : Type 0} (f : X → Y) (k : X → K) (xs ys : List X) → ShareNone (map f xs) (map f ys) → ((x y : X) → Contains xs x → Contains ys y → k x ≡ k y → f x ≡ f y) → ShareNone (map k xs) (map k ys)
keys_apart f k xs ys apart same key c d =
    let s = map_source k xs key c in
    let t = map_source k ys key d in
    apart (f s.0) (Contains-map f xs s.0 s.1) (subst (Contains (map f ys)) (sym (same s.0 t.0 s.1 t.1 (s.2 ∙ sym t.2))) (Contains-map f ys t.0 t.1))

-- the key of a declared field among those of its class
abbrev encoded_field_key : EncodedField → Text × Text
encoded_field_key x = (x.field.name, x.field.type)

-- the key of a declared method among those of its class
abbrev encoded_method_key : EncodedMethod → Text × Proto
encoded_method_key x = (x.method.name, x.method.proto)

-- two maps in sequence
map_map : {X Y Z : Type 0} (f : Y → Z) (g : X → Y) (xs : List X) → map f (map g xs) ≡ map (λ x. f (g x)) xs
map_map f g [] = refl
map_map f g (x ∷ xs) = ap (λ zs. f (g x) ∷ zs) (map_map f g xs)

-- the keys of methods are those of their encoded methods
made_keys : (b : List ℕ) (d : Directory) (xs : List EncodedMethod) (ms : List MethodDef) → AllZip (MakesMethod b d) xs ms → map method_key ms ≡ map encoded_method_key xs
made_keys b d [] [] h = refl
made_keys b d (x ∷ xs) (m ∷ ms) h = λ i. (h.0.name i, h.0.proto i) ∷ made_keys b d xs ms h.1 i
made_keys b d _ _ h = absurd h

-- ---- class rows

-- the definition of a class row is well formed if the code of its methods is
pub row_formed : (b : List ℕ) → All (λ byte. byte < 256) b → HasFewRows b → MembersRise b → (r : ℕ) (name : Text) (c : Body) → ClassRow b r name c → HasMembers b r → HasValues b r → ((m : MethodDef) → Contains (declared_methods c) m → IfSome m.code IsCodeItem) → IsWellFormed (name, c)
row_formed b bytes few rise r name c h members values code =
    let rows = row_symbols b few r name c h members in
    let own = row_members b few r name c h members in
    let sets = directory_formed b bytes (annotations_off b r) h.directory h.directory_is in
    let formed = data_formed b rise name (class_data_off b r) h.members h.members_are in
    let statics = h.members.static_fields in
    let instances = h.members.instance_fields in
    let directs = h.members.direct_methods in
    let virtuals = h.members.virtual_methods in
    let field_own = λ (x : EncodedField) (m : Contains (fields_of h.members) x). All-contains (λ (y : EncodedField). y.field.class ≡ name) (fields_of h.members) x own.fields m in
    let method_own = λ (x : EncodedMethod) (m : Contains (methods_of h.members) x). All-contains (λ (y : EncodedMethod). y.method.class ≡ name) (methods_of h.members) x own.methods m in
    let static_values = static_values_formed b bytes (static_values_off b r) c.static_values h.static_values in
    let declares : Declares b r h.members = record { name = name; class = h.class; is = h.members_are; own = own } in
    let listed = values h.members declares in
    let same_values : listed.0 ≡ c.static_values = one_or_none StaticValuesAt NoValues b (static_values_off b r) listed.0 c.static_values (λ s t. (one_array b (static_values_off b r) listed.0 c.static_values s.0 t.0 s.1.array t.1.array).0) listed.1 h.static_values in
    let static_length : length c.static_fields ≡ length statics = ap length h.static_fields ∙ length-map statics (field_def h.directory) in
    let instance_length : length c.instance_fields ≡ length instances = ap length h.instance_fields ∙ length-map instances (field_def h.directory) in
    let static_keys : map field_key c.static_fields ≡ map encoded_field_key statics = ap (map field_key) h.static_fields ∙ map_map field_key (field_def h.directory) statics in
    let instance_keys : map field_key c.instance_fields ≡ map encoded_field_key instances = ap (map field_key) h.instance_fields ∙ map_map field_key (field_def h.directory) instances in
    let direct_keys = made_keys b h.directory directs c.direct_methods h.direct_methods in
    let virtual_keys = made_keys b h.directory virtuals c.virtual_methods h.virtual_methods in
    let made_field = λ (f : FieldDef) (x : EncodedField) (e : field_def h.directory x ≡ f) (m : Contains (fields_of h.members) x). subst IsFieldDef e (field_formed b h.directory x sets (formed.field x m)) in
    let made_method = λ (k : MethodDef) (x : EncodedMethod) (makes : MakesMethod b h.directory x k) (m : Contains (methods_of h.members) x) (item : IfSome k.code IsCodeItem). method_formed b h.directory x k sets (formed.method x m) makes item in
    let fields_apart : ShareNone (map encoded_field_key statics) (map encoded_field_key instances) = keys_apart (λ (x : EncodedField). x.field) encoded_field_key statics instances own.fields_apart (λ x y s t e.
    let same_class_of : x.field.class ≡ y.field.class = field_own x (Contains-append_left statics instances x s) ∙ sym (field_own y (Contains-append_right statics instances y t)) in
    λ i. record { class = same_class_of i; name = (e i).0; type = (e i).1 }) in
    let methods_apart : ShareNone (map encoded_method_key directs) (map encoded_method_key virtuals) = keys_apart (λ (x : EncodedMethod). x.method) encoded_method_key directs virtuals own.methods_apart (λ x y s t e.
    let same_class_of : x.method.class ≡ y.method.class = method_own x (Contains-append_left directs virtuals x s) ∙ sym (method_own y (Contains-append_right directs virtuals y t)) in
    λ i. record { class = same_class_of i; name = (e i).0; proto = (e i).1 }) in
    record {
      name = h.class.class;
      superclass = superclass_formed b (superclass_idx b r) c.superclass h.superclass;
      interfaces = interfaces_formed b (interfaces_off b r) c.interfaces h.interfaces;
      interfaces_count = interfaces_few b (interfaces_off b r) c.interfaces bytes h.interfaces;
      flags = omega (arith, h.flags, uint_bound b (row_at b ClassDefs r + 4) bytes);
      annotations = subst IsSet (sym h.annotations) sets.own;
      fields = all_from IsFieldDef (declared_fields c) (λ f m. elim (Contains-append_cases c.static_fields c.instance_fields f m) [
        | inl l ↦
            let w = map_source (field_def h.directory) statics f (subst (λ (fs : List FieldDef). Contains fs f) h.static_fields l) in
            made_field f w.0 w.2 (Contains-append_left statics instances w.0 w.1)
        | inr l ↦
            let w = map_source (field_def h.directory) instances f (subst (λ (fs : List FieldDef). Contains fs f) h.instance_fields l) in
            made_field f w.0 w.2 (Contains-append_right statics instances w.0 w.1)
      ]);
      methods = all_from IsMethodDef (declared_methods c) (λ k m. elim (Contains-append_cases c.direct_methods c.virtual_methods k m) [
        | inl l ↦ let w = zip_source (MakesMethod b h.directory) directs c.direct_methods k h.direct_methods l in made_method k w.0 w.2 (Contains-append_left directs virtuals w.0 w.1) (code k m)
        | inr l ↦ let w = zip_source (MakesMethod b h.directory) virtuals c.virtual_methods k h.virtual_methods l in made_method k w.0 w.2 (Contains-append_right directs virtuals w.0 w.1) (code k m)
      ]);
      static_fields_count = omega (arith, static_length, formed.static_count);
      instance_fields_count = omega (arith, instance_length, formed.instance_count);
      direct_methods_count = omega (arith, length-zip (MakesMethod b h.directory) directs c.direct_methods h.direct_methods, formed.direct_count);
      virtual_methods_count = omega (arith, length-zip (MakesMethod b h.directory) virtuals c.virtual_methods h.virtual_methods, formed.virtual_count);
      static_fields = rises-from_Rises field_key_cmp (map field_key c.static_fields) (subst (λ (fs : List FieldDef). Rises field_key_cmp (map field_key fs)) (sym h.static_fields) (formed.static_rise h.directory (λ x m. field_own x (Contains-append_left statics instances x m))));
      instance_fields = rises-from_Rises field_key_cmp (map field_key c.instance_fields) (subst (λ (fs : List FieldDef). Rises field_key_cmp (map field_key fs)) (sym h.instance_fields) (formed.instance_rise h.directory (λ x m. field_own x (Contains-append_right statics instances x m))));
      fields_apart = subst (λ (ks : List (Text × Text)). ShareNone ks (map field_key c.instance_fields)) (sym static_keys) (subst (λ (ks : List (Text × Text)). ShareNone (map encoded_field_key statics) ks) (sym instance_keys) fields_apart);
      direct_methods = rises-from_Rises method_key_cmp (map method_key c.direct_methods) (formed.direct_rise h.directory c.direct_methods (λ x m. method_own x (Contains-append_left directs virtuals x m)) h.direct_methods);
      virtual_methods = rises-from_Rises method_key_cmp (map method_key c.virtual_methods) (formed.virtual_rise h.directory c.virtual_methods (λ x m. method_own x (Contains-append_right directs virtuals x m)) h.virtual_methods);
      methods_apart = subst (λ (ks : List (Text × Proto)). ShareNone ks (map method_key c.virtual_methods)) (sym direct_keys) (subst (λ (ks : List (Text × Proto)). ShareNone (map encoded_method_key directs) ks) (sym virtual_keys) methods_apart);
      static_values = static_values.0;
      shallow = static_values.1;
      few_values = omega (arith, listed.2, static_length, ap count_values same_values);
      symbols = symbols_formed b (symbols_of (name, c)) rows;
      texts = texts_formed b (symbols_of (name, c)) rows;
    }
