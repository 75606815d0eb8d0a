-- The symbols of the pools of a file with this layout are in the rows of their ranks.
use Rattle.dexspec.proofs.Common.{◌≡◌, ℕ, ◌+◌, ◌%◌, ◌^◌, ◌<◌, ◌≤◌, ◌/◌, List, [], ◌∷◌, ◌++◌, drop, length, get_or, map, refl, sym, ap, subst, ◌∙◌, arith, inl, inr, ◌==◌, if◌then◌else◌, nat_lt, cond_both, All, AllZip, Contains, length-drop, length-append, Contains-get_or, Mentions}
use Rattle.dexspec.specs.{OrNone, uint_at, BytesAt, BeginsWith, uleb128, Text, text_cmp, AreUnits, form, spelling, string_data, IsStringData, IsDescriptor, IsValueType, shorty, Proto, Field, Method, proto_cmp, field_cmp, method_cmp, IsField, IsMethod, StringIds, TypeIds, ProtoIds, FieldIds, MethodIds, row_at, StringRow, TypeRow, TypeListAt, ProtoRow, FieldRow, MethodRow, text_index, type_index, proto_index, field_index, method_index, type_list_bytes, Ordered, unless_empty}
use Rattle.dexspec.proofs.written.PlacedBytes.{is_at_within}
use Rattle.dexspec.proofs.lists.{Contains-first, Contains-later, Rises, rank-place}
use Rattle.dexspec.proofs.merge.SymbolOrders.{text_total, proto_total, field_total, method_total}
use Rattle.dexspec.proofs.determined.OneText.{string_data_is}
use Rattle.dexspec.proofs.layout.SectionPlaces.{Laid, ItemIsAt}
use Rattle.dexspec.proofs.layout.HeaderLaws.{AreFew}
use Rattle.dexspec.proofs.layout.Uses.{UseIsAt}
use Rattle.dexspec.proofs.layout.RowsRead.{text_encoded, type_read, ProtoRead, FieldRead, MethodRead, proto_read, field_read, method_read, type_list_indices, type_list_within}

-- each pool rises, has the parts of its symbols, and has well-formed symbols
pub record ArePools (m : Mentions) : Type 0 where
  pub texts_rise : Rises text_cmp m.texts
  pub types_rise : Rises text_cmp m.types
  pub protos_rise : Rises proto_cmp m.protos
  pub fields_rise : Rises field_cmp m.fields
  pub methods_rise : Rises method_cmp m.methods
  pub units : (s : Text) → Contains m.texts s → AreUnits s
  pub type_text : (t : Text) → Contains m.types t → Contains m.texts t
  pub descriptor : (t : Text) → Contains m.types t → IsDescriptor t
  pub proto_shorty : (p : Proto) → Contains m.protos p → Contains m.texts (shorty p.return_type p.parameters)
  pub proto_return : (p : Proto) → Contains m.protos p → Contains m.types p.return_type
  pub proto_parameter : (p : Proto) (t : Text) → Contains m.protos p → Contains p.parameters t → Contains m.types t
  pub proto_values : (p : Proto) → Contains m.protos p → All IsValueType p.parameters
  pub field_class : (f : Field) → Contains m.fields f → Contains m.types f.class
  pub field_type : (f : Field) → Contains m.fields f → Contains m.types f.type
  pub field_name : (f : Field) → Contains m.fields f → Contains m.texts f.name
  pub field_formed : (f : Field) → Contains m.fields f → IsField f
  pub method_class : (x : Method) → Contains m.methods x → Contains m.types x.class
  pub method_proto : (x : Method) → Contains m.methods x → Contains m.protos x.proto
  pub method_name : (x : Method) → Contains m.methods x → Contains m.texts x.name
  pub method_formed : (x : Method) → Contains m.methods x → IsMethod x

-- bytes at an offset are a prefix there
pub begins_with : {V : Type 0} (Says : List ℕ → V → Type 0) (b : List ℕ) (o : ℕ) (x : List ℕ) (v : V) → BytesAt b o x → Says x v → BeginsWith Says (drop o b) v (length x)
begins_with Says b o x v h says = record { within = omega (arith, is_at_within h, length-drop o b); spelled = subst (λ y. Says y v) (sym h.here) says }

-- a unit has bytes
form_some : (u : ℕ) → 0 < length (form u)
form_some u =
    let P : List ℕ → Type 0 = λ x. 0 < length x in
    cond_both (u == 0) (0xc0 ∷ 0x80 ∷ []) (if nat_lt u 0x80 then u ∷ [] else (if nat_lt u 0x800 then (0xc0 + u / 64) ∷ (0x80 + u % 64) ∷ [] else (0xe0 + u / 4096) ∷ (0x80 + u / 64 % 64) ∷ (0x80 + u % 64) ∷ [])) P (λ e. omega arith)
    (λ e. cond_both (nat_lt u 0x80) (u ∷ []) (if nat_lt u 0x800 then (0xc0 + u / 64) ∷ (0x80 + u % 64) ∷ [] else (0xe0 + u / 4096) ∷ (0x80 + u / 64 % 64) ∷ (0x80 + u % 64) ∷ []) P (λ e. omega arith)
    (λ e. cond_both (nat_lt u 0x800) ((0xc0 + u / 64) ∷ (0x80 + u % 64) ∷ []) ((0xe0 + u / 4096) ∷ (0x80 + u / 64 % 64) ∷ (0x80 + u % 64) ∷ []) P (λ e. omega arith) (λ e. omega arith)))

-- a text has at most as many units as bytes
pub spelling_le : (s : Text) → length s ≤ length (spelling s)
spelling_le [] = omega arith
spelling_le (u ∷ s) = omega (arith, form_some u, spelling_le s, length-append (form u) (spelling s))

-- the indices of symbols denote the symbols
named_zip : (R : ℕ → Text → Type 0) (f : Text → ℕ) (ts : List Text) → ((t : Text) → Contains ts t → R (f t) t) → AllZip R (map f ts) ts
named_zip R f [] h = tt
named_zip R f (t ∷ ts) h = (h t (Contains-first t ts), named_zip R f ts (λ u c. h u (Contains-later t u ts c)))

module _ {K : Ordered} {b : List ℕ} (h : Laid K b) (few : AreFew K) (p : ArePools K.pools) where
  -- row i is the i-th text
  pub text_row_at : (i : ℕ) (d : Text) → i < length K.pools.texts → StringRow b i (get_or K.pools.texts i d)
  text_row_at i d lt =
      let s = get_or K.pools.texts i d in
      let item = text_encoded h i d lt in
      let short : length s < 2 ^ 32 = omega (arith, spelling_le s, item.in_data.within, h.small, length-append (uleb128 (length s)) (spelling s ++ 0 ∷ []), length-append (spelling s) (0 ∷ [])) in
      record {
        row = omega (arith, lt, h.count StringIds);
        in_data = item.in_data.following;
        encodes = (length (string_data s), begins_with IsStringData b (uint_at b (row_at b StringIds i)) (string_data s) s item.encodes (string_data_is s (p.units s (Contains-get_or K.pools.texts i d lt)) short));
      }

  -- a text is in the row of its index
  pub text_row : (s : Text) → Contains K.pools.texts s → StringRow b (text_index K.pools s) s
  text_row s c =
      let at = rank-place text_cmp text_total K.pools.texts s s p.texts_rise c in
      subst (StringRow b (text_index K.pools s)) at.1 (text_row_at (text_index K.pools s) s at.0)

  -- a type is in the row of its index
  pub type_row : (t : Text) → Contains K.pools.types t → TypeRow b (type_index K.pools t) t
  type_row t c =
      let i = type_index K.pools t in
      let at = rank-place text_cmp text_total K.pools.types t t p.types_rise c in
      let is : uint_at b (row_at b TypeIds i) ≡ text_index K.pools t = type_read h i t at.0 ∙ ap (text_index K.pools) at.1 in
      record {
        row = omega (arith, at.0, h.count TypeIds);
        text = subst (λ n. StringRow b n t) (sym is) (text_row t (p.type_text t c));
        descriptor = p.descriptor t c;
      }

  -- a list of types is at the offset of its use
  pub type_list_at : (ts : List Text) (o : ℕ) → ((t : Text) → Contains ts t → Contains K.pools.types t) → ItemIsAt b 4 o (type_list_bytes K.pools ts) → TypeListAt b o ts
  type_list_at ts o among s = record {
    in_data = type_list_within h few ts s;
    aligned = s.multiple;
    types = subst (λ is. AllZip (TypeRow b) is ts) (sym (type_list_indices h few ts s)) (named_zip (TypeRow b) (type_index K.pools) ts (λ t c. type_row t (among t c)));
  }

  -- an empty list of types has offset 0
  pub type_list_or_none : (ts : List Text) (o : ℕ) → ((t : Text) → Contains ts t → Contains K.pools.types t) → UseIsAt b 4 (type_list_bytes K.pools) (unless_empty ts) o → OrNone TypeListAt [] b o ts
  type_list_or_none [] o among s = inl (s, refl)
  type_list_or_none (t ∷ ts) o among s = inr (s.some, type_list_at (t ∷ ts) o among s)

  -- a proto is in the row of its index
  pub proto_row : (q : Proto) → Contains K.pools.protos q → ProtoRow b (proto_index K.pools q) q
  proto_row q c =
      let i = proto_index K.pools q in
      let at = rank-place proto_cmp proto_total K.pools.protos q q p.protos_rise c in
      let r = subst (ProtoRead K b i) at.1 (proto_read h i q at.0) in
      record {
        row = omega (arith, at.0, h.count ProtoIds);
        shorty = subst (λ n. StringRow b n (shorty q.return_type q.parameters)) (sym r.shorty_is) (text_row (shorty q.return_type q.parameters) (p.proto_shorty q c));
        return_type = subst (λ n. TypeRow b n q.return_type) (sym r.return_is) (type_row q.return_type (p.proto_return q c));
        parameters = type_list_or_none q.parameters (uint_at b (row_at b ProtoIds i + 8)) (λ t d. p.proto_parameter q t c d) r.parameters_are;
        values = p.proto_values q c;
      }

  -- a field is in the row of its index
  pub field_row : (f : Field) → Contains K.pools.fields f → FieldRow b (field_index K.pools f) f
  field_row f c =
      let i = field_index K.pools f in
      let at = rank-place field_cmp field_total K.pools.fields f f p.fields_rise c in
      let r = subst (FieldRead K b i) at.1 (field_read h few i f at.0) in
      record {
        row = omega (arith, at.0, h.count FieldIds);
        class = subst (λ n. TypeRow b n f.class) (sym r.class_is) (type_row f.class (p.field_class f c));
        type = subst (λ n. TypeRow b n f.type) (sym r.type_is) (type_row f.type (p.field_type f c));
        name = subst (λ n. StringRow b n f.name) (sym r.name_is) (text_row f.name (p.field_name f c));
        formed = p.field_formed f c;
      }

  -- a method is in the row of its index
  pub method_row : (x : Method) → Contains K.pools.methods x → MethodRow b (method_index K.pools x) x
  method_row x c =
      let i = method_index K.pools x in
      let at = rank-place method_cmp method_total K.pools.methods x x p.methods_rise c in
      let r = subst (MethodRead K b i) at.1 (method_read h few i x at.0) in
      record {
        row = omega (arith, at.0, h.count MethodIds);
        class = subst (λ n. TypeRow b n x.class) (sym r.class_is) (type_row x.class (p.method_class x c));
        proto = subst (λ n. ProtoRow b n x.proto) (sym r.proto_is) (proto_row x.proto (p.method_proto x c));
        name = subst (λ n. StringRow b n x.name) (sym r.name_is) (text_row x.name (p.method_name x c));
        formed = p.method_formed x c;
      }
