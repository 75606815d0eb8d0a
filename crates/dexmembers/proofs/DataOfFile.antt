-- Class data by numbers is that of the file.
use Rattle.dexmembers.proofs.Common.{◌≡◌, ◌≢◌, ℕ, ◌+◌, ◌^◌, ◌<◌, ◌≤◌, List, [], ◌∷◌, length, map, get_or, Option, Some, None, refl, ap, sym, ◌∙◌, subst, arith, inl, inr, All, Result, Ok, Err, IfOk, IfErr, Contains, length-map, All-head, All-tail, All-map, All-contains, All-append, Sequence, Uleb128At, Text, Field, Method, field_cmp, method_cmp, FieldIds, MethodIds, table_size, data_off, EncodedFieldsAt, EncodedMethodsAt, ClassDataAt, ShareNone, BelongTo, ClassTypeRow, class_idx, class_data_off, Mentions, IsFrame, HasClass, one_type, one_field, one_method, Contains-map, Contains-map_source, field_total, method_total, ItemFault, Refused, Memory, ArePools, IsAt, IsNumbering, field_at, method_at, all_prefix, all_back}
use Rattle.dexspec.specs.Sections.{IsInData}
use Rattle.dexspec.specs.ClassData as items
use Rattle.dexspec.specs.Accepted.{HasMembers}
use Rattle.dexhead.proofs.Frames.{row_within}
use Rattle.dexval.proofs.FileRead.{few_bytes}
use Rattle.dexmembers.specs.declared.class_data.EncodedField.{EncodedField}
use Rattle.dexmembers.specs.declared.class_data.EncodedMethod.{EncodedMethod}
use Rattle.dexmembers.specs.declared.class_data.ClassData.{ClassData}
use Rattle.dexmembers.specs.internal.ClassData.{encoded_field_in, encoded_method_in, class_data_in, IsDataOf, IsDataFault}
use Rattle.dexmembers.specs.internal.EncodedMembers.{IsDataRefusal, Chain, FieldAt, MethodAt, IsOwnField, IsOwnMethod, DataAt, NoData}
use Rattle.dexmembers.proofs.Owned.{one_place}
use Rattle.dexmembers.proofs.MemberChains.{chain_all, chain_rises}
use Rattle.dexmembers.proofs.OneMember.{field_follows, method_follows}

-- ---- lists that share none, by numbers and by symbols

module _ {X E S : Type 0} (enc : X → E) (symbol : E → S) (index : X → ℕ) (at : ℕ → S) (is : (x : X) → symbol (enc x) ≡ at (index x)) where
  -- where numbers are those of different symbols
  pub apart_symbols : (P : ℕ → Type 0) → ((i j : ℕ) → P i → P j → at i ≡ at j → i ≡ j) → (xs ys : List X) → All (λ x. P (index x)) xs → All (λ x. P (index x)) ys → ShareNone (map index xs) (map index ys) → ShareNone (map symbol (map enc xs)) (map symbol (map enc ys))
  apart_symbols P one xs ys all_x all_y none s in_x in_y =
      let u = Contains-map_source symbol (map enc xs) s in_x in
      let v = Contains-map_source enc xs u.0 u.1 in
      let w = Contains-map_source symbol (map enc ys) s in_y in
      let z = Contains-map_source enc ys w.0 w.1 in
      let first : at (index v.0) ≡ s = sym (is v.0) ∙ ap symbol v.2 ∙ u.2 in
      let second : at (index z.0) ≡ s = sym (is z.0) ∙ ap symbol z.2 ∙ w.2 in
      let same = one (index v.0) (index z.0) (All-contains (λ x. P (index x)) xs v.0 all_x v.1) (All-contains (λ x. P (index x)) ys z.0 all_y z.1) (first ∙ sym second) in
      none (index v.0) (Contains-map index xs v.0 v.1) (subst (Contains (map index ys)) (sym same) (Contains-map index ys z.0 z.1))

  -- and back
  pub apart_numbers : (xs ys : List X) → ShareNone (map symbol (map enc xs)) (map symbol (map enc ys)) → ShareNone (map index xs) (map index ys)
  apart_numbers xs ys none i in_x in_y =
      let u = Contains-map_source index xs i in_x in
      let w = Contains-map_source index ys i in_y in
      let first : symbol (enc u.0) ≡ at i = is u.0 ∙ ap at u.2 in
      let second : symbol (enc w.0) ≡ at i = is w.0 ∙ ap at w.2 in
      none (at i) (subst (Contains (map symbol (map enc xs))) first (Contains-map symbol (map enc xs) (enc u.0) (Contains-map enc xs u.0 u.1)))
      (subst (Contains (map symbol (map enc ys))) second (Contains-map symbol (map enc ys) (enc w.0) (Contains-map enc ys w.0 w.1)))

-- ---- members of the file

module _ (b : List ℕ) (m : Mentions) (pools : ArePools b m) (class : ℕ) (name : Text) (at : IsAt m.types class name) where
  -- a type of the class is named so
  named : (t : Text) → IsAt m.types class t → t ≡ name
  named t h = sym (h.is t) ∙ at.is t

  -- fields by numbers are fields of the file
  pub fields_to_file : (o : ℕ) (last : Option ℕ) (fs : List EncodedField) (n : ℕ) → Chain (FieldAt m class) (λ f. f.index) b o last fs n → EncodedFieldsAt b o last (map (encoded_field_in m) fs) n
  fields_to_file o last [] n h = h
  fields_to_file o last (f ∷ fs) n h =
      let x = h.2 in
      let lt : f.index < table_size b FieldIds = omega (arith, x.own.within, pools.fields_are.count) in
      let head = x.head_is in
      let place : o + h.0 ≡ o + head.index_size + head.flags_size = omega (arith, head.size) in
      let rest = subst (λ (p : ℕ). EncodedFieldsAt b p (Some f.index) (map (encoded_field_in m) fs) h.1) place (fields_to_file (o + h.0) (Some f.index) fs h.1 h.3) in
      (head.index_size, head.flags_size, h.1, head.difference, f.index, head.difference_is, head.flags_is, head.next, pools.fields_are.each f.index _ lt, rest, omega (arith, h.4, head.size))

  -- methods
  pub methods_to_file : (o : ℕ) (last : Option ℕ) (xs : List EncodedMethod) (n : ℕ) → Chain (MethodAt m class) (λ x. x.index) b o last xs n → EncodedMethodsAt b o last (map (encoded_method_in m) xs) n
  methods_to_file o last [] n h = h
  methods_to_file o last (f ∷ fs) n h =
      let x = h.2 in
      let lt : f.index < table_size b MethodIds = omega (arith, x.own.within, pools.methods_are.count) in
      let head = x.head_is in
      let place : o + h.0 ≡ o + head.index_size + head.flags_size + x.code_size = omega (arith, head.size, x.size) in
      let code_place : o + x.head_size ≡ o + head.index_size + head.flags_size = omega (arith, head.size) in
      let code_is = subst (λ (p : ℕ). Uleb128At b p f.code_off x.code_size) code_place x.code_is in
      let rest = subst (λ (p : ℕ). EncodedMethodsAt b p (Some f.index) (map (encoded_method_in m) fs) h.1) place (methods_to_file (o + h.0) (Some f.index) fs h.1 h.3) in
      (head.index_size, head.flags_size, x.code_size, h.1, head.difference, f.index, head.difference_is, head.flags_is, code_is, head.next, pools.methods_are.each f.index _ lt, rest, omega (arith, h.4, head.size, x.size))

  -- fields of the file, if they are those of the class, are fields by numbers
  pub fields_of_file : ((i : ℕ) → i < table_size b FieldIds → i < 2 ^ 32) → (o : ℕ) (last : Option ℕ) (es : List items.EncodedField) (n : ℕ) → EncodedFieldsAt b o last es n → All (λ e. e.field.class ≡ name) es
      → (fs : List EncodedField) × (map (encoded_field_in m) fs ≡ es) × Chain (FieldAt m class) (λ f. f.index) b o last fs n
  fields_of_file few o last [] n h own = ([], refl, h)
  fields_of_file few o last (e ∷ es) n h own =
      let lt : h.4 < table_size b FieldIds = h.8.row in
      let within : h.4 < length m.fields = omega (arith, lt, pools.fields_are.count) in
      let is : field_at m h.4 ≡ e.field = one_field b h.4 (field_at m h.4) e.field (pools.fields_are.each h.4 _ lt) h.8 in
      let of : (field_at m h.4).class ≡ name = ap (λ (f : Field). f.class) is ∙ All-head (λ (e : items.EncodedField). e.field.class ≡ name) e es own in
      let rest = fields_of_file few (o + h.0 + h.1) (Some h.4) es h.2 h.9 (All-tail (λ (e : items.EncodedField). e.field.class ≡ name) e es own) in
      let place : o + h.0 + h.1 ≡ o + (h.0 + h.1) = omega arith in (
        record { index = h.4; flags = e.flags } ∷ rest.0,
        (λ i. record { field = is i; flags = e.flags } ∷ rest.1 i),
        (
          h.0 + h.1,
          h.2,
          record {
            head_is = record { difference = h.3; index_size = h.0; flags_size = h.1; difference_is = h.5; next = h.7; flags_is = h.6; size = refl };
            own = record { short = few h.4 lt; within = within; class_is = subst (IsAt m.types class) (sym of) at };
          },
          subst (λ (p : ℕ). Chain (FieldAt m class) (λ f. f.index) b p (Some h.4) rest.0 h.2) place rest.2,
          omega (arith, h.10),
        ),
      )

  -- methods too
  pub methods_of_file : ((i : ℕ) → i < table_size b MethodIds → i < 2 ^ 32) → (o : ℕ) (last : Option ℕ) (es : List items.EncodedMethod) (n : ℕ) → EncodedMethodsAt b o last es n → All (λ e. e.method.class ≡ name) es
      → (xs : List EncodedMethod) × (map (encoded_method_in m) xs ≡ es) × Chain (MethodAt m class) (λ x. x.index) b o last xs n
  methods_of_file few o last [] n h own = ([], refl, h)
  methods_of_file few o last (e ∷ es) n h own =
      let lt : h.5 < table_size b MethodIds = h.10.row in
      let within : h.5 < length m.methods = omega (arith, lt, pools.methods_are.count) in
      let is : method_at m h.5 ≡ e.method = one_method b h.5 (method_at m h.5) e.method (pools.methods_are.each h.5 _ lt) h.10 in
      let of : (method_at m h.5).class ≡ name = ap (λ (x : Method). x.class) is ∙ All-head (λ (e : items.EncodedMethod). e.method.class ≡ name) e es own in
      let rest = methods_of_file few (o + h.0 + h.1 + h.2) (Some h.5) es h.3 h.11 (All-tail (λ (e : items.EncodedMethod). e.method.class ≡ name) e es own) in
      let code_place : o + h.0 + h.1 ≡ o + (h.0 + h.1) = omega arith in
      let place : o + h.0 + h.1 + h.2 ≡ o + (h.0 + h.1 + h.2) = omega arith in (
        record { index = h.5; flags = e.flags; code_off = e.code_off } ∷ rest.0,
        (λ i. record { method = is i; flags = e.flags; code_off = e.code_off } ∷ rest.1 i),
        (
          h.0 + h.1 + h.2,
          h.3,
          record {
            head_size = h.0 + h.1;
            code_size = h.2;
            head_is = record { difference = h.4; index_size = h.0; flags_size = h.1; difference_is = h.6; next = h.9; flags_is = h.7; size = refl };
            own = record { short = few h.5 lt; within = within; class_is = subst (IsAt m.types class) (sym of) at };
            code_is = subst (λ (p : ℕ). Uleb128At b p e.code_off h.2) code_place h.8;
            size = refl;
          },
          subst (λ (p : ℕ). Chain (MethodAt m class) (λ x. x.index) b p (Some h.5) rest.0 h.3) place rest.2,
          omega (arith, h.12),
        ),
      )

-- ---- class data of the file

mapped_length : {X Y : Type 0} (f : X → Y) (xs : List X) {ys : List Y} → map f xs ≡ ys → length ys ≡ length xs
mapped_length f xs e = sym (ap length e) ∙ length-map xs f

-- a file has few rows
few_fields : (b : List ℕ) → IsFrame b → (i : ℕ) → i < table_size b FieldIds → i < 2 ^ 32
few_fields b frame i lt = let row = row_within FieldIds i frame lt in let few = few_bytes b frame in omega (arith, row, few)

-- and few methods
few_methods : (b : List ℕ) → IsFrame b → (i : ℕ) → i < table_size b MethodIds → i < 2 ^ 32
few_methods b frame i lt = let row = row_within MethodIds i frame lt in let few = few_bytes b frame in omega (arith, row, few)

-- a type of the file has its row as its number
type_number : (b : List ℕ) (m : Mentions) → ArePools b m → (i : ℕ) (t : Text) → ClassTypeRow b i t → IsAt m.types i t
type_number b m pools i t h = record {
  within = omega (arith, h.row.row, pools.types_are.count);
  is = λ d. one_type b i (get_or m.types i d) t (pools.types_are.each i d h.row.row) h.row;
}

module _ (b : List ℕ) (m : Mentions) (pools : ArePools b m) (is : IsNumbering m) (r : ℕ) where
  one_field_number : (i j : ℕ) → IsOwnField m (class_idx b r) i → IsOwnField m (class_idx b r) j → field_at m i ≡ field_at m j → i ≡ j
  one_field_number i j h g same = one_place field_cmp field_total m.fields is.rising.fields_rise i j _ h.within g.within same

  one_method_number : (i j : ℕ) → IsOwnMethod m (class_idx b r) i → IsOwnMethod m (class_idx b r) j → method_at m i ≡ method_at m j → i ≡ j
  one_method_number i j h g same = one_place method_cmp method_total m.methods is.rising.methods_rise i j _ h.within g.within same

  -- what the numbers of the class data denote is what the row declares
  pub data_read : HasClass b r → class_data_off b r ≢ 0 → data_off b ≤ class_data_off b r → (d : ClassData) → DataAt m (class_idx b r) b (class_data_off b r) d.static_fields.items d.instance_fields.items d.direct_methods.items d.virtual_methods.items → IsDataOf b r m d
  data_read h some in_data d x =
      let class = class_idx b r in
      let o = class_data_off b r in
      let at = type_number b m pools class h.name h.is in
      let ss = d.static_fields.items in
      let is' = d.instance_fields.items in
      let ds = d.direct_methods.items in
      let vs = d.virtual_methods.items in
      let fields = x.fields in
      let methods = x.methods in
      let field_index = λ (f : EncodedField). f.index in
      let method_index = λ (y : EncodedMethod). y.index in
      let enc_field = encoded_field_in m in
      let enc_method = encoded_method_in m in
      let s_own = chain_all (FieldAt m class) field_index (λ f. IsOwnField m class f.index) (λ b o last f n h. h.own) b (o + x.counts_size) None ss fields.first_size fields.first in
      let i_own = chain_all (FieldAt m class) field_index (λ f. IsOwnField m class f.index) (λ b o last f n h. h.own) b (o + x.counts_size + fields.first_size) None is' fields.second_size fields.second in
      let d_own = chain_all (MethodAt m class) method_index (λ y. IsOwnMethod m class y.index) (λ b o last y n h. h.own) b (o + x.counts_size + x.fields_size) None ds methods.first_size methods.first in
      let v_own = chain_all (MethodAt m class) method_index (λ y. IsOwnMethod m class y.index) (λ b o last y n h. h.own) b (o + x.counts_size + x.fields_size + methods.first_size) None vs methods.second_size methods.second in
      let FieldNamed = λ (e : items.EncodedField). e.field.class ≡ h.name in
      let MethodNamed = λ (e : items.EncodedMethod). e.method.class ≡ h.name in
      let many : (length ss ∷ length is' ∷ length ds ∷ length vs ∷ []) ≡ (length (map enc_field ss) ∷ length (map enc_field is') ∷ length (map enc_method ds) ∷ length (map enc_method vs) ∷ []) =
      λ i. sym (length-map ss enc_field) i ∷ sym (length-map is' enc_field) i ∷ sym (length-map ds enc_method) i ∷ sym (length-map vs enc_method) i ∷ [] in
      let p3 : o + x.counts_size + x.fields_size ≡ o + x.counts_size + fields.first_size + fields.second_size = omega (arith, fields.size) in
      let p4 : o + x.counts_size + x.fields_size + methods.first_size ≡ o + x.counts_size + fields.first_size + fields.second_size + methods.first_size = omega (arith, p3) in
      let encodes : ClassDataAt b o (class_data_in m d) = record {
        in_data = in_data;
        counts_bytes = x.counts_size;
        static_fields_bytes = fields.first_size;
        instance_fields_bytes = fields.second_size;
        direct_methods_bytes = methods.first_size;
        virtual_methods_bytes = methods.second_size;
        counts = subst (λ (ns : List ℕ). Sequence Uleb128At b o ns x.counts_size) many x.counts;
        static_fields = fields_to_file b m pools class h.name at (o + x.counts_size) None ss fields.first_size fields.first;
        instance_fields = fields_to_file b m pools class h.name at (o + x.counts_size + fields.first_size) None is' fields.second_size fields.second;
        direct_methods = subst (λ (p : ℕ). EncodedMethodsAt b p None (map enc_method ds) methods.first_size) p3 (methods_to_file b m pools class h.name at (o + x.counts_size + x.fields_size) None ds methods.first_size methods.first);
        virtual_methods = subst (λ (p : ℕ). EncodedMethodsAt b p None (map enc_method vs) methods.second_size) p4 (methods_to_file b m pools class h.name at (o + x.counts_size + x.fields_size + methods.first_size) None vs methods.second_size methods.second);
      } in
      let own : BelongTo h.name (class_data_in m d) = record {
        fields = All-append FieldNamed (map enc_field ss) (map enc_field is') (All-map FieldNamed enc_field ss (λ k d lt. sym ((s_own k d lt).class_is.is h.name) ∙ at.is h.name)) (All-map FieldNamed enc_field is' (λ k d lt. sym ((i_own k d lt).class_is.is h.name) ∙ at.is h.name));
        methods = All-append MethodNamed (map enc_method ds) (map enc_method vs) (All-map MethodNamed enc_method ds (λ k d lt. sym ((d_own k d lt).class_is.is h.name) ∙ at.is h.name)) (All-map MethodNamed enc_method vs (λ k d lt. sym ((v_own k d lt).class_is.is h.name) ∙ at.is h.name));
        fields_apart = apart_symbols enc_field (λ (e : items.EncodedField). e.field) field_index (field_at m) (λ f. refl) (IsOwnField m class) one_field_number ss is' s_own i_own fields.apart;
        methods_apart = apart_symbols enc_method (λ (e : items.EncodedMethod). e.method) method_index (method_at m) (λ y. refl) (IsOwnMethod m class) one_method_number ds vs d_own v_own methods.apart;
      } in
      record {
        declared = record { name = h.name; class = h.is; is = inr (some, encodes); own = own };
        static_fields_are = record { fields_in = λ k d lt. (s_own k d lt).within; fields_rise = chain_rises (FieldAt m class) field_index (field_follows m class) b (o + x.counts_size) None ss fields.first_size fields.first };
        instance_fields_are = record { fields_in = λ k d lt. (i_own k d lt).within; fields_rise = chain_rises (FieldAt m class) field_index (field_follows m class) b (o + x.counts_size + fields.first_size) None is' fields.second_size fields.second };
        direct_methods_are = record { methods_in = λ k d lt. (d_own k d lt).within; methods_rise = chain_rises (MethodAt m class) method_index (method_follows m class) b (o + x.counts_size + x.fields_size) None ds methods.first_size methods.first };
        virtual_methods_are = record { methods_in = λ k d lt. (v_own k d lt).within; methods_rise = chain_rises (MethodAt m class) method_index (method_follows m class) b (o + x.counts_size + x.fields_size + methods.first_size) None vs methods.second_size methods.second };
        fields_apart = fields.apart;
        methods_apart = methods.apart;
      }

  -- if there is no class data by numbers, the row declares nothing
  no_item : IsFrame b → NoData m (class_idx b r) b (class_data_off b r) → (name : Text) → ClassTypeRow b (class_idx b r) name → (d : items.ClassData) → BelongTo name d → ClassDataAt b (class_data_off b r) d → ⊥
  no_item frame none name type d own s =
      let class = class_idx b r in
      let o = class_data_off b r in
      let at = type_number b m pools class name type in
      let field_index = λ (f : EncodedField). f.index in
      let method_index = λ (y : EncodedMethod). y.index in
      let FieldNamed = λ (e : items.EncodedField). e.field.class ≡ name in
      let MethodNamed = λ (e : items.EncodedMethod). e.method.class ≡ name in
      let p3 : o + s.counts_bytes + s.static_fields_bytes + s.instance_fields_bytes ≡ o + s.counts_bytes + (s.static_fields_bytes + s.instance_fields_bytes) = omega arith in
      let p4 : o + s.counts_bytes + s.static_fields_bytes + s.instance_fields_bytes + s.direct_methods_bytes ≡ o + s.counts_bytes + (s.static_fields_bytes + s.instance_fields_bytes) + s.direct_methods_bytes = omega arith in
      let few_f = few_fields b frame in
      let few_m = few_methods b frame in
      let ss = fields_of_file b m pools class name at few_f (o + s.counts_bytes) None d.static_fields s.static_fields_bytes s.static_fields (all_prefix FieldNamed d.static_fields d.instance_fields own.fields) in
      let is' = fields_of_file b m pools class name at few_f (o + s.counts_bytes + s.static_fields_bytes) None d.instance_fields s.instance_fields_bytes s.instance_fields (all_back FieldNamed d.static_fields d.instance_fields own.fields) in
      let ds = methods_of_file b m pools class name at few_m (o + s.counts_bytes + s.static_fields_bytes + s.instance_fields_bytes) None d.direct_methods s.direct_methods_bytes s.direct_methods (all_prefix MethodNamed d.direct_methods d.virtual_methods own.methods) in
      let vs = methods_of_file b m pools class name at few_m (o + s.counts_bytes + s.static_fields_bytes + s.instance_fields_bytes + s.direct_methods_bytes) None d.virtual_methods s.virtual_methods_bytes s.virtual_methods (all_back MethodNamed d.direct_methods d.virtual_methods own.methods) in
      let many : (length d.static_fields ∷ length d.instance_fields ∷ length d.direct_methods ∷ length d.virtual_methods ∷ []) ≡ (length ss.0 ∷ length is'.0 ∷ length ds.0 ∷ length vs.0 ∷ []) =
      λ i. mapped_length (encoded_field_in m) ss.0 ss.1 i ∷ mapped_length (encoded_field_in m) is'.0 is'.1 i ∷ mapped_length (encoded_method_in m) ds.0 ds.1 i ∷ mapped_length (encoded_method_in m) vs.0 vs.1 i ∷ [] in
      let fields_apart = subst (λ (es : List items.EncodedField). ShareNone (map (λ e. e.field) es) (map (λ e. e.field) (map (encoded_field_in m) is'.0))) (sym ss.1)
      (subst (λ (es : List items.EncodedField). ShareNone (map (λ e. e.field) d.static_fields) (map (λ e. e.field) es)) (sym is'.1) own.fields_apart) in
      let methods_apart = subst (λ (es : List items.EncodedMethod). ShareNone (map (λ e. e.method) es) (map (λ e. e.method) (map (encoded_method_in m) vs.0))) (sym ds.1)
      (subst (λ (es : List items.EncodedMethod). ShareNone (map (λ e. e.method) d.direct_methods) (map (λ e. e.method) es)) (sym vs.1) own.methods_apart) in
      let whole : DataAt m class b o ss.0 is'.0 ds.0 vs.0 = record {
        counts_size = s.counts_bytes;
        fields_size = s.static_fields_bytes + s.instance_fields_bytes;
        methods_size = s.direct_methods_bytes + s.virtual_methods_bytes;
        counts = subst (λ (ns : List ℕ). Sequence Uleb128At b o ns s.counts_bytes) many s.counts;
        fields = record {
          first_size = s.static_fields_bytes;
          second_size = s.instance_fields_bytes;
          first = ss.2;
          second = is'.2;
          apart = apart_numbers (encoded_field_in m) (λ (e : items.EncodedField). e.field) field_index (field_at m) (λ f. refl) ss.0 is'.0 fields_apart;
          size = refl;
        };
        methods = record {
          first_size = s.direct_methods_bytes;
          second_size = s.virtual_methods_bytes;
          first = subst (λ (p : ℕ). Chain (MethodAt m class) method_index b p None ds.0 s.direct_methods_bytes) p3 ds.2;
          second = subst (λ (p : ℕ). Chain (MethodAt m class) method_index b p None vs.0 s.virtual_methods_bytes) p4 vs.2;
          apart = apart_numbers (encoded_method_in m) (λ (e : items.EncodedMethod). e.method) method_index (method_at m) (λ y. refl) ds.0 vs.0 methods_apart;
          size = refl;
        };
      } in
      none ss.0 is'.0 ds.0 vs.0 whole

  pub no_data : IsFrame b → class_data_off b r ≢ 0 → NoData m (class_idx b r) b (class_data_off b r) → HasMembers b r → ⊥
  no_data frame some none h = elim h.1.is [
    | inl e ↦ some e.0
    | inr s ↦ no_item frame none h.1.name h.1.class h.0 h.1.own s.1
  ]

-- what is read denotes what the file declares
pub read_so : {P Q : ClassData → Type 0} → ((d : ClassData) → P d → Q d) → (r : Result ClassData ItemFault) → IfOk r P → IfOk r Q
read_so so (Ok d) h = so d h
read_so so (Err fault) h = h

-- what is refused is not there
pub refused_data : (b : List ℕ) (r : ℕ) (Reason : Type 0) → (Reason → HasMembers b r → ⊥) → (result : Result ClassData ItemFault) → IfErr result (IsDataRefusal Reason) → IfErr result (IsDataFault b r)
refused_data b r Reason so (Ok d) h = h
refused_data b r Reason so (Err (Refused number)) h = (h.0, so h.1)
refused_data b r Reason so (Err Memory) h = h

-- class data at the same place
data_moved : (m : Mentions) {c e : ℕ} {x y : List ℕ} {o p : ℕ} → c ≡ e → x ≡ y → o ≡ p → (ss is : List EncodedField) (ds vs : List EncodedMethod) → DataAt m c x o ss is ds vs → DataAt m e y p ss is ds vs
data_moved m {c} {e} {x} {y} {o} {p} same bytes at ss is ds vs h =
    subst (λ (q : ℕ). DataAt m e y q ss is ds vs) at (subst (λ (z : List ℕ). DataAt m e z o ss is ds vs) bytes (subst (λ (k : ℕ). DataAt m k x o ss is ds vs) same h))

module _ (b : List ℕ) (m n : Mentions) (r class off : ℕ) (bytes : List ℕ) (pools : ArePools b m) (numbering : n ≡ m) (is : IsNumbering n) (class_is : class ≡ class_idx b r) (off_is : off ≡ class_data_off b r) (bytes_are : bytes ≡ b) (some : off ≡ 0 → ⊥) where
  -- what is read is what the row declares
  pub data_returned : HasClass b r → IsInData b off 1 → (result : Result ClassData ItemFault) → IfOk result (λ d. DataAt m class bytes off d.static_fields.items d.instance_fields.items d.direct_methods.items d.virtual_methods.items) → IfOk result (IsDataOf b r m)
  data_returned h within result read =
      let in_data : data_off b ≤ class_data_off b r = subst (λ (o : ℕ). data_off b ≤ o) off_is within.following in
      read_so (λ d x. data_read b m pools (subst IsNumbering numbering is) r h (λ e. some (off_is ∙ e)) in_data d (data_moved m class_is bytes_are off_is d.static_fields.items d.instance_fields.items d.direct_methods.items d.virtual_methods.items x)) result read

  -- what is refused it does not declare
  pub refusal_returned : IsFrame b → (result : Result ClassData ItemFault) → IfErr result (IsDataRefusal (NoData m class bytes off)) → IfErr result (IsDataFault b r)
  refusal_returned frame result refused =
      refused_data b r (NoData m class bytes off) (λ none. no_data b m pools (subst IsNumbering numbering is) r frame (λ e. some (off_is ∙ e)) (λ ss is ds vs x. none ss is ds vs (data_moved m (sym class_is) (sym bytes_are) (sym off_is) ss is ds vs x))) result refused
