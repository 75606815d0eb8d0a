-- Tables that are read rise, and their rows are in range.
use Rattle.dexids.proofs.Common.{◌≡◌, ℕ, suc, ◌<◌, List, [], ◌∷◌, length, get_or, sym, ap, ◌∙◌, subst, arith, map, All, OrNone, Text, IsValueType, ProtoIds, TypeListAt, proto_row_key, field_row_key, method_row_key, one_string, FieldRow, MethodRow, ProtoEntry, type_of, field_key, method_key, AreTexts, AreProtos, ProtoRowAt, FieldRowAt, MethodRowAt, listed, zero, inl, inr, AllZip, shorty, shorty_letter, Proto, table_size, StringRow, TypeRow, one_type, Condition, span_of, proto_of, IsText, IsType, HasIndices, IsListed, AllTypes, file_numbers, DecidesNext, IsClass, IsMemberName, Field, IsField, field_of, HasFieldNumbers, ◌≤◌, IsReferenceType, Method, MethodIds, method_of, HasMethodNumbers, AreMethodNames, AreRead, IsFrame, AreTypes, AreFields, AreMethods}
use Rattle.dexids.specs.{proto_key, proto_cmp, field_cmp, method_cmp}
use Rattle.dexids.proofs.Steps.{decided}
use Rattle.dexspec.specs.Rows as rows
use Rattle.dexids.proofs.TypeLists.{listed_is}

-- ---- The five tables together

-- what was read, part by part, is the five tables
pub all_read : (b : List ℕ) (texts t1 t2 : List Text) (types y : List ℕ) (ps : List ℕ) (protos : List ProtoEntry) (fields : List FieldRow) (methods : List MethodRow) → IsFrame b → AreTexts b texts → AreTypes b t1 types
    → AreProtos b t2 y ps protos → AreFields b t2 y fields → AreMethods b t2 y ps protos methods → t1 ≡ texts → t2 ≡ texts → y ≡ types → AreRead b texts types ps protos fields methods
all_read b texts t1 t2 types y ps protos fields methods frame ts ys p f m e1 e2 e3 = record {
  names = record { frame = frame; texts_are = ts; types_are = subst (λ (t : List Text). AreTypes b t types) e1 ys };
  protos_are = subst (λ (z : List ℕ). AreProtos b texts z ps protos) e3 (subst (λ (t : List Text). AreProtos b t y ps protos) e2 p);
  fields_are = subst (λ (z : List ℕ). AreFields b texts z fields) e3 (subst (λ (t : List Text). AreFields b t y fields) e2 f);
  methods_are = subst (λ (z : List ℕ). AreMethods b texts z ps protos methods) e3 (subst (λ (t : List Text). AreMethods b t y ps protos methods) e2 m);
}

-- ---- Rows of methods

module _ (texts : List Text) (types ps : List ℕ) (protos : List ProtoEntry) (b : List ℕ) where
  pub method_key_is : (k : ℕ) (m : MethodRow) → MethodRowAt texts types ps protos b k m → method_row_key b k ≡ method_key m
  method_key_is k m s = λ i. s.numbers.class i ∷ s.numbers.name i ∷ s.numbers.proto i ∷ []

  pub method_decided : DecidesNext Condition.Methods (MethodRowAt texts types ps protos) method_cmp b
  method_decided = decided (MethodRowAt texts types ps protos) b rows.MethodRow method_row_key method_key method_key_is (λ k m s. (method_of texts types ps protos m, s.is))

  -- a row that is read
  pub method_has_row : (i : ℕ) (m : MethodRow) (class name : Text) → i < table_size b MethodIds → AreProtos b texts types ps protos → HasMethodNumbers b i m → IsType b texts types m.class class → IsText b texts m.name name
      → m.proto < length protos → AreMethodNames class name → MethodRowAt texts types ps protos b i m
  method_has_row i m class name lt are n c s within formed =
      let of = method_of texts types ps protos m in
      let proto = (are.each m.proto (record { shorty = 0; return_type = 0; parameters = record { start = 0; end = 0 } }) (omega (arith, within, are.count))).is in
      record {
        numbers = n;
        is = record {
          row = lt;
          class = subst (λ k. TypeRow b k of.class) (sym n.class) (subst (TypeRow b m.class) c.is c.row);
          proto = subst (λ k. rows.ProtoRow b k of.proto) (sym n.proto) proto;
          name = subst (λ k. StringRow b k of.name) (sym n.name) (subst (StringRow b m.name) s.is s.row);
          formed = record {
            class = subst IsReferenceType c.is formed.class_is;
            name = subst IsMemberName s.is formed.name_is;
            proto = record { return_type = proto.return_type.descriptor; parameters = proto.values };
          };
        };
      }

-- a row that is a method has such a type and name
pub method_names : (b : List ℕ) (i : ℕ) (m : MethodRow) (x : Method) (class name : Text) → HasMethodNumbers b i m → rows.MethodRow b i x → TypeRow b m.class class → StringRow b m.name name → AreMethodNames class name
method_names b i m x class name n h c s = record {
  class_is = subst IsReferenceType (one_type b m.class x.class class (subst (λ k. TypeRow b k x.class) n.class h.class) c) h.formed.class;
  name_is = subst IsMemberName (one_string b m.name x.name name (subst (λ k. StringRow b k x.name) n.name h.name) s) h.formed.name;
}

-- and its proto is there
pub no_proto_row : (b : List ℕ) (texts : List Text) (types ps : List ℕ) (protos : List ProtoEntry) (i : ℕ) (m : MethodRow) (x : Method) → AreProtos b texts types ps protos → HasMethodNumbers b i m → length protos ≤ m.proto → rows.MethodRow b i x → ⊥
no_proto_row b texts types ps protos i m x are n le h = omega (arith, h.proto.row, n.proto, le, are.count)

-- ---- Rows of fields

pub field_key_is : (texts : List Text) (types : List ℕ) (b : List ℕ) (k : ℕ) (f : FieldRow) → FieldRowAt texts types b k f → field_row_key b k ≡ field_key f
field_key_is texts types b k f s = λ i. s.numbers.class i ∷ s.numbers.name i ∷ s.numbers.type i ∷ []

pub field_decided : (texts : List Text) (types : List ℕ) (b : List ℕ) → DecidesNext Condition.Fields (FieldRowAt texts types) field_cmp b
field_decided texts types b = decided (FieldRowAt texts types) b rows.FieldRow field_row_key field_key (field_key_is texts types b) (λ k f s. (field_of texts types f, s.is))

-- a row names these texts, and so they make a field where it is one
pub formed_field : (b : List ℕ) (i : ℕ) (f : FieldRow) (x : Field) (class name type : Text) → HasFieldNumbers b i f → rows.FieldRow b i x → TypeRow b f.class class → StringRow b f.name name → TypeRow b f.typ type → IsField (record { class = class; name = name; type = type })
formed_field b i f x class name type n h c s t = record {
  class = subst IsClass (one_type b f.class x.class class (subst (λ k. TypeRow b k x.class) n.class h.class) c) h.formed.class;
  name = subst IsMemberName (one_string b f.name x.name name (subst (λ k. StringRow b k x.name) n.name h.name) s) h.formed.name;
  type = subst IsValueType (one_type b f.typ x.type type (subst (λ k. TypeRow b k x.type) n.type h.type) t) h.formed.type;
}

-- ---- Rows of protos

-- ---- one row

zip_map_at : (R : ℕ → Text → Type 0) (f : ℕ → Text) (xs : List ℕ) → AllZip R xs (map f xs) → (k d : ℕ) → k < length xs → R (get_or xs k d) (f (get_or xs k d))
zip_map_at R f [] h k d lt = absurd (omega arith)
zip_map_at R f (x ∷ xs) h zero d lt = h.0
zip_map_at R f (x ∷ xs) h (suc k) d lt = zip_map_at R f xs h.1 k d (omega arith)

-- each index that is listed names a type
pub all_types : (b : List ℕ) (texts : List Text) (types : List ℕ) (o : ℕ) → OrNone TypeListAt [] b o (map (type_of texts types) (listed b o)) → AllTypes b texts types (listed b o)
all_types b texts types o (inl none) k d lt = absurd (omega (arith, lt, ap (λ (n : ℕ). length (listed b n)) none.0))
all_types b texts types o (inr some) k d lt = zip_map_at (TypeRow b) (type_of texts types) (listed b o)
    (subst (λ (l : List ℕ). AllZip (TypeRow b) l (map (type_of texts types) (listed b o))) (sym (listed_is b o some.0)) some.1.types) k d lt

-- the text of a proto's shorty is the letter of the type that is read and those of its parameters
pub shorty_same : (b : List ℕ) (i n m off l : ℕ) (p : Proto) (s t : Text) → HasIndices b i n m off → rows.ProtoRow b i p → StringRow b n s → TypeRow b m t → l ≡ shorty_letter t → s ≡ l ∷ map shorty_letter p.parameters
shorty_same b i n m off l p s t at h sr tr letter =
    let return_type : p.return_type ≡ t = one_type b m _ _ (subst (λ k. TypeRow b k p.return_type) at.return_is h.return_type) tr in
    (one_string b n _ _ sr (subst (λ k. StringRow b k (shorty p.return_type p.parameters)) at.shorty_is h.shorty)) ∙ ap (λ (k : ℕ). k ∷ map shorty_letter p.parameters) (ap shorty_letter return_type ∙ sym letter)

-- a row that is read
pub is_at_there : (b : List ℕ) (texts : List Text) (types : List ℕ) (i off : ℕ) (p : ProtoEntry) (s t : Text) → i < table_size b ProtoIds → HasIndices b i p.shorty p.return_type off
    → IsText b texts p.shorty s → IsType b texts types p.return_type t → IsListed b texts types off p.parameters → s ≡ shorty t (map (type_of texts types) (span_of (file_numbers b) p.parameters)) → ProtoRowAt texts types (file_numbers b) b i p
is_at_there b texts types i off p s t lt at sr tr ps is =
    let list : map (type_of texts types) (listed b off) ≡ map (type_of texts types) (span_of (file_numbers b) p.parameters) = ap (map (type_of texts types)) (sym ps.is) in
    let text : s ≡ shorty (type_of texts types p.return_type) (map (type_of texts types) (span_of (file_numbers b) p.parameters)) = is ∙ ap (λ (r : Text). shorty r (map (type_of texts types) (span_of (file_numbers b) p.parameters))) tr.is in
    record {
      numbers = record { shorty = at.shorty_is; return_type = at.return_is; parameters_are = ap (listed b) at.off_is ∙ sym ps.is; span = ps.span };
      is = record {
        row = lt;
        shorty = subst (λ k. StringRow b k (shorty (type_of texts types p.return_type) (map (type_of texts types) (span_of (file_numbers b) p.parameters)))) (sym at.shorty_is) (subst (StringRow b p.shorty) text sr.row);
        return_type = subst (λ k. TypeRow b k (type_of texts types p.return_type)) (sym at.return_is) (subst (TypeRow b p.return_type) tr.is tr.row);
        parameters = subst (λ o. OrNone TypeListAt [] b o (map (type_of texts types) (span_of (file_numbers b) p.parameters))) (sym at.off_is) (subst (OrNone TypeListAt [] b off) list ps.parameters.list);
        values = subst (All IsValueType) list ps.parameters.values;
      };
    }

-- ---- the rows so far

pub proto_key_is : (texts : List Text) (types ps : List ℕ) (b : List ℕ) (k : ℕ) (p : ProtoEntry) → ProtoRowAt texts types ps b k p → proto_row_key b k ≡ proto_key ps p
proto_key_is texts types ps b k p s = λ i. s.numbers.return_type i ∷ s.numbers.parameters_are i

pub proto_decided : (texts : List Text) (types ps : List ℕ) (b : List ℕ) → DecidesNext Condition.Protos (ProtoRowAt texts types ps) (proto_cmp ps) b
proto_decided texts types ps b = decided (ProtoRowAt texts types ps) b rows.ProtoRow proto_row_key (proto_key ps) (proto_key_is texts types ps b) (λ k p s. (proto_of texts types ps p, s.is))
