-- What tables whose rows are in range denote: the symbols of a numbering.
use Rattle.dexpool.proofs.Common.{◌≡◌, ℕ, ◌<◌, true, [], length, get_or, sym, ◌∙◌, subst, inl, inr, map, All, Contains, nat_cmp, All-weaker, All-map, All-contains, Contains-get_or, rises, text_cmp, IsDescriptor, IsValueType, IsProto, IsField, IsMethod, Contains-cons_cases, Contains-map, Contains-map_source, FieldRow, MethodRow, all_seen, ProtoEntry, Tables, text_of, type_of, span_of, proto_of, field_of, proto_at, method_of, type_cmp, symbols_in, stored_type, stored_proto, stored_field, stored_method, IsTypeNumber, IsTypeOf, IsProtoEntry, IsFieldRow, IsMethodRow, AreTables, HasProtoParts, HasFieldParts, HasMethodParts, AreRising, IsNumbering, HasShorty, IsEntryWithin, IsFieldWithin, IsMethodWithin}
use Rattle.dexspec.specs.Symbols as symbols
use Rattle.dexids.specs.Tables.{proto_cmp, field_cmp, method_cmp}
use Rattle.dexpool.proofs.NumberOrder as order

module _ (t : Tables) where
  -- ---- the numbers of rows in range

  pub entry_numbers : (p : ProtoEntry) → IsProtoEntry t p → IsEntryWithin (length t.strings.items) (length t.types.items) t.parameters p
  entry_numbers p h = record {
    shorty_in = h.shorty_in;
    return_in = h.return_in;
    span = h.span;
    parameters_in = All-weaker (IsTypeOf IsValueType t) (λ k. k < length t.types.items) (λ n k. k.type_in) (span_of t.parameters p.parameters) h.parameters_in;
  }

  pub field_numbers : (f : FieldRow) → IsFieldRow t f → IsFieldWithin (length t.strings.items) (length t.types.items) f
  field_numbers f h = record { class_in = h.class_is.type_in; name_in = h.name_in; type_in = h.type_is.type_in }

  pub method_numbers : (m : MethodRow) → IsMethodRow t m → IsMethodWithin (length t.strings.items) (length t.types.items) (length t.protos.items) m
  method_numbers m h = record { class_in = h.class_is.type_in; name_in = h.name_in; proto_in = h.proto_in }

  module _ (h : AreTables t) where
    pub types_in : All (λ n. n < length t.strings.items) t.types.items
    types_in = All-weaker (IsTypeNumber t) (λ n. n < length t.strings.items) (λ n k. k.text_in) t.types.items h.types_at_ranks

    pub protos_in : All (IsEntryWithin (length t.strings.items) (length t.types.items) t.parameters) t.protos.items
    protos_in = All-weaker (IsProtoEntry t) (IsEntryWithin (length t.strings.items) (length t.types.items) t.parameters) entry_numbers t.protos.items h.protos_at_ranks

    pub fields_in : All (IsFieldWithin (length t.strings.items) (length t.types.items)) t.fields.items
    fields_in = All-weaker (IsFieldRow t) (IsFieldWithin (length t.strings.items) (length t.types.items)) field_numbers t.fields.items h.fields_at_ranks

    pub methods_in : All (IsMethodWithin (length t.strings.items) (length t.types.items) (length t.protos.items)) t.methods.items
    methods_in = All-weaker (IsMethodRow t) (IsMethodWithin (length t.strings.items) (length t.types.items) (length t.protos.items)) method_numbers t.methods.items h.methods_at_ranks

    -- ---- rows in the order of their symbols

    -- numbers of texts
    pub texts_agree : (m n : ℕ) → m < length t.strings.items → n < length t.strings.items → nat_cmp m n ≡ text_cmp (text_of t.strings.items m) (text_of t.strings.items n)
    texts_agree m n lt lt' = order.texts_agree t.strings.items h.texts_rise m n lt lt'

    -- numbers of types
    pub types_agree : (m n : ℕ) → m < length t.types.items → n < length t.types.items → nat_cmp m n ≡ text_cmp (type_of t.strings.items t.types.items m) (type_of t.strings.items t.types.items n)
    types_agree m n lt lt' = order.types_agree t.strings.items h.texts_rise t.types.items types_in h.types_rise m n lt lt'

    -- numbers of protos
    pub protos_agree : (m n : ℕ) → m < length t.protos.items → n < length t.protos.items → nat_cmp m n
        ≡ symbols.proto_cmp (proto_of t.strings.items t.types.items t.parameters (proto_at t.protos.items m)) (proto_of t.strings.items t.types.items t.parameters (proto_at t.protos.items n))
    protos_agree m n lt lt' = order.protos_agree t.strings.items h.texts_rise t.types.items types_in h.types_rise t.parameters t.protos.items protos_in h.protos_rise m n lt lt'

    -- rows of types
    pub type_rows_agree : (m n : ℕ) → m < length t.strings.items → n < length t.strings.items → type_cmp m n ≡ text_cmp (text_of t.strings.items m) (text_of t.strings.items n)
    type_rows_agree m n lt lt' = order.type_rows_agree t.strings.items h.texts_rise m n lt lt'

    -- rows of protos
    pub proto_rows_agree : (p q : ProtoEntry) → IsProtoEntry t p → IsProtoEntry t q → proto_cmp t.parameters p q
        ≡ symbols.proto_cmp (proto_of t.strings.items t.types.items t.parameters p) (proto_of t.strings.items t.types.items t.parameters q)
    proto_rows_agree p q k l = order.proto_rows_agree t.strings.items h.texts_rise t.types.items types_in h.types_rise t.parameters p q (entry_numbers p k) (entry_numbers q l)

    -- rows of fields
    pub field_rows_agree : (f g : FieldRow) → IsFieldRow t f → IsFieldRow t g → field_cmp f g ≡ symbols.field_cmp (field_of t.strings.items t.types.items f) (field_of t.strings.items t.types.items g)
    field_rows_agree f g k l = order.field_rows_agree t.strings.items h.texts_rise t.types.items types_in h.types_rise f g (field_numbers f k) (field_numbers g l)

    -- rows of methods
    pub method_rows_agree : (m n : MethodRow) → IsMethodRow t m → IsMethodRow t n → method_cmp m n
        ≡ symbols.method_cmp (method_of t.strings.items t.types.items t.parameters t.protos.items m) (method_of t.strings.items t.types.items t.parameters t.protos.items n)
    method_rows_agree m n k l = order.method_rows_agree t.strings.items h.texts_rise t.types.items types_in h.types_rise t.parameters t.protos.items protos_in h.protos_rise m n (method_numbers m k) (method_numbers n l)

    -- the five lists of symbols rise
    pub are_rising : AreRising (symbols_in t)
    are_rising =
        record {
          texts_rise = h.texts_rise;
          types_rise = sym (order.types_rise_equally t.strings.items h.texts_rise t.types.items types_in) ∙ h.types_rise;
          protos_rise = sym (order.protos_rise_equally t.strings.items h.texts_rise t.types.items types_in h.types_rise t.parameters t.protos.items protos_in) ∙ h.protos_rise;
          fields_rise = sym (order.fields_rise_equally t.strings.items h.texts_rise t.types.items types_in h.types_rise t.fields.items fields_in) ∙ h.fields_rise;
          methods_rise = sym (order.methods_rise_equally t.strings.items h.texts_rise t.types.items types_in h.types_rise t.parameters t.protos.items protos_in h.protos_rise t.methods.items methods_in) ∙ h.methods_rise;
        }

    -- ---- the parts of symbols are there

    pub text_there : (n : ℕ) → n < length t.strings.items → Contains t.strings.items (text_of t.strings.items n)
    text_there n lt = Contains-get_or t.strings.items n [] lt

    pub type_there : (n : ℕ) → n < length t.types.items → Contains (symbols_in t).types (type_of t.strings.items t.types.items n)
    type_there n lt = Contains-map (text_of t.strings.items) t.types.items (get_or t.types.items n 0) (Contains-get_or t.types.items n 0 lt)

    pub proto_there : (n : ℕ) → n < length t.protos.items → Contains (symbols_in t).protos (proto_of t.strings.items t.types.items t.parameters (proto_at t.protos.items n))
    proto_there n lt = Contains-map (proto_of t.strings.items t.types.items t.parameters) t.protos.items (proto_at t.protos.items n) (Contains-get_or t.protos.items n _ lt)

    proto_parts : (p : ProtoEntry) → IsProtoEntry t p → HasProtoParts (symbols_in t) (proto_of t.strings.items t.types.items t.parameters p)
    proto_parts p k =
        let type = type_of t.strings.items t.types.items in
        let ns = span_of t.parameters p.parameters in
        record {
          shorty_in = subst (Contains t.strings.items) k.shorty_is (text_there p.shorty k.shorty_in);
          types_in = λ x c. elim (Contains-cons_cases (type p.return_type) x (map type ns) c) [
            | inl e ↦ subst (Contains (symbols_in t).types) e (type_there p.return_type k.return_in)
            | inr l ↦ let s = Contains-map_source type ns x l in
                subst (Contains (symbols_in t).types) s.2 (type_there s.0 (All-contains (IsTypeOf IsValueType t) ns s.0 k.parameters_in s.1).type_in)
          ];
        }

    field_parts : (f : FieldRow) → IsFieldRow t f → HasFieldParts (symbols_in t) (field_of t.strings.items t.types.items f)
    field_parts f k = record { class_in = type_there f.class k.class_is.type_in; name_in = text_there f.name k.name_in; type_in = type_there f.typ k.type_is.type_in }

    method_parts : (m : MethodRow) → IsMethodRow t m → HasMethodParts (symbols_in t) (method_of t.strings.items t.types.items t.parameters t.protos.items m)
    method_parts m k = record { class_in = type_there m.class k.class_is.type_in; name_in = text_there m.name k.name_in; proto_in = proto_there m.proto k.proto_in }

    -- ---- symbols are well formed

    pub descriptor_of : (n : ℕ) → n < length t.types.items → IsDescriptor (type_of t.strings.items t.types.items n)
    descriptor_of n lt = (h.types_at_ranks n 0 lt).descriptor

    proto_formed : (p : ProtoEntry) → IsProtoEntry t p → IsProto (proto_of t.strings.items t.types.items t.parameters p)
    proto_formed p k =
        let type = type_of t.strings.items t.types.items in
        let ns = span_of t.parameters p.parameters in
        record { return_type = descriptor_of p.return_type k.return_in; parameters = All-map IsValueType type ns (All-weaker (IsTypeOf IsValueType t) (λ n. IsValueType (type n)) (λ n i. i.is) ns k.parameters_in) }

    field_formed : (f : FieldRow) → IsFieldRow t f → IsField (field_of t.strings.items t.types.items f)
    field_formed f k = record { class = k.class_is.is; name = k.name_is; type = k.type_is.is }

    method_formed : (m : MethodRow) → IsMethodRow t m → IsMethod (method_of t.strings.items t.types.items t.parameters t.protos.items m)
    method_formed m k = record { class = k.class_is.is; name = k.name_is; proto = proto_formed (proto_at t.protos.items m.proto) (h.protos_at_ranks m.proto _ k.proto_in) }

    -- ---- what the tables denote is a numbering
    pub are_numbering : IsNumbering (symbols_in t)
    are_numbering =
        record {
          rising = are_rising;
          types_formed = All-map IsDescriptor (text_of t.strings.items) t.types.items (All-weaker (IsTypeNumber t) (λ n. IsDescriptor (text_of t.strings.items n)) (λ n k. k.descriptor) t.types.items h.types_at_ranks);
          protos_formed = All-map IsProto (proto_of t.strings.items t.types.items t.parameters) t.protos.items (All-weaker (IsProtoEntry t) (λ p. IsProto (proto_of t.strings.items t.types.items t.parameters p)) proto_formed t.protos.items h.protos_at_ranks);
          fields_formed = All-map IsField (field_of t.strings.items t.types.items) t.fields.items (All-weaker (IsFieldRow t) (λ f. IsField (field_of t.strings.items t.types.items f)) field_formed t.fields.items h.fields_at_ranks);
          methods_formed = All-map IsMethod (method_of t.strings.items t.types.items t.parameters t.protos.items) t.methods.items (All-weaker (IsMethodRow t) (λ m. IsMethod (method_of t.strings.items t.types.items t.parameters t.protos.items m)) method_formed t.methods.items h.methods_at_ranks);
          types_named = λ x c. let s = Contains-map_source (text_of t.strings.items) t.types.items x c in
              subst (Contains t.strings.items) s.2 (text_there s.0 (All-contains (IsTypeNumber t) t.types.items s.0 h.types_at_ranks s.1).text_in);
          protos_named = All-map (HasProtoParts (symbols_in t)) (proto_of t.strings.items t.types.items t.parameters) t.protos.items (All-weaker (IsProtoEntry t) (λ p. HasProtoParts (symbols_in t) (proto_of t.strings.items t.types.items t.parameters p)) proto_parts t.protos.items h.protos_at_ranks);
          fields_named = All-map (HasFieldParts (symbols_in t)) (field_of t.strings.items t.types.items) t.fields.items (All-weaker (IsFieldRow t) (λ f. HasFieldParts (symbols_in t) (field_of t.strings.items t.types.items f)) field_parts t.fields.items h.fields_at_ranks);
          methods_named = All-map (HasMethodParts (symbols_in t)) (method_of t.strings.items t.types.items t.parameters t.protos.items) t.methods.items
              (All-weaker (IsMethodRow t) (λ m. HasMethodParts (symbols_in t) (method_of t.strings.items t.types.items t.parameters t.protos.items m)) method_parts t.methods.items h.methods_at_ranks);
        }

-- rows in order and in range, of symbols that are well formed, make tables
pub tables_made : (t : Tables) → rises text_cmp t.strings.items ≡ true → rises type_cmp t.types.items ≡ true → rises (proto_cmp t.parameters) t.protos.items ≡ true → rises field_cmp t.fields.items ≡ true → rises method_cmp t.methods.items ≡ true
    → All (λ n. n < length t.strings.items) t.types.items → All IsDescriptor (symbols_in t).types
    → All (IsEntryWithin (length t.strings.items) (length t.types.items) t.parameters) t.protos.items → All (HasShorty t.strings.items t.types.items t.parameters) t.protos.items → All IsProto (symbols_in t).protos
    → All (IsFieldWithin (length t.strings.items) (length t.types.items)) t.fields.items → All IsField (symbols_in t).fields
    → All (IsMethodWithin (length t.strings.items) (length t.types.items) (length t.protos.items)) t.methods.items → All IsMethod (symbols_in t).methods → AreTables t
tables_made t texts_rise types_rise protos_rise fields_rise methods_rise types_in descriptors protos_in shorties protos_formed fields_in fields_formed methods_in methods_formed = record {
  texts_rise = texts_rise;
  types_rise = types_rise;
  protos_rise = protos_rise;
  fields_rise = fields_rise;
  methods_rise = methods_rise;
  types_at_ranks = λ k d lt. record { text_in = types_in k d lt; descriptor = all_seen (text_of t.strings.items) IsDescriptor t.types.items descriptors k d lt };
  protos_at_ranks = λ k d lt.
      let w = protos_in k d lt in
      record {
        span = w.span;
        return_in = w.return_in;
        parameters_in = λ j e less. record {
          type_in = w.parameters_in j e less;
          is = all_seen (stored_type t) IsValueType (span_of t.parameters (get_or t.protos.items k d).parameters) (all_seen (stored_proto t) IsProto t.protos.items protos_formed k d lt).parameters j e less;
        };
        shorty_in = w.shorty_in;
        shorty_is = shorties k d lt;
      };
  fields_at_ranks = λ k d lt.
      let w = fields_in k d lt in
      let formed = all_seen (stored_field t) IsField t.fields.items fields_formed k d lt in
      record { class_is = record { type_in = w.class_in; is = formed.class }; name_in = w.name_in; name_is = formed.name; type_is = record { type_in = w.type_in; is = formed.type } };
  methods_at_ranks = λ k d lt.
      let w = methods_in k d lt in
      let formed = all_seen (stored_method t) IsMethod t.methods.items methods_formed k d lt in
      record { class_is = record { type_in = w.class_in; is = formed.class }; name_in = w.name_in; name_is = formed.name; proto_in = w.proto_in };
}
