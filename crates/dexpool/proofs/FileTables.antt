-- Tables that are read rise, and their rows are in range.
use Rattle.dexpool.proofs.Common.{◌≡◌, ℕ, suc, ◌+◌, ◌<◌, true, List, [], ◌∷◌, length, get_or, refl, sym, ap, ◌∙◌, subst, arith, map, All, is_lt, Ordering, Less, get_or-map, length-map, rises, OrNone, Text, text_cmp, IsValueType, uint_at, ProtoIds, key_cmp, row_at, Follows, TypeListAt, type_row_key, proto_row_key, field_row_key, method_row_key, HasType, HasProto, HasField, HasMethod, and_both, one_string, FieldRow, MethodRow, ProtoEntry, Tables, type_of, field_key, method_key, ReadTo, AreTexts, AreNames, AreProtos, TypeRowAt, ProtoRowAt, FieldRowAt, MethodRowAt, listed, IsTypeNumber, IsTypeOf, IsProtoEntry, IsFieldRow, IsMethodRow, AreTables, proto_of, field_of, method_of, text_of, symbols_of, AreAll, ArePools}
use Rattle.dexids.specs.FileTables.{AreRead}
use Rattle.dexids.specs.Tables.{proto_key}
use Rattle.dexids.proofs.Steps.{text_row, type_key_is}
use Rattle.dexids.proofs.ReadTables.{all_types, proto_key_is, field_key_is, method_key_is}

-- ---- The five pools together

-- what rows of numbers denote, one by one
mapped : {X Y : Type 0} (Row : List ℕ → ℕ → X → Type 0) (Symbol : List ℕ → ℕ → Y → Type 0) (Holds : List ℕ → ℕ → Type 0) (f : X → Y) (x : X) (b : List ℕ) (xs : List X) (n : ℕ)
    → ((k : ℕ) (z : X) → Row b k z → Symbol b k (f z)) → ReadTo Row Holds b xs n → AreAll Symbol b n (map f xs)
mapped Row Symbol Holds f x b xs n is h = record { count = length-map xs f ∙ h.count; each = λ i d lt. subst (Symbol b i) (sym (get_or-map f xs i x d (omega (arith, lt, h.count)))) (is i (get_or xs i x) (h.each i x lt)) }

module _ (b : List ℕ) (texts : List Text) (types ps : List ℕ) (protos : List ProtoEntry) (fields : List FieldRow) (methods : List MethodRow) (h : AreRead b texts types ps protos fields methods) where
  pub are_pools : ArePools b (symbols_of texts types ps protos fields methods)
  are_pools = record {
    texts_are = record { count = h.names.texts_are.count; each = h.names.texts_are.each };
    types_are = mapped _ _ _ (text_of texts) 0 b types _ (λ k z s. s.is) h.names.types_are;
    protos_are = mapped _ _ _ (proto_of texts types ps) (record {
      shorty = 0;
      return_type = 0;
      parameters = record { start = 0; end = 0 };
    }) b protos _ (λ k z s. s.is) h.protos_are;
    fields_are = mapped _ _ _ (field_of texts types) (record { class = 0; name = 0; typ = 0 }) b fields _ (λ k z s. s.is) h.fields_are;
    methods_are = mapped _ _ _ (method_of texts types ps protos) (record { class = 0; name = 0; proto = 0 }) b methods _ (λ k z s. s.is) h.methods_are;
  }

-- ---- tables rise

-- a list rises where each member is less than the next
pub rises-next : {X : Type 0} (R : X → X → Ordering) (xs : List X) (d : X) → ((j : ℕ) → suc j < length xs → R (get_or xs j d) (get_or xs (suc j) d) ≡ Less) → rises R xs ≡ true
rises-next R (x ∷ y ∷ ys) d h = and_both (is_lt (R x y)) (rises R (y ∷ ys)) (ap is_lt (h 0 (omega arith))) (rises-next R (y ∷ ys) d (λ j lt. h (suc j) (omega arith)))
rises-next _ _ d h = refl

-- texts of rows that follow one another
texts_rise : (b : List ℕ) (texts : List Text) → AreTexts b texts → rises text_cmp texts ≡ true
texts_rise b texts h = rises-next text_cmp texts [] (λ j lt.
    let holds = h.held (suc j) (omega (arith, lt, h.count)) in
    subst (λ s. text_cmp (get_or texts j []) s ≡ Less) (one_string b (suc j) _ _ holds.is (h.each (suc j) [] (omega (arith, lt, h.count)))) (holds.follows j (get_or texts j []) (omega arith) (h.each j [] (omega (arith, lt, h.count)))))

-- rows whose keys follow one another
module _ {X : Type 0} (Row : List ℕ → ℕ → X → Type 0) (Holds : List ℕ → ℕ → Type 0) (b : List ℕ) (key : List ℕ → ℕ → List ℕ) (key_of : X → List ℕ) (same : (k : ℕ) (x : X) → Row b k x → key b k ≡ key_of x)
    (follows : (k : ℕ) → Holds b k → Follows key b k) where
  rows_rise : (xs : List X) (n : ℕ) (d : X) → ReadTo Row Holds b xs n → rises (λ x y. key_cmp (key_of x) (key_of y)) xs ≡ true
  rows_rise xs n d h = rises-next (λ x y. key_cmp (key_of x) (key_of y)) xs d (λ j lt.
      ap (λ (k : List ℕ). key_cmp k (key_of (get_or xs (suc j) d))) (sym (same j (get_or xs j d) (h.each j d (omega (arith, lt, h.count)))))
      ∙ ap (key_cmp (key b j)) (sym (same (suc j) (get_or xs (suc j) d) (h.each (suc j) d (omega (arith, lt, h.count))))) ∙ (follows (suc j) (h.held (suc j) (omega (arith, lt, h.count))) j (omega arith)))

-- ---- rows are in range

module _ (b : List ℕ) (t : Tables) (names : AreNames b t.strings.items t.types.items) where
  type_number : (k n : ℕ) → TypeRowAt t.strings.items b k n → IsTypeNumber t n
  type_number k n s = record { text_in = omega (arith, s.is.text.row, s.index, names.texts_are.count); descriptor = s.is.descriptor }

  field_row : (k : ℕ) (f : FieldRow) → FieldRowAt t.strings.items t.types.items b k f → IsFieldRow t f
  field_row k f s = record {
    class_is = record { type_in = omega (arith, s.is.class.row, s.numbers.class, names.types_are.count); is = s.is.formed.class };
    name_in = omega (arith, s.is.name.row, s.numbers.name, names.texts_are.count);
    name_is = s.is.formed.name;
    type_is = record { type_in = omega (arith, s.is.type.row, s.numbers.type, names.types_are.count); is = s.is.formed.type };
  }

  proto_entry : (k : ℕ) (p : ProtoEntry) → ProtoRowAt t.strings.items t.types.items t.parameters b k p → IsProtoEntry t p
  proto_entry k p s =
      let type = type_of t.strings.items t.types.items in
      let o = uint_at b (row_at b ProtoIds k + 8) in
      let shorty_in : p.shorty < length t.strings.items = omega (arith, s.is.shorty.row, s.numbers.shorty, names.texts_are.count) in
      record {
        span = s.numbers.span;
        return_in = omega (arith, s.is.return_type.row, s.numbers.return_type, names.types_are.count);
        parameters_in = subst (All (IsTypeOf IsValueType t)) s.numbers.parameters_are (λ i d lt. record {
          type_in = omega (arith, ((all_types b t.strings.items t.types.items o (subst (λ (l : List ℕ). OrNone TypeListAt [] b o (map type l)) (sym s.numbers.parameters_are) s.is.parameters)) i d lt).row, names.types_are.count);
          is = subst IsValueType (get_or-map type (listed b o) i d (type d) lt) ((subst (λ (l : List ℕ). All IsValueType (map type l)) (sym s.numbers.parameters_are) s.is.values) i (type d) (omega (arith, lt, length-map (listed b o) type)));
        });
        shorty_in = shorty_in;
        shorty_is = one_string b _ _ _ (text_row b t.strings.items p.shorty _ names.texts_are shorty_in s.numbers.shorty) s.is.shorty;
      }

  method_row : (k : ℕ) (m : MethodRow) → AreProtos b t.strings.items t.types.items t.parameters t.protos.items → MethodRowAt t.strings.items t.types.items t.parameters t.protos.items b k m → IsMethodRow t m
  method_row k m p s = record {
    class_is = record { type_in = omega (arith, s.is.class.row, s.numbers.class, names.types_are.count); is = s.is.formed.class };
    name_in = omega (arith, s.is.name.row, s.numbers.name, names.texts_are.count);
    name_is = s.is.formed.name;
    proto_in = omega (arith, s.is.proto.row, s.numbers.proto, p.count);
  }

-- ---- the tables of a file

pub read_tables : (b : List ℕ) (t : Tables) → AreRead b t.strings.items t.types.items t.parameters t.protos.items t.fields.items t.methods.items → AreTables t
read_tables b t h =
    let ps = t.parameters in
    record {
      texts_rise = texts_rise b t.strings.items h.names.texts_are;
      types_rise = rows_rise (TypeRowAt t.strings.items) HasType b type_row_key (λ n. n ∷ []) (type_key_is t.strings.items b) (λ k r. r.follows) t.types.items _ 0 h.names.types_are;
      protos_rise = rows_rise (ProtoRowAt t.strings.items t.types.items ps) HasProto b proto_row_key (proto_key ps) (proto_key_is t.strings.items t.types.items ps b) (λ k r. r.follows) t.protos.items _ (record {
        shorty = 0;
        return_type = 0;
        parameters = record { start = 0; end = 0 };
      }) h.protos_are;
      fields_rise = rows_rise (FieldRowAt t.strings.items t.types.items) HasField b field_row_key field_key (field_key_is t.strings.items t.types.items b) (λ k r. r.follows) t.fields.items _ (record {
        class = 0;
        name = 0;
        typ = 0;
      }) h.fields_are;
      methods_rise = rows_rise (MethodRowAt t.strings.items t.types.items ps t.protos.items) HasMethod b method_row_key method_key (method_key_is t.strings.items t.types.items ps t.protos.items b) (λ k r. r.follows) t.methods.items _ (record {
        class = 0;
        name = 0;
        proto = 0;
      }) h.methods_are;
      types_at_ranks = λ k d lt. type_number b t h.names k (get_or t.types.items k d) (h.names.types_are.each k d (omega (arith, lt, h.names.types_are.count)));
      protos_at_ranks = λ k d lt. proto_entry b t h.names k (get_or t.protos.items k d) (h.protos_are.each k d (omega (arith, lt, h.protos_are.count)));
      fields_at_ranks = λ k d lt. field_row b t h.names k (get_or t.fields.items k d) (h.fields_are.each k d (omega (arith, lt, h.fields_are.count)));
      methods_at_ranks = λ k d lt. method_row b t h.names k (get_or t.methods.items k d) h.protos_are (h.methods_are.each k d (omega (arith, lt, h.methods_are.count)));
    }
