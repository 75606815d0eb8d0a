-- Numbers of rows are in the order of the symbols that the rows denote.
use Rattle.dexpool.proofs.Common.{◌≡◌, ℕ, ◌<◌, ◌&&◌, true, List, [], ◌∷◌, length, get_or, refl, sym, ap, ◌∙◌, inl, inr, map, All, is_lt, nat_cmp, ordering_then, ordering_reverse, IsTotalOrder, nat_cmp_is, slice_cmp, Ordering, Less, Equal, Greater, cases_order, tied_itself, on_total, nat_list_cmp_total, get_or_default, All-head, All-tail, rises, Text, text_cmp, Rises-from_rises, Rises-places, text_total, FieldRow, MethodRow, ProtoEntry, IsEntryWithin, IsFieldWithin, IsMethodWithin, text_of, type_of, span_of, proto_of, field_of, proto_at, method_of, field_key, method_key, type_cmp}
use Rattle.dexspec.specs.Symbols as symbols
use Rattle.dexids.specs.Tables.{proto_key, proto_cmp, field_cmp, method_cmp}

-- ---- any list

-- places in a rising list are in the order of its members
pub places_agree : {K : Type 0} (R : K → K → Ordering) → IsTotalOrder R → (xs : List K) → rises R xs ≡ true → (i j : ℕ) (d e : K) → i < length xs → j < length xs → nat_cmp i j ≡ R (get_or xs i d) (get_or xs j e)
places_agree R o xs rise i j d e lt lt' =
    let r = Rises-from_rises R o xs rise in
    let same_default : get_or xs j d ≡ get_or xs j e = get_or_default xs j d e lt' in
    elim (cases_order i j) as (λ _. nat_cmp i j ≡ R (get_or xs i d) (get_or xs j e)) [
      | inl same ↦ sym (nat_cmp_is i j Equal same) ∙ sym (ap (R (get_or xs i d)) (sym same_default ∙ ap (λ k. get_or xs k d) (sym same)) ∙ tied_itself o (get_or xs i d))
      | inr apart ↦ elim apart as (λ _. nat_cmp i j ≡ R (get_or xs i d) (get_or xs j e)) [
        | inl less ↦ sym (nat_cmp_is i j Less less) ∙ sym (Rises-places R o xs i j d r less lt') ∙ ap (R (get_or xs i d)) same_default
        | inr more ↦ sym (nat_cmp_is i j Greater more) ∙ sym (o.antisymm (get_or xs i d) (get_or xs j d) ∙ ap ordering_reverse (Rises-places R o xs j i d r more lt)) ∙ ap (R (get_or xs i d)) same_default
      ]
    ]

module _ {X Y : Type 0} (R : X → X → Ordering) (S : Y → Y → Ordering) (f : X → Y) (P : X → Type 0) (same : (x y : X) → P x → P y → R x y ≡ S (f x) (f y)) where
  -- where an order is that of what is made, lists rise together
  pub rises-map : (xs : List X) → All P xs → rises R xs ≡ rises S (map f xs)
  rises-map [] h = refl
  rises-map (x ∷ []) h = refl
  rises-map (x ∷ y ∷ ys) h = let t = All-tail P x (y ∷ ys) h in λ i. is_lt ((same x y (All-head P x (y ∷ ys) h) (All-head P y ys t)) i) && (rises-map (y ∷ ys) t) i

  -- and are in the same order
  pub slices-map : (xs ys : List X) → All P xs → All P ys → slice_cmp R xs ys ≡ slice_cmp S (map f xs) (map f ys)
  slices-map [] [] h k = refl
  slices-map [] (y ∷ ys) h k = refl
  slices-map (x ∷ xs) [] h k = refl
  slices-map (x ∷ xs) (y ∷ ys) h k = λ i. ordering_then ((same x y (All-head P x xs h) (All-head P y ys k)) i) ((slices-map xs ys (All-tail P x xs h) (All-tail P y ys k)) i)

-- ---- the numbers of a row

then_equal : (o : Ordering) → ordering_then o Equal ≡ o
then_equal Less = refl
then_equal _ = refl

-- three numbers decide one after the other
three_keys : {o o' p p' q q' : Ordering} → o ≡ o' → p ≡ p' → q ≡ q' → ordering_then o (ordering_then p (ordering_then q Equal)) ≡ ordering_then o' (ordering_then p' q')
three_keys {o} {o'} {p} {p'} {q} {q'} e f g = λ i. ordering_then (e i) (ordering_then (f i) ((then_equal q ∙ g) i))

-- the orders of rows are total
pub type_total : IsTotalOrder type_cmp
type_total = on_total (λ (n : ℕ). n ∷ []) nat_list_cmp_total

pub proto_rows_total : (ps : List ℕ) → IsTotalOrder (proto_cmp ps)
proto_rows_total ps = on_total (proto_key ps) nat_list_cmp_total

pub field_rows_total : IsTotalOrder field_cmp
field_rows_total = on_total field_key nat_list_cmp_total

pub method_rows_total : IsTotalOrder method_cmp
method_rows_total = on_total method_key nat_list_cmp_total

module _ (texts : List Text) (texts_rise : rises text_cmp texts ≡ true) where
  -- numbers of texts
  pub texts_agree : (m n : ℕ) → m < length texts → n < length texts → nat_cmp m n ≡ text_cmp (text_of texts m) (text_of texts n)
  texts_agree m n lt lt' = places_agree text_cmp text_total texts texts_rise m n [] [] lt lt'

  -- rows of types
  pub type_rows_agree : (m n : ℕ) → m < length texts → n < length texts → type_cmp m n ≡ text_cmp (text_of texts m) (text_of texts n)
  type_rows_agree m n lt lt' = then_equal (nat_cmp m n) ∙ texts_agree m n lt lt'

  -- a table of types rises by numbers as by texts
  pub types_rise_equally : (types : List ℕ) → All (λ n. n < length texts) types → rises type_cmp types ≡ rises text_cmp (map (text_of texts) types)
  types_rise_equally types h = rises-map type_cmp text_cmp (text_of texts) (λ n. n < length texts) type_rows_agree types h

  module _ (types : List ℕ) (types_in : All (λ n. n < length texts) types) (types_rise : rises type_cmp types ≡ true) where
    -- numbers of types
    pub types_agree : (m n : ℕ) → m < length types → n < length types → nat_cmp m n ≡ text_cmp (type_of texts types m) (type_of texts types n)
    types_agree m n lt lt' = places_agree type_cmp type_total types types_rise m n 0 0 lt lt' ∙ type_rows_agree (get_or types m 0) (get_or types n 0) (types_in m 0 lt) (types_in n 0 lt')

    -- rows of protos
    pub proto_rows_agree : (ps : List ℕ) (p q : ProtoEntry) → IsEntryWithin (length texts) (length types) ps p → IsEntryWithin (length texts) (length types) ps q
        → proto_cmp ps p q ≡ symbols.proto_cmp (proto_of texts types ps p) (proto_of texts types ps q)
    proto_rows_agree ps p q h k =
        let r : slice_cmp nat_cmp (span_of ps p.parameters) (span_of ps q.parameters) ≡ slice_cmp text_cmp (map (type_of texts types) (span_of ps p.parameters)) (map (type_of texts types) (span_of ps q.parameters)) =
        slices-map nat_cmp text_cmp (type_of texts types) (λ n. n < length types) types_agree (span_of ps p.parameters) (span_of ps q.parameters) h.parameters_in k.parameters_in in
        λ i. ordering_then ((types_agree p.return_type q.return_type h.return_in k.return_in) i) (r i)

    -- a table of protos rises by numbers as by texts
    pub protos_rise_equally : (ps : List ℕ) (protos : List ProtoEntry) → All (IsEntryWithin (length texts) (length types) ps) protos → rises (proto_cmp ps) protos ≡ rises symbols.proto_cmp (map (proto_of texts types ps) protos)
    protos_rise_equally ps protos h = rises-map (proto_cmp ps) symbols.proto_cmp (proto_of texts types ps) (IsEntryWithin (length texts) (length types) ps) (proto_rows_agree ps) protos h

    -- rows of fields
    pub field_rows_agree : (f g : FieldRow) → IsFieldWithin (length texts) (length types) f → IsFieldWithin (length texts) (length types) g → field_cmp f g ≡ symbols.field_cmp (field_of texts types f) (field_of texts types g)
    field_rows_agree f g h k = three_keys (types_agree f.class g.class h.class_in k.class_in) (texts_agree f.name g.name h.name_in k.name_in) (types_agree f.typ g.typ h.type_in k.type_in)

    -- a table of fields rises by numbers as by texts
    pub fields_rise_equally : (fields : List FieldRow) → All (IsFieldWithin (length texts) (length types)) fields → rises field_cmp fields ≡ rises symbols.field_cmp (map (field_of texts types) fields)
    fields_rise_equally fields h = rises-map field_cmp symbols.field_cmp (field_of texts types) (IsFieldWithin (length texts) (length types)) field_rows_agree fields h

    module _ (ps : List ℕ) (protos : List ProtoEntry) (protos_in : All (IsEntryWithin (length texts) (length types) ps) protos) (protos_rise : rises (proto_cmp ps) protos ≡ true) where
      -- numbers of protos
      pub protos_agree : (m n : ℕ) → m < length protos → n < length protos → nat_cmp m n ≡ symbols.proto_cmp (proto_of texts types ps (proto_at protos m)) (proto_of texts types ps (proto_at protos n))
      protos_agree m n lt lt' = places_agree (proto_cmp ps) (proto_rows_total ps) protos protos_rise m n _ _ lt lt' ∙ proto_rows_agree ps (proto_at protos m) (proto_at protos n) (protos_in m _ lt) (protos_in n _ lt')

      -- rows of methods
      pub method_rows_agree : (m n : MethodRow) → IsMethodWithin (length texts) (length types) (length protos) m → IsMethodWithin (length texts) (length types) (length protos) n
          → method_cmp m n ≡ symbols.method_cmp (method_of texts types ps protos m) (method_of texts types ps protos n)
      method_rows_agree m n h k = three_keys (types_agree m.class n.class h.class_in k.class_in) (texts_agree m.name n.name h.name_in k.name_in) (protos_agree m.proto n.proto h.proto_in k.proto_in)

      -- a table of methods rises by numbers as by texts
      pub methods_rise_equally : (methods : List MethodRow) → All (IsMethodWithin (length texts) (length types) (length protos)) methods → rises method_cmp methods ≡ rises symbols.method_cmp (map (method_of texts types ps protos) methods)
      methods_rise_equally methods h = rises-map method_cmp symbols.method_cmp (method_of texts types ps protos) (IsMethodWithin (length texts) (length types) (length protos)) method_rows_agree methods h
