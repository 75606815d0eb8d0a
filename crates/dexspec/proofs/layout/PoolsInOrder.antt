-- Conditions 11 to 15 of a file with this layout: its rows denote symbols, in order.
use Rattle.dexspec.proofs.Common.{◌≡◌, ℕ, zero, suc, ◌+◌, ◌<◌, List, [], ◌∷◌, drop, length, get_or, map, refl, sym, ap, subst, ◌∙◌, arith, inl, inr, ◌==◌, if◌then◌else◌, nat_lt, Contains, IsTotalOrder, slice_cmp, nat_cmp, ordering_then, ordering_reverse, Ordering, Less, Equal, Greater, cond-true, cond-false, le-ltb, eq-eqb, ne_eqb, cases_order, tied_itself, Contains-get_or}
use Rattle.dexspec.specs.{rank, uint_at, ushort_at, Text, text_cmp, Proto, Field, Method, proto_cmp, field_cmp, method_cmp, StringIds, ProtoIds, FieldIds, MethodIds, row_at, TypeRow, ProtoRow, FieldRow, MethodRow, type_indices, key_cmp, type_row_key, proto_row_key, HasString, HasType, HasProto, HasField, HasMethod, text_index, type_index, proto_index, type_list_bytes, Ordered, unless_empty}
use Rattle.dexspec.proofs.lists.{Contains-first, Contains-later, Rises, rank-place, rank-get_or, nat_less, nat_more}
use Rattle.dexspec.proofs.merge.SymbolOrders.{text_total, proto_total, field_total, method_total}
use Rattle.dexspec.proofs.determined.OneText.{one_string_data}
use Rattle.dexspec.proofs.layout.SectionPlaces.{Laid}
use Rattle.dexspec.proofs.layout.HeaderLaws.{AreFew}
use Rattle.dexspec.proofs.layout.Uses.{UseIsAt}
use Rattle.dexspec.proofs.layout.RowsRead.{type_read, proto_read, field_read, method_read, type_list_indices}
use Rattle.dexspec.proofs.layout.PoolsAreAt.{ArePools, text_row_at, type_row, proto_row, field_row, method_row}

-- ---- ranks are in the order of the symbols

-- equal numbers are equal by order
nat_same : (x y : ℕ) → x ≡ y → nat_cmp x y ≡ Equal
nat_same x y e = cond-false (nat_lt x y) Less _ (le-ltb x y (omega (arith, e))) ∙ cond-true (x == y) Equal Greater (eq-eqb x y e)

-- a further key that is equal does not matter
then_equal : (o : Ordering) → ordering_then o Equal ≡ o
then_equal Less = refl
then_equal _ = refl

-- three keys in sequence
three_keys : {o o' p p' q q' : Ordering} → o ≡ o' → p ≡ p' → q ≡ q' → ordering_then o (ordering_then p (ordering_then q Equal)) ≡ ordering_then o' (ordering_then p' q')
three_keys {o} {o'} {p} {p'} {q} {q'} e f g =
    ap (λ x. ordering_then x (ordering_then p (ordering_then q Equal))) e ∙ ap (λ x. ordering_then o' (ordering_then x (ordering_then q Equal))) f
    ∙ ap (λ x. ordering_then o' (ordering_then p' x)) (then_equal q ∙ g)

module _ {X : Type 0} (R : X → X → Ordering) where
  -- an earlier member of a rising list is less
  pub rises_at : (xs : List X) (i j : ℕ) (d : X) → Rises R xs → i < j → j < length xs → R (get_or xs i d) (get_or xs j d) ≡ Less
  rises_at (x ∷ xs) zero (suc j) d h lt less = h.0 (get_or xs j d) (Contains-get_or xs j d (omega arith))
  rises_at (x ∷ xs) (suc i) (suc j) d h lt less = rises_at xs i j d h.1 (omega arith) (omega arith)
  rises_at _ i _ d h lt less = absurd (omega arith)

  -- the ranks of members are in the order of the members
  pub ranks_agree : IsTotalOrder R → (xs : List X) (s t : X) → Rises R xs → Contains xs s → Contains xs t → nat_cmp (rank R s xs) (rank R t xs) ≡ R s t
  ranks_agree o xs s t h c d =
      let i = rank R s xs in
      let j = rank R t xs in
      let at_s = rank-place R o xs s s h c in
      let at_t = rank-place R o xs t s h d in
      let before : (x y : X) (k n : ℕ) → k < n → n < length xs → get_or xs k s ≡ x → get_or xs n s ≡ y → R x y ≡ Less =
      λ x y k n lt less e f. ap (λ z. R z y) (sym e) ∙ ap (R (get_or xs k s)) (sym f) ∙ rises_at xs k n s h lt less in
      elim (cases_order i j) [
        | inl same ↦ nat_same i j same ∙ sym (ap (R s) (sym at_t.1 ∙ ap (λ n. get_or xs n s) (sym same) ∙ at_s.1) ∙ tied_itself o s)
        | inr apart ↦ elim apart [
          | inl lt ↦ nat_less i j lt ∙ sym (before s t i j lt at_t.0 at_s.1 at_t.1)
          | inr gt ↦ nat_more i j gt ∙ sym (o.antisymm s t ∙ ap ordering_reverse (before t s j i gt at_s.0 at_t.1 at_s.1))
        ]
      ]

  -- lists of ranks are in the order of the lists of members
  pub lists_agree : (f : X → ℕ) (xs ys : List X) → ((s t : X) → Contains xs s → Contains ys t → nat_cmp (f s) (f t) ≡ R s t) → slice_cmp nat_cmp (map f xs) (map f ys) ≡ slice_cmp R xs ys
  lists_agree f [] [] h = refl
  lists_agree f [] (y ∷ ys) h = refl
  lists_agree f (x ∷ xs) [] h = refl
  lists_agree f (x ∷ xs) (y ∷ ys) h =
      ap (λ o. ordering_then o (slice_cmp nat_cmp (map f xs) (map f ys))) (h x y (Contains-first x xs) (Contains-first y ys))
      ∙ ap (ordering_then (R x y)) (lists_agree f xs ys (λ s t c d. h s t (Contains-later x s xs c) (Contains-later y t ys d)))

-- ---- the rows are in order

-- the key of a proto's list of types
key_of_list : {K : Ordered} {b : List ℕ} → Laid K b → AreFew K → (ts : List Text) (o : ℕ) → UseIsAt b 4 (type_list_bytes K.pools) (unless_empty ts) o
    → (if o == 0 then [] else type_indices b o) ≡ map (type_index K.pools) ts
key_of_list {K} {b} h few [] o s = cond-true (o == 0) [] (type_indices b o) (eq-eqb o 0 s)
key_of_list {K} {b} h few (t ∷ ts) o s = cond-false (o == 0) [] (type_indices b o) (ne_eqb o 0 s.some) ∙ type_list_indices h few (t ∷ ts) s

module _ {K : Ordered} {b : List ℕ} (h : Laid K b) (few : AreFew K) (p : ArePools K.pools) where
  -- the numbers of texts are in the order of the texts
  texts_agree : (s t : Text) → Contains K.pools.texts s → Contains K.pools.texts t → nat_cmp (text_index K.pools s) (text_index K.pools t) ≡ text_cmp s t
  texts_agree s t c d = ranks_agree text_cmp text_total K.pools.texts s t p.texts_rise c d

  -- of types
  types_agree : (s t : Text) → Contains K.pools.types s → Contains K.pools.types t → nat_cmp (type_index K.pools s) (type_index K.pools t) ≡ text_cmp s t
  types_agree s t c d = ranks_agree text_cmp text_total K.pools.types s t p.types_rise c d

  -- of protos
  protos_agree : (s t : Proto) → Contains K.pools.protos s → Contains K.pools.protos t → nat_cmp (proto_index K.pools s) (proto_index K.pools t) ≡ proto_cmp s t
  protos_agree s t c d = ranks_agree proto_cmp proto_total K.pools.protos s t p.protos_rise c d

  -- 11 Strings
  pub string_holds : (i : ℕ) → i < length K.pools.texts → HasString b i
  string_holds i lt = record {
    text = get_or K.pools.texts i [];
    is = text_row_at h few p i [] lt;
    follows = λ j before e row.
        let less : j < i = omega (arith, e) in
        let own = text_row_at h few p j [] (omega (arith, less, lt)) in
        let same = (one_string_data (drop (uint_at b (row_at b StringIds j)) b) before (get_or K.pools.texts j []) row.encodes.0 own.encodes.0 row.encodes.1 own.encodes.1).0 in
        ap (λ (s : Text). text_cmp s (get_or K.pools.texts i [])) same ∙ rises_at text_cmp K.pools.texts j i [] p.texts_rise less lt;
  }

  -- 12 Types
  pub type_holds : (i : ℕ) → i < length K.pools.types → HasType b i
  type_holds i lt =
      let ts = K.pools.types in
      let t = get_or ts i [] in
      record {
        item = t;
        is = subst (λ n. TypeRow b n t) (rank-get_or text_cmp text_total ts i [] p.types_rise lt) (type_row h few p t (Contains-get_or ts i [] lt));
        follows = λ j e.
            let less : j < i = omega (arith, e) in
            let lt' : j < length ts = omega (arith, less, lt) in
            let s = get_or ts j [] in
            let order : nat_cmp (text_index K.pools s) (text_index K.pools t) ≡ Less =
            texts_agree s t (p.type_text s (Contains-get_or ts j [] lt')) (p.type_text t (Contains-get_or ts i [] lt)) ∙ rises_at text_cmp ts j i [] p.types_rise less lt in
            ap (λ n. key_cmp (n ∷ []) (type_row_key b i)) (type_read h j [] lt') ∙ ap (λ n. key_cmp (text_index K.pools s ∷ []) (n ∷ [])) (type_read h i [] lt) ∙ then_equal _ ∙ order;
      }

  -- a proto's key
  proto_key : (i : ℕ) (d : Proto) → i < length K.pools.protos → proto_row_key b i ≡ type_index K.pools (get_or K.pools.protos i d).return_type ∷ map (type_index K.pools) (get_or K.pools.protos i d).parameters
  proto_key i d lt =
      let q = get_or K.pools.protos i d in
      let r = proto_read h i d lt in
      let o = uint_at b (row_at b ProtoIds i + 8) in
      ap (λ n. n ∷ (if o == 0 then [] else type_indices b o)) r.return_is ∙ ap (λ l. type_index K.pools q.return_type ∷ l) (key_of_list h few q.parameters o r.parameters_are)

  -- 13 Protos
  pub proto_holds : (i : ℕ) → i < length K.pools.protos → HasProto b i
  proto_holds i lt =
      let d : Proto = record { return_type = []; parameters = [] } in
      let qs = K.pools.protos in
      let q = get_or qs i d in
      let c = Contains-get_or qs i d lt in
      let f = type_index K.pools in
      record {
        item = q;
        is = subst (λ n. ProtoRow b n q) (rank-get_or proto_cmp proto_total qs i d p.protos_rise lt) (proto_row h few p q c);
        follows = λ j e.
            let less : j < i = omega (arith, e) in
            let lt' : j < length qs = omega (arith, less, lt) in
            let s = get_or qs j d in
            let c' = Contains-get_or qs j d lt' in
            ap (λ k. key_cmp k (proto_row_key b i)) (proto_key j d lt') ∙ ap (key_cmp (f s.return_type ∷ map f s.parameters)) (proto_key i d lt)
            ∙ ap (λ o. ordering_then o (slice_cmp nat_cmp (map f s.parameters) (map f q.parameters))) (types_agree s.return_type q.return_type (p.proto_return s c') (p.proto_return q c))
            ∙ ap (ordering_then (text_cmp s.return_type q.return_type))
            (lists_agree text_cmp f s.parameters q.parameters (λ t u x y. types_agree t u (p.proto_parameter s t c' x) (p.proto_parameter q u c y)))
            ∙ rises_at proto_cmp qs j i d p.protos_rise less lt;
      }

  -- 14 Fields
  pub field_holds : (i : ℕ) → i < length K.pools.fields → HasField b i
  field_holds i lt =
      let d : Field = record { class = []; name = []; type = [] } in
      let fs = K.pools.fields in
      let g = get_or fs i d in
      let c = Contains-get_or fs i d lt in
      let k = field_read h few i d lt in
      record {
        item = g;
        is = subst (λ n. FieldRow b n g) (rank-get_or field_cmp field_total fs i d p.fields_rise lt) (field_row h few p g c);
        follows = λ j e.
            let less : j < i = omega (arith, e) in
            let lt' : j < length fs = omega (arith, less, lt) in
            let f = get_or fs j d in
            let c' = Contains-get_or fs j d lt' in
            let k' = field_read h few j d lt' in
            let classes : nat_cmp (ushort_at b (row_at b FieldIds j)) (ushort_at b (row_at b FieldIds i)) ≡ text_cmp f.class g.class =
            ap (λ n. nat_cmp n (ushort_at b (row_at b FieldIds i))) k'.class_is ∙ ap (nat_cmp (type_index K.pools f.class)) k.class_is ∙ types_agree f.class g.class (p.field_class f c') (p.field_class g c) in
            let names : nat_cmp (uint_at b (row_at b FieldIds j + 4)) (uint_at b (row_at b FieldIds i + 4)) ≡ text_cmp f.name g.name =
            ap (λ n. nat_cmp n (uint_at b (row_at b FieldIds i + 4))) k'.name_is ∙ ap (nat_cmp (text_index K.pools f.name)) k.name_is ∙ texts_agree f.name g.name (p.field_name f c') (p.field_name g c) in
            let types : nat_cmp (ushort_at b (row_at b FieldIds j + 2)) (ushort_at b (row_at b FieldIds i + 2)) ≡ text_cmp f.type g.type =
            ap (λ n. nat_cmp n (ushort_at b (row_at b FieldIds i + 2))) k'.type_is ∙ ap (nat_cmp (type_index K.pools f.type)) k.type_is ∙ types_agree f.type g.type (p.field_type f c') (p.field_type g c) in
            three_keys classes names types ∙ rises_at field_cmp fs j i d p.fields_rise less lt;
      }

  -- 15 Methods
  pub method_holds : (i : ℕ) → i < length K.pools.methods → HasMethod b i
  method_holds i lt =
      let d : Method = record { class = []; name = []; proto = record { return_type = []; parameters = [] } } in
      let xs = K.pools.methods in
      let y = get_or xs i d in
      let c = Contains-get_or xs i d lt in
      let k = method_read h few i d lt in
      record {
        item = y;
        is = subst (λ n. MethodRow b n y) (rank-get_or method_cmp method_total xs i d p.methods_rise lt) (method_row h few p y c);
        follows = λ j e.
            let less : j < i = omega (arith, e) in
            let lt' : j < length xs = omega (arith, less, lt) in
            let x = get_or xs j d in
            let c' = Contains-get_or xs j d lt' in
            let k' = method_read h few j d lt' in
            let classes : nat_cmp (ushort_at b (row_at b MethodIds j)) (ushort_at b (row_at b MethodIds i)) ≡ text_cmp x.class y.class =
            ap (λ n. nat_cmp n (ushort_at b (row_at b MethodIds i))) k'.class_is ∙ ap (nat_cmp (type_index K.pools x.class)) k.class_is ∙ types_agree x.class y.class (p.method_class x c') (p.method_class y c) in
            let names : nat_cmp (uint_at b (row_at b MethodIds j + 4)) (uint_at b (row_at b MethodIds i + 4)) ≡ text_cmp x.name y.name =
            ap (λ n. nat_cmp n (uint_at b (row_at b MethodIds i + 4))) k'.name_is ∙ ap (nat_cmp (text_index K.pools x.name)) k.name_is ∙ texts_agree x.name y.name (p.method_name x c') (p.method_name y c) in
            let protos : nat_cmp (ushort_at b (row_at b MethodIds j + 2)) (ushort_at b (row_at b MethodIds i + 2)) ≡ proto_cmp x.proto y.proto =
            ap (λ n. nat_cmp n (ushort_at b (row_at b MethodIds i + 2))) k'.proto_is ∙ ap (nat_cmp (proto_index K.pools x.proto)) k.proto_is ∙ protos_agree x.proto y.proto (p.method_proto x c') (p.method_proto y c) in
            three_keys classes names protos ∙ rises_at method_cmp xs j i d p.methods_rise less lt;
      }
