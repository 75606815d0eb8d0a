-- Ranks compare as members do, so the indices of rising members rise too; each symbol of a definition is in the row of
-- its index; and which symbols occur in which part of a definition.
use Rattle.dexspec.proofs.Common.{◌≡◌, ℕ, List, [], ◌∷◌, ◌++◌, map, Option, Some, refl, sym, ap, ◌∙◌, subst, arith, inl, inr, Ordering, Less, IsTrue, option_to_list, ◌&&◌, Contains, flat_map, nat_cmp, is_lt, ordering_then, ordering_reverse, IsTotalOrder, cases_lt, tied_itself, Contains-append_left, Contains-append_right, Code, Mentions}
use Rattle.dexspec.specs.{rank, rises, Text, text_cmp, Symbol, TextSymbol, TypeSymbol, ProtoSymbol, FieldSymbol, MethodSymbol, field_cmp, method_cmp, proto_cmp, StringIds, TypeIds, ProtoIds, FieldIds, MethodIds, AnnotationSet, FieldDef, MethodDef, Body, Definition, declared_fields, declared_methods, mentions, symbols_of, field_of, method_of, set_symbols, code_symbols, field_symbols, method_symbols, values_symbols, optional_type, optional_text, field_index, method_index, IsWellFormed, field_key, field_key_cmp, method_key, method_key_cmp}
use Rattle.dexspec.proofs.lists.{Contains-first, Contains-later, Contains-flat_map, Rises, Rises-places, rank-place, nat_more, rank_one, nat_less, nat_tied}
use Rattle.dexspec.proofs.merge.{text_total, proto_total, field_total, method_total, mentions-rising, texts-listed, types-listed, protos-listed, fields-listed, methods-listed}
use Rattle.dexspec.proofs.written.{IsInRow, AreInRows, IndicesRise, own_first, field_occurs, method_occurs}
use Rattle.dexspec.proofs.normal.NormalRows.{IsNormal, count_small, string_ranked, type_ranked, proto_ranked, field_ranked, method_ranked}

-- ---- ranks

-- ranks of members compare as the members
pub rank_cmp : {K : Type 0} (R : K → K → Ordering) → IsTotalOrder R → (xs : List K) → Rises R xs → (s t : K) → Contains xs s → Contains xs t → nat_cmp (rank R s xs) (rank R t xs) ≡ R s t
rank_cmp R o xs rising s t c d =
    let i = rank R s xs in
    let j = rank R t xs in
    let p = rank-place R o xs s s rising c in
    let q = rank-place R o xs t s rising d in
    elim (cases_lt i j) [
      | inl lt ↦ nat_less i j lt ∙ sym ((λ k. R (sym p.1 k) (sym q.1 k)) ∙ Rises-places R o xs i j s rising lt q.0)
      | inr ge ↦ elim (cases_lt j i) [
        | inl gt ↦
            let less : R t s ≡ Less = (λ k. R (sym q.1 k) (sym p.1 k)) ∙ Rises-places R o xs j i s rising gt p.0 in
            nat_more i j gt ∙ sym (o.antisymm s t ∙ ap ordering_reverse less)
        | inr le ↦
            let e : i ≡ j = omega arith in
            let same = rank_one R o xs rising s t c d e in
            ap (nat_cmp i) (sym e) ∙ nat_tied i ∙ sym (ap (R s) (sym same) ∙ tied_itself o s)
      ]
    ]

-- if the members of two lists compare in the same way, both lists rise or neither does
pub rises_equally : {A B X : Type 0} (R : A → A → Ordering) (S : B → B → Ordering) (f : X → A) (g : X → B) (xs : List X) → ((x y : X) → Contains xs x → Contains xs y → R (f x) (f y) ≡ S (g x) (g y)) → rises R (map f xs) ≡ rises S (map g xs)
rises_equally R S f g [] h = refl
rises_equally R S f g (x ∷ []) h = refl
rises_equally R S f g (x ∷ y ∷ xs) h =
    let first = h x y (Contains-first x (y ∷ xs)) (Contains-later x y (y ∷ xs) (Contains-first y xs)) in
    let rest = rises_equally R S f g (y ∷ xs) (λ z w c d. h z w (Contains-later x z (y ∷ xs) c) (Contains-later x w (y ∷ xs) d)) in
    λ i. is_lt (first i) && rest i

-- ---- members

-- fields of one class compare by their keys
pub field_cmp_key : (name : Text) (f g : FieldDef) → field_cmp (field_of name f) (field_of name g) ≡ field_key_cmp (field_key f) (field_key g)
field_cmp_key name f g = ap (λ (r : Ordering). ordering_then r (field_key_cmp (field_key f) (field_key g))) (tied_itself text_total name)

-- methods of one class compare by their keys
pub method_cmp_key : (name : Text) (x y : MethodDef) → method_cmp (method_of name x) (method_of name y) ≡ method_key_cmp (method_key x) (method_key y)
method_cmp_key name x y = ap (λ (r : Ordering). ordering_then r (method_key_cmp (method_key x) (method_key y))) (tied_itself text_total name)

-- the symbol is in its pool
abbrev pub IsMentioned : Mentions → Symbol → Type 0
IsMentioned m (TextSymbol s) = Contains m.texts s
IsMentioned m (TypeSymbol t) = Contains m.types t
IsMentioned m (ProtoSymbol p) = Contains m.protos p
IsMentioned m (FieldSymbol f) = Contains m.fields f
IsMentioned m (MethodSymbol x) = Contains m.methods x

-- a symbol that occurs in a definition is mentioned
pub mentioned : (D : List Definition) (d : Definition) (s : Symbol) → Contains D d → Contains (symbols_of d) s → IsMentioned (mentions D) s
mentioned D d (TextSymbol s) c k = texts-listed D s (record { definition = d; symbol = TextSymbol s; member = c; occurs = k; part = Contains-first s [] })
mentioned D d (TypeSymbol t) c k = types-listed D t (record { definition = d; symbol = TypeSymbol t; member = c; occurs = k; part = Contains-first t [] })
mentioned D d (ProtoSymbol p) c k = protos-listed D p (record { definition = d; symbol = ProtoSymbol p; member = c; occurs = k; part = Contains-first p [] })
mentioned D d (FieldSymbol f) c k = fields-listed D f (record { definition = d; symbol = FieldSymbol f; member = c; occurs = k; part = Contains-first f [] })
mentioned D d (MethodSymbol x) c k = methods-listed D x (record { definition = d; symbol = MethodSymbol x; member = c; occurs = k; part = Contains-first x [] })

module _ (D : List Definition) (name : Text) (c : Body) (in_file : Contains D (name, c)) where
  -- a declared field is mentioned
  pub field_mentioned : (f : FieldDef) → Contains (declared_fields c) f → Contains (mentions D).fields (field_of name f)
  field_mentioned f k = mentioned D (name, c) (FieldSymbol (field_of name f)) in_file (field_occurs name c f k)

  -- a declared method is mentioned
  pub method_mentioned : (x : MethodDef) → Contains (declared_methods c) x → Contains (mentions D).methods (method_of name x)
  method_mentioned x k = mentioned D (name, c) (MethodSymbol (method_of name x)) in_file (method_occurs name c x k)

  -- the indices of rising fields rise
  field_indices_rise : (fs : List FieldDef) → ((f : FieldDef) → Contains fs f → Contains (declared_fields c) f) → IsTrue (rises field_key_cmp (map field_key fs)) → IsTrue (rises nat_cmp (map (λ f. field_index (mentions D) (field_of name f)) fs))
  field_indices_rise fs among rise =
      rises_equally nat_cmp field_key_cmp (λ f. field_index (mentions D) (field_of name f)) field_key fs
      (λ f g k l. rank_cmp field_cmp field_total (mentions D).fields (mentions-rising D).fields (field_of name f) (field_of name g) (field_mentioned f (among f k)) (field_mentioned g (among g l)) ∙ field_cmp_key name f g)
      ∙ rise

  -- the indices of rising methods rise
  method_indices_rise : (xs : List MethodDef) → ((x : MethodDef) → Contains xs x → Contains (declared_methods c) x) → IsTrue (rises method_key_cmp (map method_key xs)) → IsTrue (rises nat_cmp (map (λ x. method_index (mentions D) (method_of name x)) xs))
  method_indices_rise xs among rise =
      rises_equally nat_cmp method_key_cmp (λ x. method_index (mentions D) (method_of name x)) method_key xs
      (λ x y k l. rank_cmp method_cmp method_total (mentions D).methods (mentions-rising D).methods (method_of name x) (method_of name y) (method_mentioned x (among x k)) (method_mentioned y (among y l)) ∙ method_cmp_key name x y)
      ∙ rise

  -- the indices of the members of a well-formed definition rise
  pub indices_rise : IsWellFormed (name, c) → IndicesRise (mentions D) name c
  indices_rise is = (
    field_indices_rise c.static_fields (Contains-append_left c.static_fields c.instance_fields) is.static_fields,
    field_indices_rise c.instance_fields (Contains-append_right c.static_fields c.instance_fields) is.instance_fields,
    method_indices_rise c.direct_methods (Contains-append_left c.direct_methods c.virtual_methods) is.direct_methods,
    method_indices_rise c.virtual_methods (Contains-append_right c.direct_methods c.virtual_methods) is.virtual_methods,
  )

-- ---- rows

module _ (D : List Definition) (b : List ℕ) (n : IsNormal D b) where
  -- a mentioned symbol is in the row of its index, which fits
  pub symbol_in_row : (s : Symbol) → IsMentioned (mentions D) s → IsInRow b (mentions D) s
  symbol_in_row (TextSymbol s) c = let p = rank-place text_cmp text_total (mentions D).texts s s (mentions-rising D).texts c in (string_ranked D b n s c, omega (arith, p.0, count_small D b n StringIds))
  symbol_in_row (TypeSymbol t) c = let p = rank-place text_cmp text_total (mentions D).types t t (mentions-rising D).types c in (type_ranked D b n t c, omega (arith, p.0, count_small D b n TypeIds))
  symbol_in_row (ProtoSymbol q) c = let p = rank-place proto_cmp proto_total (mentions D).protos q q (mentions-rising D).protos c in (proto_ranked D b n q c, omega (arith, p.0, count_small D b n ProtoIds))
  symbol_in_row (FieldSymbol f) c = let p = rank-place field_cmp field_total (mentions D).fields f f (mentions-rising D).fields c in (field_ranked D b n f c, omega (arith, p.0, count_small D b n FieldIds))
  symbol_in_row (MethodSymbol x) c = let p = rank-place method_cmp method_total (mentions D).methods x x (mentions-rising D).methods c in (method_ranked D b n x c, omega (arith, p.0, count_small D b n MethodIds))

  -- all symbols of a definition are in the rows of their indices
  pub symbols_in_rows : (d : Definition) → Contains D d → AreInRows b (mentions D) (symbols_of d)
  symbols_in_rows d c = λ s k. symbol_in_row s (mentioned D d s c k)

-- ---- the symbols of the parts of a definition

module _ (name : Text) (c : Body) where
  -- the symbols of a class's own set
  pub own_set_occurs : (s : Symbol) → Contains (set_symbols c.annotations) s → Contains (symbols_of (name, c)) s
  unfolding symbols_of
  own_set_occurs s is =
      let members = flat_map (field_symbols name) (declared_fields c) ++ (flat_map (method_symbols name) (declared_methods c) ++ values_symbols c.static_values) in
      let r3 = set_symbols c.annotations ++ members in
      let r2 = optional_text c.source ++ r3 in
      let r1 = map TypeSymbol c.interfaces ++ r2 in
      let r0 = optional_type c.superclass ++ r1 in
      Contains-later (TypeSymbol name) s r0
      (Contains-append_right (optional_type c.superclass) r1 s
      (Contains-append_right (map TypeSymbol c.interfaces) r2 s (Contains-append_right (optional_text c.source) r3 s (Contains-append_left (set_symbols c.annotations) members s is))))

  -- the symbols of a field's set
  pub field_set_occurs : (f : FieldDef) (s : Symbol) → Contains (declared_fields c) f → Contains (set_symbols f.annotations) s → Contains (symbols_of (name, c)) s
  field_set_occurs f s k is =
      let fields = flat_map (field_symbols name) (declared_fields c) in
      let others = flat_map (method_symbols name) (declared_methods c) ++ values_symbols c.static_values in
      own_first name c s (Contains-append_left fields others s (Contains-flat_map (field_symbols name) (declared_fields c) f s k (Contains-later (FieldSymbol (field_of name f)) s (set_symbols f.annotations) is)))

  -- the symbols of a method
  in_method : (x : MethodDef) (s : Symbol) → Contains (declared_methods c) x → Contains (flat_map code_symbols (option_to_list x.code) ++ (set_symbols x.annotations ++ flat_map set_symbols x.parameter_annotations)) s → Contains (symbols_of (name, c)) s
  in_method x s k is =
      let fields = flat_map (field_symbols name) (declared_fields c) in
      let methods = flat_map (method_symbols name) (declared_methods c) in
      let following = flat_map code_symbols (option_to_list x.code) ++ (set_symbols x.annotations ++ flat_map set_symbols x.parameter_annotations) in
      own_first name c s (Contains-append_right fields (methods ++ values_symbols c.static_values) s
      (Contains-append_left methods (values_symbols c.static_values) s (Contains-flat_map (method_symbols name) (declared_methods c) x s k (Contains-later (MethodSymbol (method_of name x)) s following is))))

  -- the symbols of its code
  pub code_occurs : (x : MethodDef) (k : Code) (s : Symbol) → Contains (declared_methods c) x → x.code ≡ Some k → Contains (code_symbols k) s → Contains (symbols_of (name, c)) s
  code_occurs x k s l e is =
      let codes = flat_map code_symbols (option_to_list x.code) in
      let here : Contains codes s = subst (λ (o : Option Code). Contains (flat_map code_symbols (option_to_list o)) s) (sym e) (Contains-append_left (code_symbols k) [] s is) in
      in_method x s l (Contains-append_left codes (set_symbols x.annotations ++ flat_map set_symbols x.parameter_annotations) s here)

  -- the symbols of its set
  pub method_set_occurs : (x : MethodDef) (s : Symbol) → Contains (declared_methods c) x → Contains (set_symbols x.annotations) s → Contains (symbols_of (name, c)) s
  method_set_occurs x s l is =
      let codes = flat_map code_symbols (option_to_list x.code) in
      in_method x s l (Contains-append_right codes (set_symbols x.annotations ++ flat_map set_symbols x.parameter_annotations) s (Contains-append_left (set_symbols x.annotations) (flat_map set_symbols x.parameter_annotations) s is))

  -- the symbols of its parameters' sets
  pub parameter_set_occurs : (x : MethodDef) (set : AnnotationSet) (s : Symbol) → Contains (declared_methods c) x → Contains x.parameter_annotations set → Contains (set_symbols set) s → Contains (symbols_of (name, c)) s
  parameter_set_occurs x set s l m is =
      let codes = flat_map code_symbols (option_to_list x.code) in
      in_method x s l (Contains-append_right codes (set_symbols x.annotations ++ flat_map set_symbols x.parameter_annotations) s
      (Contains-append_right (set_symbols x.annotations) (flat_map set_symbols x.parameter_annotations) s (Contains-flat_map set_symbols x.parameter_annotations set s m is)))

  -- the symbols of the static values
  pub static_values_occur : (s : Symbol) → Contains (values_symbols c.static_values) s → Contains (symbols_of (name, c)) s
  static_values_occur s is =
      let fields = flat_map (field_symbols name) (declared_fields c) in
      let methods = flat_map (method_symbols name) (declared_methods c) in
      own_first name c s (Contains-append_right fields (methods ++ values_symbols c.static_values) s (Contains-append_right methods (values_symbols c.static_values) s is))
