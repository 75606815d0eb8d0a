-- The members that a directory names, by indices and by symbols.
use Rattle.dexmembers.proofs.Common.{◌≡◌, ℕ, ◌+◌, ◌*◌, ◌<◌, true, List, [], ◌∷◌, ◌++◌, length, get_or, map, refl, sym, ap, ◌∙◌, subst, inl, inr, Ordering, All, AllZip, Contains, nat_cmp, IsTotalOrder, map-append, All-head, All-tail, All-nil, All-cons, All-contains, Contains-append_left, Contains-append_right, Contains-append_cases, rises, OrNone, field_cmp, method_cmp, FieldIds, MethodIds, table_size, FieldRow, MethodRow, Directory, DirectoryAt, no_directory, PairAt, PairsAt, pairs_at, SetAt, RefListAt, fields_count, methods_count, parameters_count, EncodedField, EncodedMethod, fields_of, methods_of, NamesDeclared, Mentions, Contains-map, Contains-map_source, one_field, one_method, field_total, method_total, Rises, Rises-from_rises, AreRising, AreAll, ArePools, places_agree, rises-map}
use Rattle.dexmembers.specs.internal.ClassData.{encoded_field_in, encoded_method_in, class_data_in, IsDataOf}
use Rattle.dexmembers.specs.internal.Naming.{NamesRead, fields_read, methods_read}
use Rattle.dexmembers.specs.declared.class_data.EncodedField.{EncodedField as FieldRead}
use Rattle.dexmembers.specs.declared.class_data.EncodedMethod.{EncodedMethod as MethodRead}
use Rattle.dexmembers.specs.declared.class_data.ClassData.{ClassData as DataRead}
use Rattle.dexmembers.proofs.Owned.{one_place}
use Rattle.dexmembers.proofs.RenumberingKept.{no_field, no_method}

module _ {K : Type 0} (R : K → K → Ordering) (o : IsTotalOrder R) (Row : List ℕ → ℕ → K → Type 0) (one : (b : List ℕ) (i : ℕ) (x y : K) → Row b i x → Row b i y → x ≡ y) (b : List ℕ) (size : ℕ) (within : (i : ℕ) (x : K) → Row b i x → i < size)
    (ks : List K) (rise : rises R ks ≡ true) (rows : AreAll Row b size ks) (none : K) where
  -- a row's index is that of a symbol
  index_below : (i : ℕ) (x : K) → Row b i x → i < length ks
  index_below i x h = subst (λ (k : ℕ). i < k) (sym rows.count) (within i x h)

  -- and this symbol is that of the row
  symbol_is : (i : ℕ) (x : K) → Row b i x → get_or ks i none ≡ x
  symbol_is i x h = one b i (get_or ks i none) x (rows.each i none (within i x h)) h

  -- where pairs name indices of some, entries name symbols of these
  pub names_symbols : {Y : Type 0} (At : List ℕ → ℕ → Y → Type 0) (numbers : List ℕ) (symbols : List K) → ((i : ℕ) → Contains numbers i → Contains symbols (get_or ks i none)) → (ps : List (ℕ × ℕ)) (es : List (K × Y))
      → AllZip (PairAt Row At b) ps es → All (λ (p : ℕ × ℕ). Contains numbers p.0) ps → All (λ (e : K × Y). Contains symbols e.0) es
  names_symbols {Y} At numbers symbols up [] [] h all = All-nil (λ (e : K × Y). Contains symbols e.0)
  names_symbols At numbers symbols up [] (e ∷ es) h all = absurd h
  names_symbols At numbers symbols up (p ∷ ps) [] h all = absurd h
  names_symbols {Y} At numbers symbols up (p ∷ ps) (e ∷ es) h all =
      All-cons (λ (x : K × Y). Contains symbols x.0) e es (subst (Contains symbols) (symbol_is p.0 e.0 h.0.0) (up p.0 (All-head (λ (x : ℕ × ℕ). Contains numbers x.0) p ps all)))
      (names_symbols At numbers symbols up ps es h.1 (All-tail (λ (x : ℕ × ℕ). Contains numbers x.0) p ps all))

  -- and back
  pub names_numbers : {Y : Type 0} (At : List ℕ → ℕ → Y → Type 0) (numbers : List ℕ) (symbols : List K) → ((i : ℕ) → i < length ks → Contains symbols (get_or ks i none) → Contains numbers i) → (ps : List (ℕ × ℕ)) (es : List (K × Y))
      → AllZip (PairAt Row At b) ps es → All (λ (e : K × Y). Contains symbols e.0) es → All (λ (p : ℕ × ℕ). Contains numbers p.0) ps
  names_numbers At numbers symbols down [] [] h all = All-nil (λ (p : ℕ × ℕ). Contains numbers p.0)
  names_numbers At numbers symbols down [] (e ∷ es) h all = absurd h
  names_numbers At numbers symbols down (p ∷ ps) [] h all = absurd h
  names_numbers {Y} At numbers symbols down (p ∷ ps) (e ∷ es) h all =
      All-cons (λ (x : ℕ × ℕ). Contains numbers x.0) p ps (down p.0 (index_below p.0 e.0 h.0.0) (subst (Contains symbols) (sym (symbol_is p.0 e.0 h.0.0)) (All-head (λ (x : K × Y). Contains symbols x.0) e es all)))
      (names_numbers At numbers symbols down ps es h.1 (All-tail (λ (x : K × Y). Contains symbols x.0) e es all))

  -- the symbols of entries are those of the indices
  symbols_are : {Y : Type 0} (At : List ℕ → ℕ → Y → Type 0) (ps : List (ℕ × ℕ)) (es : List (K × Y)) → AllZip (PairAt Row At b) ps es → map (λ (e : K × Y). e.0) es ≡ map (λ (i : ℕ). get_or ks i none) (map (λ (p : ℕ × ℕ). p.0) ps)
  symbols_are At [] [] h = refl
  symbols_are At [] (e ∷ es) h = absurd h
  symbols_are At (p ∷ ps) [] h = absurd h
  symbols_are At (p ∷ ps) (e ∷ es) h =
      let first = sym (symbol_is p.0 e.0 h.0.0) in
      let rest = symbols_are At ps es h.1 in
      λ i. first i ∷ rest i

  indices_below : {Y : Type 0} (At : List ℕ → ℕ → Y → Type 0) (ps : List (ℕ × ℕ)) (es : List (K × Y)) → AllZip (PairAt Row At b) ps es → All (λ (i : ℕ). i < length ks) (map (λ (p : ℕ × ℕ). p.0) ps)
  indices_below At [] [] h = All-nil (λ (i : ℕ). i < length ks)
  indices_below At [] (e ∷ es) h = absurd h
  indices_below At (p ∷ ps) [] h = absurd h
  indices_below At (p ∷ ps) (e ∷ es) h = All-cons (λ (i : ℕ). i < length ks) p.0 (map (λ (x : ℕ × ℕ). x.0) ps) (index_below p.0 e.0 h.0.0) (indices_below At ps es h.1)

  -- so they rise
  pub symbols_rise : {Y : Type 0} (At : List ℕ → ℕ → Y → Type 0) (p n : ℕ) (es : List (K × Y)) → PairsAt Row At b p n es → Rises R (map (λ (e : K × Y). e.0) es)
  symbols_rise {Y} At p n es h =
      let is = map (λ (x : ℕ × ℕ). x.0) (pairs_at b p n) in
      let up : rises R (map (λ (i : ℕ). get_or ks i none) is) ≡ true =
      sym (rises-map nat_cmp R (λ (i : ℕ). get_or ks i none) (λ (i : ℕ). i < length ks) (λ i j lt lt'. places_agree R o ks rise i j none none lt lt') is (indices_below At (pairs_at b p n) es h.pairs)) ∙ h.rise in
      subst (Rises R) (sym (symbols_are At (pairs_at b p n) es h.pairs)) (Rises-from_rises R o (map (λ (i : ℕ). get_or ks i none) is) up)

  module _ {X E : Type 0} (enc : X → E) (symbol : E → K) (index : X → ℕ) (is : (x : X) → symbol (enc x) ≡ get_or ks (index x) none) where
    -- the symbol of an index of two lists is one of these lists
    symbols_have : (xs : List X) (i : ℕ) → Contains (map index xs) i → Contains (map symbol (map enc xs)) (get_or ks i none)
    symbols_have xs i c =
        let x = Contains-map_source index xs i c in
        subst (Contains (map symbol (map enc xs))) (is x.0 ∙ ap (λ (k : ℕ). get_or ks k none) x.2) (Contains-map symbol (map enc xs) (enc x.0) (Contains-map enc xs x.0 x.1))

    numbers_have : (xs : List X) → All (λ (x : X). index x < length ks) xs → (i : ℕ) → i < length ks → Contains (map symbol (map enc xs)) (get_or ks i none) → Contains (map index xs) i
    numbers_have xs below i lt c =
        let e = Contains-map_source symbol (map enc xs) (get_or ks i none) c in
        let x = Contains-map_source enc xs e.0 e.1 in
        let same : get_or ks (index x.0) none ≡ get_or ks i none = sym (is x.0) ∙ ap symbol x.2 ∙ e.2 in
        let number = one_place R o ks rise (index x.0) i none (All-contains (λ (y : X). index y < length ks) xs x.0 below x.1) lt same in
        subst (Contains (map index xs)) number (Contains-map index xs x.0 x.1)

    pub both_symbols : (xs ys : List X) (i : ℕ) → Contains (map index xs ++ map index ys) i → Contains (map symbol (map enc xs ++ map enc ys)) (get_or ks i none)
    both_symbols xs ys i c =
        let s = get_or ks i none in
        subst (λ (l : List K). Contains l s) (sym (map-append symbol (map enc xs) (map enc ys)))
        (elim (Contains-append_cases (map index xs) (map index ys) i c) as (λ _. Contains (map symbol (map enc xs) ++ map symbol (map enc ys)) s) [
          | inl l ↦ Contains-append_left (map symbol (map enc xs)) (map symbol (map enc ys)) s (symbols_have xs i l)
          | inr r ↦ Contains-append_right (map symbol (map enc xs)) (map symbol (map enc ys)) s (symbols_have ys i r)
        ])

    pub both_numbers : (xs ys : List X) → All (λ (x : X). index x < length ks) xs → All (λ (x : X). index x < length ks) ys → (i : ℕ) → i < length ks → Contains (map symbol (map enc xs ++ map enc ys)) (get_or ks i none) → Contains (map index xs ++ map index ys) i
    both_numbers xs ys below below' i lt c =
        let s = get_or ks i none in
        elim (Contains-append_cases (map symbol (map enc xs)) (map symbol (map enc ys)) s (subst (λ (l : List K). Contains l s) (map-append symbol (map enc xs) (map enc ys)) c)) as (λ _. Contains (map index xs ++ map index ys) i) [
          | inl l ↦ Contains-append_left (map index xs) (map index ys) i (numbers_have xs below i lt l)
          | inr r ↦ Contains-append_right (map index xs) (map index ys) i (numbers_have ys below' i lt r)
        ]

module _ (b : List ℕ) (m : Mentions) (pools : ArePools b m) (rising : AreRising m) (off : ℕ) (a : Directory) (at : DirectoryAt b off a) where
  -- the members of a directory rise
  pub fields_rise : Rises field_cmp (map (λ e. e.0) a.fields)
  fields_rise = symbols_rise field_cmp field_total FieldRow one_field b (table_size b FieldIds) (λ i x r. r.row) m.fields rising.fields_rise pools.fields_are no_field SetAt (off + 16) (fields_count b off) a.fields at.fields

  pub methods_rise : Rises method_cmp (map (λ e. e.0) a.methods)
  methods_rise = symbols_rise method_cmp method_total MethodRow one_method b (table_size b MethodIds) (λ i x r. r.row) m.methods rising.methods_rise pools.methods_are no_method SetAt (off + 16 + 8 * fields_count b off) (methods_count b off) a.methods at.methods

  pub parameters_rise : Rises method_cmp (map (λ e. e.0) a.parameters)
  parameters_rise = symbols_rise method_cmp method_total MethodRow one_method b (table_size b MethodIds) (λ i x r. r.row) m.methods rising.methods_rise pools.methods_are no_method RefListAt (off + 16 + 8 * (fields_count b off + methods_count b off)) (parameters_count b off) a.parameters at.parameters

  module _ (r : ℕ) (read : DataRead) (is : IsDataOf b r m read) where
    -- where the pairs name members that were read, the directory names declared ones
    pub named_members : NamesRead b off read → NamesDeclared a (class_data_in m read)
    named_members h = record {
      fields = names_symbols field_cmp field_total FieldRow one_field b (table_size b FieldIds) (λ i x g. g.row) m.fields rising.fields_rise pools.fields_are no_field SetAt (fields_read read) (map (λ (x : EncodedField). x.field) (fields_of (class_data_in m read)))
          (both_symbols field_cmp field_total FieldRow one_field b (table_size b FieldIds) (λ i x g. g.row) m.fields rising.fields_rise pools.fields_are no_field (encoded_field_in m) (λ (x : EncodedField). x.field) (λ (x : FieldRead). x.index) (λ x. refl) read.static_fields.items read.instance_fields.items)
          (pairs_at b (off + 16) (fields_count b off)) a.fields at.fields.pairs h.fields_named;
      methods = names_symbols method_cmp method_total MethodRow one_method b (table_size b MethodIds) (λ i x g. g.row) m.methods rising.methods_rise pools.methods_are no_method SetAt (methods_read read) (map (λ (x : EncodedMethod). x.method) (methods_of (class_data_in m read)))
          (both_symbols method_cmp method_total MethodRow one_method b (table_size b MethodIds) (λ i x g. g.row) m.methods rising.methods_rise pools.methods_are no_method (encoded_method_in m) (λ (x : EncodedMethod). x.method) (λ (x : MethodRead). x.index) (λ x. refl) read.direct_methods.items read.virtual_methods.items)
          (pairs_at b (off + 16 + 8 * fields_count b off) (methods_count b off)) a.methods at.methods.pairs h.methods_named;
      parameters = names_symbols method_cmp method_total MethodRow one_method b (table_size b MethodIds) (λ i x g. g.row) m.methods rising.methods_rise pools.methods_are no_method RefListAt (methods_read read) (map (λ (x : EncodedMethod). x.method) (methods_of (class_data_in m read)))
          (both_symbols method_cmp method_total MethodRow one_method b (table_size b MethodIds) (λ i x g. g.row) m.methods rising.methods_rise pools.methods_are no_method (encoded_method_in m) (λ (x : EncodedMethod). x.method) (λ (x : MethodRead). x.index) (λ x. refl) read.direct_methods.items read.virtual_methods.items)
          (pairs_at b (off + 16 + 8 * (fields_count b off + methods_count b off)) (parameters_count b off)) a.parameters at.parameters.pairs h.parameters_named;
    }

    -- and back
    pub named_indices : NamesDeclared a (class_data_in m read) → NamesRead b off read
    named_indices h = record {
      fields_named = names_numbers field_cmp field_total FieldRow one_field b (table_size b FieldIds) (λ i x g. g.row) m.fields rising.fields_rise pools.fields_are no_field SetAt (fields_read read) (map (λ (x : EncodedField). x.field) (fields_of (class_data_in m read)))
          (both_numbers field_cmp field_total FieldRow one_field b (table_size b FieldIds) (λ i x g. g.row) m.fields rising.fields_rise pools.fields_are no_field (encoded_field_in m) (λ (x : EncodedField). x.field) (λ (x : FieldRead). x.index) (λ x. refl) read.static_fields.items read.instance_fields.items is.static_fields_are.fields_in is.instance_fields_are.fields_in)
          (pairs_at b (off + 16) (fields_count b off)) a.fields at.fields.pairs h.fields;
      methods_named = names_numbers method_cmp method_total MethodRow one_method b (table_size b MethodIds) (λ i x g. g.row) m.methods rising.methods_rise pools.methods_are no_method SetAt (methods_read read) (map (λ (x : EncodedMethod). x.method) (methods_of (class_data_in m read)))
          (both_numbers method_cmp method_total MethodRow one_method b (table_size b MethodIds) (λ i x g. g.row) m.methods rising.methods_rise pools.methods_are no_method (encoded_method_in m) (λ (x : EncodedMethod). x.method) (λ (x : MethodRead). x.index) (λ x. refl) read.direct_methods.items read.virtual_methods.items is.direct_methods_are.methods_in is.virtual_methods_are.methods_in)
          (pairs_at b (off + 16 + 8 * fields_count b off) (methods_count b off)) a.methods at.methods.pairs h.methods;
      parameters_named = names_numbers method_cmp method_total MethodRow one_method b (table_size b MethodIds) (λ i x g. g.row) m.methods rising.methods_rise pools.methods_are no_method RefListAt (methods_read read) (map (λ (x : EncodedMethod). x.method) (methods_of (class_data_in m read)))
          (both_numbers method_cmp method_total MethodRow one_method b (table_size b MethodIds) (λ i x g. g.row) m.methods rising.methods_rise pools.methods_are no_method (encoded_method_in m) (λ (x : EncodedMethod). x.method) (λ (x : MethodRead). x.index) (λ x. refl) read.direct_methods.items read.virtual_methods.items is.direct_methods_are.methods_in is.virtual_methods_are.methods_in)
          (pairs_at b (off + 16 + 8 * (fields_count b off + methods_count b off)) (parameters_count b off)) a.parameters at.parameters.pairs h.parameters;
    }

-- the members of each list of a directory rise, where there is one
pub directory_rises : (b : List ℕ) (m : Mentions) → ArePools b m → AreRising m → (off : ℕ) (a : Directory) → OrNone DirectoryAt no_directory b off a
    → Rises field_cmp (map (λ e. e.0) a.fields) × Rises method_cmp (map (λ e. e.0) a.methods) × Rises method_cmp (map (λ e. e.0) a.parameters)
directory_rises b m pools rising off a (inr h) = (fields_rise b m pools rising off a h.1, methods_rise b m pools rising off a h.1, parameters_rise b m pools rising off a h.1)
directory_rises b m pools rising off a (inl h) =
    subst (λ (d : Directory). Rises field_cmp (map (λ e. e.0) d.fields) × Rises method_cmp (map (λ e. e.0) d.methods) × Rises method_cmp (map (λ e. e.0) d.parameters)) (sym h.1) (tt, tt, tt)
