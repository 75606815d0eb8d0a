-- The entries of a directory that was read are in the order of their numbers.
use Rattle.dexmembers.proofs.Common.{◌≡◌, ℕ, ◌+◌, ◌*◌, ◌<◌, true, List, [], ◌∷◌, length, get_or, map, refl, sym, ap, ◌∙◌, subst, Ordering, All, AllZip, nat_cmp, IsTotalOrder, nat_cmp-IsAntisymmetric, tied_itself, All-head, All-tail, rises, field_cmp, method_cmp, FieldIds, MethodIds, table_size, FieldRow, MethodRow, PairAt, PairsAt, pairs_at, SetAt, RefListAt, fields_count, methods_count, parameters_count, Mentions, one_field, one_method, field_total, method_total, AreRising, AreAll, ArePools, places_agree, NumberedDirectory, set_in, IsDirectoryAt}
use Rattle.dexmembers.specs.internal.Attaching.{EntriesRise}

module _ {K : Type 0} (R : K → K → Ordering) (o : IsTotalOrder R) (Row : List ℕ → ℕ → K → Type 0) (one : (b : List ℕ) (i : ℕ) (x y : K) → Row b i x → Row b i y → x ≡ y) (b : List ℕ) (size : ℕ) (within : (i : ℕ) (x : K) → Row b i x → i < size)
    (ks : List K) (rise : rises R ks ≡ true) (rows : AreAll Row b size ks) (none : K) where
  -- a row of the symbol of a number has that number
  pub row_number : (i n : ℕ) → n < length ks → Row b i (get_or ks n none) → i ≡ n
  row_number i n lt h =
      let in_table = within i (get_or ks n none) h in
      let here : i < length ks = subst (λ (k : ℕ). i < k) (sym rows.count) in_table in
      let same : get_or ks i none ≡ get_or ks n none = one b i (get_or ks i none) (get_or ks n none) (rows.each i none in_table) h in
      nat_cmp-IsAntisymmetric i n (places_agree R o ks rise i n none none here lt ∙ ap (λ (x : K). R x (get_or ks n none)) same ∙ tied_itself o (get_or ks n none))

  -- so the indices of pairs are the numbers of entries
  pub numbers_same : {X Y : Type 0} (At : List ℕ → ℕ → Y → Type 0) (inside : X → Y) (ps : List (ℕ × ℕ)) (es : List (ℕ × X)) → All (λ (e : ℕ × X). e.0 < length ks) es
      → AllZip (PairAt Row At b) ps (map (λ (e : ℕ × X). (get_or ks e.0 none, inside e.1)) es) → map (λ (p : ℕ × ℕ). p.0) ps ≡ map (λ (e : ℕ × X). e.0) es
  numbers_same At inside [] [] below h = refl
  numbers_same At inside [] (e ∷ es) below h = absurd h
  numbers_same At inside (p ∷ ps) [] below h = absurd h
  numbers_same {X} At inside (p ∷ ps) (e ∷ es) below h =
      let first = row_number p.0 e.0 (All-head (λ (x : ℕ × X). x.0 < length ks) e es below) h.0.0 in
      let rest = numbers_same At inside ps es (All-tail (λ (x : ℕ × X). x.0 < length ks) e es below) h.1 in
      λ i. first i ∷ rest i

  -- which rise
  pub entries_rise : {X Y : Type 0} (At : List ℕ → ℕ → Y → Type 0) (inside : X → Y) (p n : ℕ) (es : List (ℕ × X)) → All (λ (e : ℕ × X). e.0 < length ks) es
      → PairsAt Row At b p n (map (λ (e : ℕ × X). (get_or ks e.0 none, inside e.1)) es) → EntriesRise es
  entries_rise At inside p n es below h = ap (rises nat_cmp) (sym (numbers_same At inside (pairs_at b p n) es below h.pairs)) ∙ h.rise

module _ (b : List ℕ) (m : Mentions) (pools : ArePools b m) (rising : AreRising m) (off : ℕ) (d : NumberedDirectory) (h : IsDirectoryAt b off m d) where
  -- those of fields
  pub field_entries_rise : EntriesRise d.fields
  field_entries_rise = entries_rise field_cmp field_total FieldRow one_field b (table_size b FieldIds) (λ i x r. r.row) m.fields rising.fields_rise pools.fields_are (record { class = []; name = []; type = [] })
      SetAt (set_in m) (off + 16) (fields_count b off) d.fields (λ k e lt. (h.known.fields_known k e lt).0) h.at.fields

  -- of methods
  pub method_entries_rise : EntriesRise d.methods
  method_entries_rise = entries_rise method_cmp method_total MethodRow one_method b (table_size b MethodIds) (λ i x r. r.row) m.methods rising.methods_rise pools.methods_are (record { class = []; name = []; proto = record { return_type = []; parameters = [] } })
      SetAt (set_in m) (off + 16 + 8 * fields_count b off) (methods_count b off) d.methods (λ k e lt. (h.known.methods_known k e lt).0) h.at.methods

  -- and of their parameters
  pub list_entries_rise : EntriesRise d.parameters
  list_entries_rise = entries_rise method_cmp method_total MethodRow one_method b (table_size b MethodIds) (λ i x r. r.row) m.methods rising.methods_rise pools.methods_are (record { class = []; name = []; proto = record { return_type = []; parameters = [] } })
      RefListAt (map (set_in m)) (off + 16 + 8 * (fields_count b off + methods_count b off)) (parameters_count b off) d.parameters (λ k e lt. (h.known.parameters_known k e lt).0) h.at.parameters
