-- Where the parameters of joined rows are: in the lists of the tables, one after the other.
use Rattle.dexpool.proofs.Common.{◌≡◌, ℕ, ◌+◌, ◌-◌, ◌<◌, List, [], ◌++◌, length, get_or, take, drop, set, refl, sym, ap, ◌∙◌, subst, arith, inl, inr, slice_index, Contains, length-append, length-map, drop_at, drop-drop, get_or-map, get_or-set_same, get_or-set_other, get_or_default, cases_eq, cases_order, on_total, key_cmp, text_total, Rises-from_rises, Rises-places, irreflexive, row_cmp, IsImage, IsJoin, ProtoNumbers, ProtoEntry, Span, span_of, HasSpan, HasSpans, numbers_of, numbers_in}
use Rattle.dexpool.specs.declared.renumbering.Protos.{Protos}
use Rattle.dexpool.specs.internal.Joining.{proto_key}
use Rattle.dexpool.specs.internal.SharedLists.{HasParametersOf, AreImages, shifted}
use Rattle.dexpool.proofs.Pairs.{zip_target}
use Rattle.dexpool.proofs.StoredProtos.{span_grown}

-- a part of a list that follows others
span_after : (xs ys : List ℕ) (s : Span) → span_of (xs ++ ys) (shifted (length xs) s) ≡ span_of ys s
span_after xs ys s =
    ap (λ (n : ℕ). take n (drop (length xs + s.start) (xs ++ ys))) (omega arith) ∙ ap (take (s.end - s.start)) (sym (drop-drop s.start (length xs) (xs ++ ys)) ∙ ap (drop s.start) (drop_at xs ys (length xs) refl))

-- a part stays as it was where the list grows
pub parameters_grown : (ps more : List ℕ) (protos : List ProtoNumbers) (k : ℕ) (s : Span) → HasParametersOf ps protos k s → HasParametersOf (ps ++ more) protos k s
parameters_grown ps more protos k s h = (record { ordered = h.0.ordered; within = omega (arith, h.0.within, length-append ps more) }, λ d. span_grown ps more s h.0 ∙ h.1 d)

-- the parameters of a table's rows are those of the rows at their images
pub are_images : (ps : List ℕ) (table : Protos) (joined : List ProtoNumbers) (image : List ℕ) → HasSpans table → IsImage proto_key joined (numbers_in table) image → AreImages (ps ++ table.parameters.items) joined (length ps) table.rows.items image
are_images ps table joined image spans is i d lt =
    let own = table.parameters.items in
    let row = get_or table.rows.items i d in
    let h : HasSpan own row.parameters = spans i d lt in
    let in_part : i < length (numbers_in table) = omega (arith, lt, length-map table.rows.items (numbers_of own)) in (
      record { ordered = omega (arith, h.ordered); within = omega (arith, h.within, length-append ps own) },
      λ e. span_after ps own row.parameters ∙ sym (ap (λ (l : List ℕ). drop 1 l) (is.same i e in_part ∙ ap proto_key (get_or-map (numbers_of own) table.rows.items i d e lt))),
    )

-- ---- one place is written

module _ (ps : List ℕ) (protos : List ProtoNumbers) (base : ℕ) (rows : List ProtoEntry) (images : List ℕ) (are : AreImages ps protos base rows images) (places : List Span) (i : ℕ) (d : ProtoEntry) (lt : i < length rows) (there : slice_index images i < length places)
    (place : Span) (is : place ≡ shifted base (get_or rows i d).parameters) where
  pub placed_at : (e : Span) → HasParametersOf ps protos (slice_index images i) (get_or (set places (slice_index images i) place) (slice_index images i) e)
  placed_at e = subst (HasParametersOf ps protos (slice_index images i)) (sym (get_or-set_same places (slice_index images i) place e there ∙ is)) (are i d lt)

  pub kept_at : (k : ℕ) (e : Span) → HasParametersOf ps protos k (get_or places k e) → HasParametersOf ps protos k (get_or (set places (slice_index images i) place) k e)
  kept_at k e h = elim (cases_eq k (slice_index images i)) [
    | inl same ↦ subst (λ (n : ℕ). HasParametersOf ps protos n (get_or (set places (slice_index images i) place) n e)) (sym same) (placed_at e)
    | inr other ↦ subst (HasParametersOf ps protos k) (sym (get_or-set_other places (slice_index images i) k place e other)) h
  ]

-- ---- each joined row is placed

module _ (tables : List (List ProtoNumbers)) (joined : List ProtoNumbers) (images : List (List ℕ)) (j : IsJoin proto_key tables joined images) where
  one_key : (m n : ℕ) (d : ProtoNumbers) → m < length joined → n < length joined → proto_key (get_or joined m d) ≡ proto_key (get_or joined n d) → m ≡ n
  one_key m n d in_m in_n e =
      let rises = Rises-from_rises (row_cmp proto_key) (on_total proto_key text_total) joined j.sorted in
      elim (cases_order m n) [
        | inl same ↦ same
        | inr (inl lt) ↦ absurd (irreflexive key_cmp text_total (proto_key (get_or joined m d)) (proto_key (get_or joined n d)) e (Rises-places (row_cmp proto_key) (on_total proto_key text_total) joined m n d rises lt in_n))
        | inr (inr lt) ↦ absurd (irreflexive key_cmp text_total (proto_key (get_or joined n d)) (proto_key (get_or joined m d)) (sym e) (Rises-places (row_cmp proto_key) (on_total proto_key text_total) joined n m d rises lt in_m))
      ]

  -- each place is an image
  pub has_image : (k : ℕ) → k < length joined → (image : List ℕ) × Contains images image × Contains image k
  has_image k lt =
      let d : ProtoNumbers = record { shorty = 0; return_type = 0; parameters = [] } in
      let row = get_or joined k d in
      let w = j.rows_of k d lt in
      let z = zip_target (IsImage proto_key joined) tables images w.part j.parts_in w.is_part in
      let i = w.has.0 in
      let same : slice_index z.0 i ≡ k = one_key (slice_index z.0 i) k row (z.2.within i w.has.1) lt (z.2.same i row w.has.1 ∙ ap proto_key (w.has.2 ∙ sym (get_or_default joined k row d lt))) in
      let less : i < length z.0 = omega (arith, w.has.1, z.2.count) in
      (z.0, z.1, (i, less, get_or_default z.0 i k 0 less ∙ same))
